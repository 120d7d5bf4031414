use Rattle.std.proofs.Common.{◌≡◌, ◌++◌, string_bytes}
use Rattle.std.specs.List.{flat_map}
use Rattle.framing.specs.Giving.{coming}
use Rattle.wording.specs.Answers.{fragment_line}
use Rattle.wording.proofs.answering.all_fragments_text.Given as goal

-- the lines of the fragments so far, and then those of the fragments still to come, are those of all
abbrev pub invariant-loop-fragment : goal.invariant-loop-fragment
invariant-loop-fragment l =
    string_bytes l.text ++ flat_map fragment_line (coming l.fragment-iterator) ≡ flat_map fragment_line (coming l.fn.fragments)
