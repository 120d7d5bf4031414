use Rattle.std.proofs.Common.{◌≡◌, take, string_bytes}
use Rattle.std.specs.List.{flat_map}
use Rattle.wording.specs.Replies.{line_of}
use Rattle.wording.proofs.replies.drained_text.Given as goal

abbrev pub invariant-loop-answered : goal.invariant-loop-answered
invariant-loop-answered l = string_bytes l.text ≡ flat_map line_of (take l.answered-index l.all)
