-- Giving the fragments of a frame one at a time.
use Rattle.std.specs.Prelude.{◌≡◌, ℕ, ◌<◌, ◌≤◌, cond, List, [], ◌∷◌, length, Some, None, Ok, Err, Option, Result, ◌==◌}
use Rattle.framing.specs.Judging.{judgment, Verdict, lawful, torn, fault_number}
use Rattle.framing.specs.Fragments as rules
use Rattle.framing.specs.declared.fragments.Fragments.{Fragments}
use Rattle.framing.specs.declared.fragments.Fragment.{Fragment}
use Rattle.framing.specs.declared.fragments.Fragment.TheVariants.{Body, Notional, Padding}
use Rattle.framing.specs.declared.fragments.FragmentsFault.{FragmentsFault}
use Rattle.framing.specs.declared.fragments.FragmentsFault.TheVariants.{NotAFrame, Torn}

-- What asking for the fragments comes to: they are given, or a refusal by a number, or a torn frame.
pub data Asked : Type 0 where
  gives : Asked
  refuses : (number : ℕ) → Asked
  is_torn : (number place : ℕ) → Asked

abbrev pub of_verdict : Verdict → Asked
of_verdict lawful = gives
of_verdict (torn number place) = is_torn number place

-- 10: are 122 bytes handed in? Then the frame is judged, with no packet open.
abbrev pub asked : List ℕ → Asked
asked bytes = cond (length bytes == 122) (of_verdict (judgment 0 None bytes).verdict) (refuses 10)

abbrev pub shown : Fragment → rules.Fragment
shown (Body at part last) = rules.body at part.now last
shown (Notional at) = rules.notional at
shown (Padding at) = rules.padding at

abbrev pub answer : Result Fragments FragmentsFault → Asked
answer (Ok f) = gives
answer (Err NotAFrame) = refuses 10
answer (Err (Torn t)) = is_torn (fault_number t.fault) t.at

-- The fragments still to come.
abbrev pub coming : Fragments → List rules.Fragment
coming f = rules.fragments_from f.bytes.now f.at

-- What stands at an index: nothing behind the last byte; else the first of the fragments from there on, and the index at which
-- the others begin.
abbrev pub FoundAt : List ℕ → ℕ → Option (Fragment × ℕ) → Type 0
FoundAt bytes at None = (length bytes ≤ at) × (rules.fragments_from bytes at ≡ [])
FoundAt bytes at (Some (fragment, next)) =
    (rules.fragments_from bytes at ≡ shown fragment ∷ rules.fragments_from bytes next) × ((at < next) × (next ≤ length bytes))

-- One fragment is asked for: the first of those to come is given and the others are still to come, or, where none is
-- left, nothing is given and nothing changes. The frame stays.
abbrev pub Gives : Fragments → Option Fragment → Fragments → Type 0
Gives before None after = (coming before ≡ []) × (after ≡ before)
Gives before (Some f) after = (coming before ≡ shown f ∷ coming after) × (after.bytes ≡ before.bytes)
