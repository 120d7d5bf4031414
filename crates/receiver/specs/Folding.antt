-- Reading is a fold over the slots, however the readings lie between other calls.
use Rattle.std.specs.Prelude.{◌≡◌, ℕ, Bool, List, [], ◌∷◌, ◌++◌, map, length, drop, Some, Option}
use Rattle.framing.specs.declared.slot.Slot.{Slot}
use Rattle.receiver.specs.Answering.{Answer, handed_out, short, lost, torn, mark, nothing, answer_to}
use Rattle.receiver.specs.Reading.{Told, told_of, aligned, Reader, owed, listed, reading}

-- The answers that are still owed: of the frame in hand, and then of the slots that wait.
abbrev pub answers_owed : (fasb : Bool) (width : ℕ) (value : List ℕ → List ℕ) (refusal : List ℕ → Option ℕ) → Reader → List Slot → List Answer
answers_owed fasb width value refusal r slots = map (λ t. answer_to width value refusal (Some t)) (owed fasb width r slots)

-- an answer, where it is not nothing
abbrev pub given : Answer → List Answer
given (handed_out quality packet) = handed_out quality packet ∷ []
given short = short ∷ []
given (lost number dropped) = lost number dropped ∷ []
given (torn number dropped question place) = torn number dropped question place ∷ []
given (mark dropped) = mark dropped ∷ []
given nothing = []

-- What happens to a channel and its reader: slots arrive at the end, or there is a reading.
pub data Happening : Type 0 where
  arrive : List Slot → Happening
  read : Happening

-- all slots that arrive
abbrev pub arriving : List Happening → List Slot
arriving [] = []
arriving (arrive slots ∷ rest) = slots ++ arriving rest
arriving (read ∷ rest) = arriving rest

-- What is told, reading after reading, the reader then, and the slots that then wait.
pub record Course : Type 0 where
  pub told : List Told
  pub reader : Reader
  pub waiting : List Slot

abbrev pub telling : List Told → Course → Course
telling told c = record { told = told ++ c.told; reader = c.reader; waiting = c.waiting }

abbrev pub course : (fasb : Bool) (width : ℕ) → Reader → List Slot → List Happening → Course
course fasb width r slots [] = record { told = []; reader = r; waiting = slots }
course fasb width r slots (arrive more ∷ rest) = course fasb width r (slots ++ more) rest
course fasb width r slots (read ∷ rest) =
    telling (listed (reading fasb width r slots).told) (course fasb width (reading fasb width r slots).reader (drop (length (reading fasb width r slots).taken) slots) rest)

-- Whatever happens, in whatever order, from these slots on: all that was told, and then what is owed, is what the rules tell
-- of all slots to a reader that is aligned at the beginning.
abbrev pub Folds : Reader → Type 0
Folds r =
    (fasb : Bool) (width : ℕ) (slots : List Slot) (happenings : List Happening)
    → (course fasb width r slots happenings).told ++ owed fasb width (course fasb width r slots happenings).reader (course fasb width r slots happenings).waiting
    ≡ told_of fasb width aligned 0 (slots ++ arriving happenings)
