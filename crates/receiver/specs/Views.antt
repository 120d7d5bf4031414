-- What the code's reader is, in the words of the rules of reading.
use Rattle.std.specs.Prelude.{◌≡◌, ℕ, ◌+◌, ◌<◌, ◌≤◌, Bool, true, false, List, [], ◌∷◌, Some, None, Option}
use Rattle.framing.specs.Fragments.{Fragment, fragments_from}
use Rattle.receiver.specs.Accounting.{body_size}
use Rattle.receiver.specs.Reading as rules
use Rattle.receiver.specs.Reading.{Standing, aligned, gathering, seeking, Found}
use Rattle.receiver.specs.declared.state.State.{State}
use Rattle.receiver.specs.declared.state.State.TheVariants.{Aligned, Gathering, Seeking}
use Rattle.receiver.specs.declared.reader.Reader.{Reader}

abbrev pub standing_in : State → List ℕ → Standing
standing_in (Aligned next) gathered = aligned
standing_in Gathering gathered = gathering gathered
standing_in Seeking gathered = seeking

abbrev pub hand_in : State → List ℕ → List Fragment
hand_in (Aligned next) frame = fragments_from frame next
hand_in Gathering frame = []
hand_in Seeking frame = []

abbrev pub standing_of : Reader → Standing
standing_of r = standing_in r.state r.gathered.items

-- A reader as the rules of reading have it.
abbrev pub view : Reader → rules.Reader
view r = record { standing = standing_of r; number = r.number; in_hand = hand_in r.state r.frame.bytes }

-- What is found where a packet was completed: what was gathered.
abbrev pub gathered_if : Bool → List ℕ → Option (List ℕ)
gathered_if true gathered = Some gathered
gathered_if false gathered = None

-- What going through the frame in hand came to: whether a packet was found, which is then what the reader has gathered.
abbrev pub found_as : Bool → Reader → Found
found_as completed r =
    record { found = gathered_if completed r.gathered.items; standing = standing_of r; unread = hand_in r.state r.frame.bytes }

-- Reading these fragments, the reader never has more than so many bytes of one packet.
abbrev pub Within : ℕ → Standing → List Fragment → Type 0
Within most r [] = Unit {0}
Within most r (f ∷ fs) = (rules.dropped r + body_size f ≤ most) × Within most (rules.after_one r f) fs

-- An aligned reader keeps in hand what begins at this index.
abbrev pub Rests : State → ℕ → Type 0
Rests (Aligned next) at = next ≡ at
Rests Gathering at = Unit {0}
Rests Seeking at = Unit {0}

-- One fragment, whose header stands at an index, was read: the next header stands at another, and a packet was completed, or
-- none.
pub record Stepped (before : Reader) (at : ℕ) (completed : Bool) (next : ℕ) (after : Reader) : Type 0 where
  pub fragment : Fragment
  pub was_next : fragments_from before.frame.bytes at ≡ fragment ∷ fragments_from before.frame.bytes next
  pub moves : (at < next) × (next ≤ 122)
  pub stands : standing_of after ≡ rules.after_one (standing_of before) fragment
  pub rests : Rests after.state next
  pub finds : gathered_if completed after.gathered.items ≡ rules.completed (standing_of before) fragment
  pub frame_stays : after.frame ≡ before.frame
  pub number_stays : after.number ≡ before.number

-- A reader that reads on at an index of its frame.
abbrev pub reads_at : Reader → ℕ → rules.Reader
reads_at r at = record { standing = standing_of r; number = r.number; in_hand = fragments_from r.frame.bytes at }
