-- What the code tells of the slots, in the words of the rules of reading.
use Rattle.std.specs.Prelude.{◌≡◌, ℕ, ◌+◌, ◌≤◌, Bool, List, [], ◌∷◌, ◌++◌, length, Some, None, Option}
use Rattle.framing.specs.Fragments.{fragments_from}
use Rattle.framing.specs.declared.slot.Slot.{Slot}
use Rattle.framing.specs.Judging.{fault_number}
use Rattle.receiver.specs.Reading as rules
use Rattle.receiver.specs.Reading.{reading, reading_slots, behind, Outcome}
use Rattle.receiver.specs.Views.{view, standing_of, reads_at, Rests, Within}
use Rattle.receiver.specs.declared.reader.Reader.{Reader}
use Rattle.receiver.specs.declared.told.Told.{Told}
use Rattle.receiver.specs.declared.told.Told.TheVariants.{Packet, Lost, Torn, Mark}

-- A packet is what was gathered.
abbrev pub in_rules : Told → (gathered : List ℕ) → rules.Told
in_rules Packet gathered = rules.packet gathered
in_rules (Lost loss) gathered = rules.lost loss.frame loss.dropped
in_rules (Torn loss torn) gathered = rules.torn_frame loss.frame loss.dropped (fault_number torn.fault) torn.at
in_rules (Mark dropped) gathered = rules.mark dropped

abbrev pub told_by : Option Told → (gathered : List ℕ) → Option rules.Told
told_by None gathered = None
told_by (Some told) gathered = Some (in_rules told gathered)

-- A reader with nothing in hand took a lawful frame: it reads on at the frame's first header, and no packet becomes too long.
pub record Holds (fasb : Bool) (width : ℕ) (before : Reader) (slot : Slot) (after : Reader) : Type 0 where
  pub reads_on : (rest : List Slot) → reading_slots fasb width (standing_of before) before.number (slot ∷ rest) ≡ behind slot (reading fasb width (reads_at after 0) rest)
  pub rests : Rests after.state 0
  pub fits : Within (2044 + width) (standing_of after) (fragments_from after.frame.bytes 0)

-- A packet that is told of is no longer than any packet with its checksum.
abbrev pub Fitting : ℕ → Told → (gathered : List ℕ) → Type 0
Fitting width Packet gathered = length gathered ≤ 2044 + width
Fitting width (Lost loss) gathered = Unit {0}
Fitting width (Torn loss torn) gathered = Unit {0}
Fitting width (Mark dropped) gathered = Unit {0}

-- A reader with nothing in hand took a slot: there is something to tell of it, or it is a lawful frame.
abbrev pub Received : Bool → ℕ → Reader → Slot → Option Told → Reader → Type 0
Received fasb width before slot (Some told) after =
    ((rest : List Slot) → reading_slots fasb width (standing_of before) before.number (slot ∷ rest) ≡ record { told = Some (in_rules told after.gathered.items); reader = view after; taken = slot ∷ [] })
    × Fitting width told after.gathered.items
Received fasb width before slot None after = Holds fasb width before slot after

-- A reading came to this outcome: it told so, the reader is now so, and of the slots that waited these still wait.
pub record Ends (outcome : Outcome) (old : List Slot) (told : Option rules.Told) (r : Reader) (new : List Slot) : Type 0 where
  pub tells : told ≡ outcome.told
  pub stands : view r ≡ outcome.reader
  pub takes : old ≡ outcome.taken ++ new
