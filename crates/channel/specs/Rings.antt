-- The slots that a ring keeps in its memory.
use Rattle.std.specs.Prelude.{◌≡◌, ℕ, zero, suc, ◌+◌, ◌-◌, ◌*◌, ◌/◌, ◌%◌, min, cond, List, [], ◌∷◌, ◌++◌, length, take, drop, ◌==◌, slice_index}
use Rattle.framing.specs.declared.slot.Slot.{Slot}
use Rattle.framing.specs.declared.slot.Slot.TheVariants.{Frame, Mark}
use Rattle.channel.specs.declared.ring.Ring.{Ring}

-- how many whole slots of 123 bytes the memory has
abbrev pub capacity : List ℕ → ℕ
capacity memory = length memory / 123

-- a slot is kept as a byte that is 0 for a frame, and then the frame's 122 bytes
abbrev pub slot_of : ℕ → List ℕ → Slot
slot_of tag bytes = cond (tag == 0) (Frame (record { bytes = bytes })) Mark

-- the slot at a place of the memory, places counted from 0
abbrev pub slot_at : List ℕ → ℕ → Slot
slot_at memory place = slot_of (slice_index memory (place * 123)) (take 122 (drop (place * 123 + 1) memory))

-- so many slots from a place on, going round after the last of `size` places
abbrev pub going_round : (ℕ → Slot) → ℕ → ℕ → ℕ → List Slot
going_round at size place zero = []
going_round at size place (suc n) = at (place % size) ∷ going_round at size (place + 1) n

-- the place that is so many behind a ring's first slot
abbrev pub place_behind : Ring → ℕ → ℕ
place_behind r i = (r.first % capacity r.memory.now + i) % capacity r.memory.now

-- the slots that wait in a ring, never more than its capacity
abbrev pub kept : Ring → List Slot
kept r =
    going_round (slot_at r.memory.now) (capacity r.memory.now) r.first (min r.count (capacity r.memory.now))

-- a ring's room: its capacity less the slots that wait
abbrev pub room_in : Ring → ℕ
room_in r = capacity r.memory.now - length (kept r)

-- a ring changes nothing: what it makes of a frame is that very frame
abbrev pub Unchanged : List ℕ → Slot → Type 0
Unchanged f s = s ≡ Frame (record { bytes = f })

-- a ring leans on nothing below it
abbrev pub RingTied : Ring → Type 0
RingTied r = Unit {0}

-- outside the 123 bytes of one place the memory is as it was
pub record OnlyAt (place : ℕ) (old new : List ℕ) : Type 0 where
  pub before : take (place * 123) new ≡ take (place * 123) old
  pub behind : drop (place * 123 + 123) new ≡ drop (place * 123 + 123) old
  pub long : length new ≡ length old

-- One slot more at the end of a ring, and one less room. The memory is the same and as long as it was, and what lies past its
-- last whole slot is as it was.
pub record Pushed (s : Slot) (old new : Ring) : Type 0 where
  pub same : new.memory.ghost_name ≡ old.memory.ghost_name
  pub grew : kept new ≡ kept old ++ s ∷ []
  pub fell : room_in old ≡ room_in new + 1
  pub long : length new.memory.now ≡ length old.memory.now
  pub spare : drop (capacity old.memory.now * 123) new.memory.now ≡ drop (capacity old.memory.now * 123) old.memory.now

-- the first slot was taken off a ring, and its place is free; the memory is as it was
pub record Popped (s : Slot) (old new : Ring) : Type 0 where
  pub gave : kept old ≡ s ∷ kept new
  pub freed : room_in new ≡ room_in old + 1
  pub memory : new.memory ≡ old.memory
