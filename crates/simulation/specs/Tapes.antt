-- The meaning of a tape as a channel. What was put stays on it; taking only moves on.
use Rattle.std.specs.Prelude.{◌≡◌, ℕ, ◌+◌, ◌-◌, ◌≤◌, List, [], ◌∷◌, ◌++◌, length, map, drop, vec_items, vec_len, vec_capacity}
use Rattle.framing.specs.declared.frame.Frame as framing
use Rattle.framing.specs.declared.slot.Slot.{Slot}
use Rattle.channel.specs.declared.sending.Outgoing.{Outgoing}
use Rattle.channel.specs.declared.sending.Outgoing.TheVariants.{Frame, Mark}
use Rattle.channel.specs.Sending.{Arrives}
use Rattle.simulation.specs.declared.tape.Passage.{Passage}
use Rattle.simulation.specs.declared.tape.Tape.{Tape}

-- a frame that was changed is as long as it was
abbrev pub AsLong : (old new : framing.Frame) → Type 0
AsLong old new = length new.bytes ≡ length old.bytes

-- what may become of what is put: a mark stays one
abbrev pub Becomes : Outgoing → Slot → Type 0
Becomes (Frame f) s = Arrives f.bytes s
Becomes Mark s = s ≡ Slot.Mark

abbrev pub slot_of : Passage → Slot
slot_of p = p.slot

-- the slots behind those that were taken
abbrev pub kept : Tape → List Slot
kept t = drop t.taken (map slot_of (vec_items t.passages))

-- a tape's room: what its memory has place for
abbrev pub room_on : Tape → ℕ
room_on t = vec_capacity t.passages - vec_len t.passages

-- no more was taken than was put
abbrev pub Behind : Tape → Type 0
Behind t = t.taken ≤ vec_len t.passages

-- one passage more is on the tape
abbrev pub Taped : Passage → (old new : Tape) → Type 0
Taped p old new =
    (vec_items new.passages ≡ vec_items old.passages ++ p ∷ [])
    × (vec_len new.passages ≡ vec_len old.passages + 1)
    × (vec_capacity new.passages ≡ vec_capacity old.passages)
    × (new.taken ≡ old.taken)
