-- What is put on a channel, and what the channel makes of it.
use Rattle.std.specs.Prelude.{◌≡◌, ℕ, ◌+◌, List, [], ◌∷◌, ◌++◌, map, length}
use Rattle.framing.specs.declared.slot.Slot.{Slot}
use Rattle.framing.specs.declared.slot.Slot.TheVariants.{Frame, Gap, Mark}

-- What may become of a frame on its way: it is lost and leaves a gap, or it comes with none or some of its bits changed,
-- and so at its own length. It never becomes a mark.
abbrev pub Arrives : List ℕ → Slot → Type 0
Arrives f Gap = Unit {0}
Arrives f (Frame g) = length g.bytes ≡ length f
Arrives f Mark = ⊥

-- what is put on a channel: a frame, by its bytes, or the mark that ends a superframe
pub data Put : Type 0 where
  a_frame : List ℕ → Put
  a_mark : Put

-- What was put: a frame with the slot that the channel made of it, or a mark, which stays one.
pub data Sent : Type 0 where
  sent_frame : List ℕ → Slot → Sent
  sent_mark : Sent

abbrev pub what : Sent → Put
what (sent_frame f s) = a_frame f
what sent_mark = a_mark

abbrev pub became : Sent → Slot
became (sent_frame f s) = s
became sent_mark = Mark

-- Each slot is one that the channel may make of that very frame, as `made` tells, and a frame that is lost or comes.
abbrev pub AllMade : (List ℕ → Slot → Type 0) → List Sent → Type 0
AllMade made [] = Unit {0}
AllMade made (sent_frame f s ∷ more) = made f s × Arrives f s × AllMade made more
AllMade made (sent_mark ∷ more) = AllMade made more

-- The puts went onto the channel in their order: each became one slot, these joined the end of the list that waits, and
-- the room fell by their number.
pub record Went (made : List ℕ → Slot → Type 0) (puts : List Put) (old : List Slot) (room : ℕ) (new : List Slot) (rest : ℕ) : Type 0 where
  pub sent : List Sent
  pub each : map what sent ≡ puts
  pub made_so : AllMade made sent
  pub grew : new ≡ old ++ map became sent
  pub fell : room ≡ rest + length puts
