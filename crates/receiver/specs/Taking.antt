-- What reading does to a channel, besides taking slots off it.
use Rattle.std.specs.Prelude.{◌≡◌, ℕ, ◌≤◌, List, []}
use Rattle.framing.specs.declared.slot.Slot.{Slot}

-- These slots were taken off a channel: its room did not fall, what tied it to the channel below still does, and where no slot
-- was taken, the whole channel is as it was.
pub record Leaves {C : Type 0} (space : C → ℕ) (tied : C → Type 0) (taken : List Slot) (old new : C) : Type 0 where
  pub frees : space old ≤ space new
  pub keeps : tied old → tied new
  pub untouched : taken ≡ [] → new ≡ old
