-- What a sender hands to a channel.
use Rattle.std.specs.Prelude.{◌≡◌, ℕ, ◌+◌, List, map, length}
use Rattle.framing.specs.declared.slot.Slot.{Slot}
use Rattle.channel.specs.declared.sending.Outgoing.{Outgoing}
use Rattle.channel.specs.declared.sending.Outgoing.TheVariants.{Frame, Mark}
use Rattle.channel.specs.Sending.{Put, a_frame, a_mark, Went}

abbrev pub as_put : Outgoing → Put
as_put (Frame f) = a_frame f.bytes
as_put Mark = a_mark

-- the slot that it is where nothing is lost or changed
abbrev pub as_slot : Outgoing → Slot
as_slot (Frame f) = Slot.Frame f
as_slot Mark = Slot.Mark

-- all of these went onto the channel, in their order
pub record AllPut
    {C : Type 0} (slots : C → List Slot) (space : C → ℕ) (made : List ℕ → Slot → Type 0) (tied : C → Type 0)
    (items : List Outgoing) (old new : C) : Type 0 where
  pub counts : space old ≡ space new + length items
  pub joins : tied old → Went made (map as_put items) (slots old) (space old) (slots new) (space new)
  pub keeps : tied old → tied new
