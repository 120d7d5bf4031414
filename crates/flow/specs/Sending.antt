-- Puts in a row on a channel, and what a step of the writing side does.
use Rattle.std.specs.Prelude.{◌≡◌, ℕ, ◌≤◌, List, length}
use Rattle.framing.specs.declared.slot.Slot.{Slot}
use Rattle.channel.specs.Sending.{Put, Went}
use Rattle.flow.specs.declared.writer.Writer.{Writer}
use Rattle.flow.specs.Writing.{Step, state_of}

-- Where the channel is tied and has room for all of them, the puts went onto it, and it is still tied. `slots` is the
-- list of slots that wait on it, `space` its room, and `made` what it may make of a frame.
abbrev pub Puts :
    {C : Type 0} (slots : C → List Slot) (space : C → ℕ) (made : List ℕ → Slot → Type 0) (tied : C → Type 0)
    → List Put → (old new : C) → Type 0
Puts slots space made tied puts old new =
    tied old → length puts ≤ space old → Went made puts (slots old) (space old) (slots new) (space new) × tied new

-- A step was done: the writer has what it leaves, and what it puts went onto the channel.
pub record Done
    {C : Type 0} (slots : C → List Slot) (space : C → ℕ) (made : List ℕ → Slot → Type 0) (tied : C → Type 0)
    (step : Step) (writer : Writer) (old new : C) : Type 0 where
  pub state : state_of writer ≡ step.state
  pub puts : Puts slots space made tied step.puts old new
