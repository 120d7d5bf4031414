-- What a channel answers to a put and to a take. `slots` is the list of slots that wait, `space` the room, `made` what the
-- channel may make of a frame, and `tied` what ties it to what lies below it.
use Rattle.std.specs.Prelude.{◌≡◌, ℕ, ◌+◌, ◌≤◌, List, [], ◌∷◌, IfOk, IfErr, Option, Result, MatchOption, OnOk}
use Rattle.framing.specs.declared.slot.Slot.{Slot}
use Rattle.channel.specs.declared.channel.Full.{Full}
use Rattle.channel.specs.Asking.{refusal, room_question}
use Rattle.channel.specs.Sending.{Put, Went}

-- A put is refused exactly where the room is 0, and the whole channel is then as it was. Accepted, it lowers the room by one.
-- Where the channel is tied, the put went onto it, and it is still tied.
pub record PutAnswer
    {C : Type 0} (slots : C → List Slot) (space : C → ℕ) (made : List ℕ → Slot → Type 0) (tied : C → Type 0)
    (put : Put) (answer : Result (Unit {0}) Full) (old new : C) : Type 0 where
  pub asked : refusal answer ≡ room_question (space old)
  pub same : IfErr answer (λ _. new ≡ old)
  pub counts : IfOk answer (λ _. space old ≡ space new + 1)
  pub joins : tied old → OnOk answer (Went made (put ∷ []) (slots old) (space old) (slots new) (space new))
  pub keeps : tied old → tied new

-- A take gives the first slot and removes it, and never lowers the room. Where no slot waits it gives nothing, and the whole
-- channel is as it was. A tied channel is still tied.
pub record TakeAnswer
    {C : Type 0} (slots : C → List Slot) (space : C → ℕ) (tied : C → Type 0) (answer : Option Slot) (old new : C) : Type 0 where
  pub first : MatchOption answer ((slots old ≡ []) × (new ≡ old)) (λ s. slots old ≡ s ∷ slots new)
  pub frees : space old ≤ space new
  pub keeps : tied old → tied new
