-- A flow since its set-up: how its two sides and its channel stand to its history. All of it is kept for the proof of the
-- run law, from one call to the next; no caller has to know it.
use Rattle.std.specs.Prelude.{◌≡◌, ℕ, Bool, List, [], ◌∷◌, ◌++◌, map, Option}
use Rattle.std.specs.List.{AllByRecursion}
use Rattle.framing.specs.declared.slot.Slot.{Slot}
use Rattle.channel.specs.Sending.{Sent, what, AllMade}
use Rattle.receiver.specs.Reading.{Reader, aligned, packet, completes, after_all, number_after, told_of, standing_after, owed}
use Rattle.receiver.specs.Answering.{Answer, nothing}
use Rattle.runlaw.specs.History.{Call, Reply, Event, History, closing, reading, done, answers, all_sent, all_taken, Came, packets_accepted, answers_given, EndsWith}
use Rattle.runlaw.specs.Theorem.{answered, Admitted}
use Rattle.flow.specs.Keeping.{Keeps}
use Rattle.flow.specs.Writing.{State}

-- One call and what came of it.
abbrev pub event : Call → Reply → List Sent → List Slot → Event
event call reply sent taken = record { call = call; reply = reply; sent = sent; taken = taken }

-- 1. The reading side.

-- the number of the last frame or gap, behind slots
abbrev pub number_behind : ℕ → List Slot → ℕ
number_behind n [] = n
number_behind n (s ∷ slots) = number_behind (number_after n s) slots

-- The reader against the slots taken and the answers given: once it has gone through the frame in hand, it stands as a
-- reader behind these slots, and what was answered, and then what that frame still owes, is what such a reader answers.
pub record Read
    (fasb : Bool) (width : ℕ) (value : List ℕ → List ℕ) (refusal : List ℕ → Option ℕ) (given : List Answer) (taken : List Slot)
    (r : Reader) : Type 0 where
  pub stands : after_all r.standing r.in_hand ≡ standing_after fasb width aligned taken
  pub numbered : r.number ≡ number_behind 0 taken
  pub told :
      given ++ answered width value refusal (map packet (completes r.standing r.in_hand))
      ≡ answered width value refusal (told_of fasb width aligned 0 taken)

-- 2. Both sides, with the slots that wait on the channel.

pub record Since
    (fasb : Bool) (width : ℕ) (value : List ℕ → List ℕ) (refusal : List ℕ → Option ℕ) (made : List ℕ → Slot → Type 0)
    (h : History) (s : State) (r : Reader) (slots : List Slot) : Type 0 where
  pub came : Came h slots
  pub made_so : AllMade made (all_sent h)
  pub admitted : AllByRecursion (Admitted refusal) (packets_accepted h)
  pub wrote : Keeps fasb width (map (λ p. p ++ value p) (packets_accepted h)) (map what (all_sent h)) s
  pub read : Read fasb width value refusal (answers_given h) (all_taken h) r
  pub settled : EndsWith closing done h → s.begun ≡ []
  pub read_out : EndsWith reading (answers nothing) h → owed fasb width r slots ≡ []
