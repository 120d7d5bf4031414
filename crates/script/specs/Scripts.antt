-- Runs of scripts, and the run law on them.
use Rattle.std.specs.Prelude.{◌≡◌, ℕ, Bool, ◌⊎◌, List, [], ◌∷◌, ◌++◌, map, length, take, None, Ok, Err, vec_items, Option, Result, Vec}
use Rattle.std.specs.declared.alloc.AllocError.{AllocError}
use Rattle.std.specs.declared.alloc.Global.{Global}
use Rattle.std.specs.List.{AllByRecursion}
use Rattle.std.specs.Option.{is_some}
use Rattle.framing.specs.declared.slot.Slot.{Slot}
use Rattle.channel.specs.Sending.{became, AllMade}
use Rattle.receiver.specs.declared.terms.Terms.{Terms}
use Rattle.runlaw.specs.History.{History, all_sent, all_taken}
use Rattle.runlaw.specs.Law.{RunLaw}
use Rattle.flow.specs.Calls.{SetUp}
use Rattle.flow.specs.Happening.{HistoryOf}
use Rattle.flow.specs.Writing.{state_of}
use Rattle.flow.specs.declared.flow.Flow.{Flow}
use Rattle.script.specs.declared.reply.Answered.{Answered}
use Rattle.script.specs.declared.reply.Reply.{Reply}
use Rattle.script.specs.declared.reply.Reply.TheVariants.{Drained}
use Rattle.script.specs.declared.running.Outcome.{Outcome}
use Rattle.script.specs.declared.session.Session.{Session}
use Rattle.script.specs.declared.step.Step.{Step}
use Rattle.script.specs.Answers.{NotNothing, Whole}
use Rattle.script.specs.Events.{Tells, Goes}
use Rattle.script.specs.Steps.{Does}

-- 1. How far a run came.

-- Want of memory stopped a drain midway. Its answers so far are the last reply.
pub record StoppedIn (replies : List Reply) : Type 0 where
  pub earlier : List Reply
  pub answers : Vec Answered Global
  pub replies_are : replies ≡ earlier ++ Drained answers ∷ []
  pub whole : AllByRecursion Whole earlier
  pub part : AllByRecursion NotNothing (vec_items answers)

-- Either all steps were done, or want of memory stopped the run, before a step or in a drain.
abbrev pub Comes : Result (Unit {0}) AllocError → List Step → List Reply → Type 0
Comes (Ok _) steps replies = (length replies ≡ length steps) × AllByRecursion Whole replies
Comes (Err e) steps replies = AllByRecursion Whole replies ⊎ StoppedIn replies

module _
    {C K S : Type 0} (slots : C → List Slot) (space : C → ℕ) (made : List ℕ → Slot → Type 0) (tied : C → Type 0)
    (width : ℕ) (value : List ℕ → List ℕ) (verdict : S → List ℕ → Option ℕ)
  where
    -- Steps one after another, and what each answered.
    abbrev pub Follows : List Step → List Reply → (old new : Session C K S) → Type 0
    Follows [] [] old new = new ≡ old
    Follows [] (reply ∷ replies) old new = ⊥
    Follows (step ∷ steps) [] old new = ⊥
    Follows (step ∷ steps) (reply ∷ replies) old new =
        (mid : Session C K S) × Does slots space made tied width value verdict step reply old mid × Follows steps replies mid new

    -- The steps were taken, so far as the run came.
    pub record TookSteps (steps : List Step) (replies : List Reply) (done : Result (Unit {0}) AllocError) (old new : Session C K S) : Type 0 where
      pub comes : Comes done steps replies
      pub follows : Follows (take (length replies) steps) replies old new

    -- 2. The history of a run over a channel. Its events are those of the steps, each the exact step of the rules. Each frame that was
    -- sent became a slot that the channel may make of that very frame; and what was sent became, behind the slots that waited on the
    -- channel at the start, the slots taken and then those that still wait. Where the channel was empty at the start, the run law holds
    -- of the history and of each first part of it, and it is the history of the flow that is handed back.
    pub record Ran (reach : ℕ) (channel : C) (fasb : Bool) (steps : List Step) (replies : List Reply) (old new : Flow C K S) : Type 0 where
      pub events : History
      pub tells : Tells steps replies events
      pub by_the_rules : Goes slots space made tied width value verdict events old new
      pub made_so : AllMade made (all_sent events)
      pub slots_are : slots channel ++ map became (all_sent events) ≡ all_taken events ++ slots new.channel
      pub law : slots channel ≡ [] → (first rest : History) → events ≡ first ++ rest → RunLaw fasb width reach value first
      pub history : slots channel ≡ [] → HistoryOf slots space made tied width value verdict events new

    -- 3. A script on a new flow. `start` is the session at the beginning, and the steps done are the first of the list, one for each
    -- reply.
    pub record RanScript
        (reach : ℕ) (channel : C) (terms : Terms K S) (id : ℕ) (steps : List Step) (outcome : Outcome C K S) : Type 0 where
      pub start : Session C K S
      pub set_up : SetUp space tied channel terms id start.flow
      pub hand_empty : start.hand ≡ None
      pub comes : Comes outcome.done steps (vec_items outcome.replies)
      pub follows :
          Follows (take (length (vec_items outcome.replies)) steps) (vec_items outcome.replies) start outcome.session
      pub runs :
          tied channel
          → Ran reach channel terms.fasb (take (length (vec_items outcome.replies)) steps) (vec_items outcome.replies) start.flow
          outcome.session.flow
      -- what was handed in is there still, and a token is in hand exactly where a superframe is open
      pub terms_is : outcome.session.flow.terms ≡ terms
      pub id_is : outcome.session.flow.id ≡ id
      pub in_hand : is_some outcome.session.hand ≡ (state_of outcome.session.flow.writer).opened
