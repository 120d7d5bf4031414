-- The history of a script: which events its steps are, and that each is the exact step of the rules.
use Rattle.std.specs.Prelude.{◌≡◌, ℕ, List, [], ◌∷◌, ◌++◌, map, None, Ok, Err, vec_items, Option, Result}
use Rattle.std.specs.List.{AllByRecursion}
use Rattle.framing.specs.declared.slot.Slot.{Slot}
use Rattle.receiver.specs.declared.answer.Reading.{Reading}
use Rattle.receiver.specs.declared.answer.BufferTooShort.{BufferTooShort}
use Rattle.runlaw.specs.History as history
use Rattle.runlaw.specs.History.{Call, Event, History, opening, offer, closing, reading, refused, done}
use Rattle.flow.specs.declared.faults.OpenFault.{OpenFault}
use Rattle.flow.specs.declared.faults.OfferFault.{OfferFault}
use Rattle.flow.specs.declared.faults.CloseFault.{CloseFault}
use Rattle.flow.specs.declared.flow.Flow.{Flow}
use Rattle.flow.specs.declared.token.SuperframeToken.{SuperframeToken}
use Rattle.flow.specs.Calls.{OpeningAnswer, OfferAnswer, ClosingAnswer, ReadingAnswer, outcome}
use Rattle.flow.specs.Happening.{EventOf, opening_reply, offer_reply, closing_reply, reading_reply, if_accepted}
use Rattle.flow.specs.Numbers.{open_number}
use Rattle.flow.specs.Writing as writing
use Rattle.flow.specs.Writing.{state_of}
use Rattle.script.specs.declared.reply.Answered.{Answered}
use Rattle.script.specs.declared.reply.Reply.{Reply}
use Rattle.script.specs.declared.reply.Reply.TheVariants.{Opening, Closed, NoToken, Drained}
use Rattle.script.specs.declared.step.Step.{Step}
use Rattle.script.specs.declared.step.Step.TheVariants.{Open, Offer, Close, Drain}

-- 1. Which events a step is: which call it makes, and what it answers in the words of histories. A drain makes its call as often as
-- it answers. A step that is answered with no token in hand, and a question, are no events.

abbrev pub Makes : Step → Call → Type 0
Makes (Open n) call = call ≡ opening n
Makes (Offer packet) call = call ≡ offer (vec_items packet)
Makes Close call = call ≡ closing
Makes (Step.Read size) call = call ≡ reading
Makes Drain call = call ≡ reading
Makes Step.Room call = ⊥
Makes Step.Waits call = ⊥

-- a packet that was handed out is all that is kept of the buffer
abbrev pub answer_told : Answered → history.Reply
answer_told a = reading_reply a.answer (vec_items a.packet)

abbrev pub told : Reply → List history.Reply
told (Opening (Ok x)) = done ∷ []
told (Opening (Err e)) = refused (open_number e) None ∷ []
told (Reply.Offer answer) = offer_reply answer ∷ []
told Closed = done ∷ []
told NoToken = []
told (Reply.Read a) = answer_told a ∷ []
told (Drained answers) = map answer_told (vec_items answers)
told (Reply.Room n) = []
told (Reply.Waits b) = []

pub record EventsOf (step : Step) (reply : Reply) (events : History) : Type 0 where
  pub calls : AllByRecursion (λ e. Makes step e.call) events
  pub replies : map (λ e. e.reply) events ≡ told reply

-- The history is, step by step, the events of the steps.
abbrev pub Tells : List Step → List Reply → History → Type 0
Tells [] [] h = h ≡ []
Tells [] (reply ∷ replies) h = ⊥
Tells (step ∷ steps) [] h = ⊥
Tells (step ∷ steps) (reply ∷ replies) h =
    (first : History) × (rest : History) × (h ≡ first ++ rest) × EventsOf step reply first × Tells steps replies rest

-- 2. Each event is the exact step of the rules from one flow to the next.

module _
    {C K S : Type 0} (slots : C → List Slot) (space : C → ℕ) (made : List ℕ → Slot → Type 0) (tied : C → Type 0)
    (width : ℕ) (value : List ℕ → List ℕ) (verdict : S → List ℕ → Option ℕ)
  where
    pub data ByTheRules (e : Event) (old new : Flow C K S) : Type 0 where
      by_opening : (n : ℕ) (answer : Result SuperframeToken OpenFault) → OpeningAnswer slots space made tied n answer old new
          → EventOf slots made (opening n) (opening_reply answer) (if_accepted answer (writing.opening n (state_of old.writer)).puts) [] old new e
          → ByTheRules e old new
      by_offer : (token : SuperframeToken) (p : List ℕ) (answer : Result (Unit {0}) OfferFault)
          → OfferAnswer slots space made tied width value verdict token p answer old new
          → EventOf slots made (offer p) (offer_reply answer) (if_accepted answer (writing.offering (p ++ value p) (state_of old.writer)).puts) [] old new e
          → ByTheRules e old new
      by_closing : (token : SuperframeToken) (answer : Result (Unit {0}) CloseFault) → ClosingAnswer slots space made tied token answer old new
          → EventOf slots made closing (closing_reply answer) (if_accepted answer (writing.closing (state_of old.writer)).puts) [] old new e
          → ByTheRules e old new
      by_reading : (before after : List ℕ) (answer : Result Reading BufferTooShort)
          → ReadingAnswer slots space tied width value verdict before after answer old new
          → EventOf slots made reading (reading_reply answer after) [] (if_accepted answer (outcome slots width old).taken) old new e
          → ByTheRules e old new

    abbrev pub Goes : History → (old new : Flow C K S) → Type 0
    Goes [] old new = new ≡ old
    Goes (e ∷ h) old new = (mid : Flow C K S) × ByTheRules e old mid × Goes h mid new
