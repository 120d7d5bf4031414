-- The run law on the calls of a flow: what a call adds to the flow's history, and that the law holds of it.
use Rattle.std.specs.Prelude.{◌≡◌, ℕ, List, [], ◌∷◌, ◌++◌, map, None, Ok, Err, Option, Result}
use Rattle.framing.specs.declared.slot.Slot.{Slot}
use Rattle.channel.specs.Sending.{Put, what, became, AllMade}
use Rattle.receiver.specs.Readings.{said, number}
use Rattle.receiver.specs.Views.{view}
use Rattle.receiver.specs.declared.answer.Reading.{Reading}
use Rattle.receiver.specs.declared.answer.BufferTooShort.{BufferTooShort}
use Rattle.runlaw.specs.History.{Call, Reply, Event, History, Came, refused, done, answers}
use Rattle.runlaw.specs.Law.{RunLaw}
use Rattle.flow.specs.declared.faults.OpenFault.{OpenFault}
use Rattle.flow.specs.declared.faults.OfferFault.{OfferFault}
use Rattle.flow.specs.declared.faults.CloseFault.{CloseFault}
use Rattle.flow.specs.declared.flow.Flow.{Flow}
use Rattle.flow.specs.declared.token.SuperframeToken.{SuperframeToken}
use Rattle.flow.specs.Calls.{Tied}
use Rattle.flow.specs.Numbers.{open_number, offer_number, close_number, inside}
use Rattle.flow.specs.Since.{Since}
use Rattle.flow.specs.Writing.{state_of}

-- 1. What a call replies, in the words of histories, and what it has to send.

abbrev pub opening_reply : Result SuperframeToken OpenFault → Reply
opening_reply (Ok token) = done
opening_reply (Err e) = refused (open_number e) None

abbrev pub offer_reply : Result (Unit {0}) OfferFault → Reply
offer_reply (Ok _) = done
offer_reply (Err e) = refused (offer_number e) (inside e)

abbrev pub closing_reply : Result (Unit {0}) CloseFault → Reply
closing_reply (Ok _) = done
closing_reply (Err e) = refused (close_number e) None

-- a packet that is handed out stands at the front of the buffer
abbrev pub reading_reply : Result Reading BufferTooShort → (buffer : List ℕ) → Reply
reading_reply (Ok a) buffer = answers (said a buffer)
reading_reply (Err e) buffer = refused (number e) None

-- what an accepted call has to send or takes; a refused one sends and takes nothing
abbrev pub if_accepted : {A E X : Type 0} → Result A E → List X → List X
if_accepted (Ok _) all = all
if_accepted (Err e) all = []

-- 2. Histories of a flow. How one stands to its flow is the business of the proof alone; set-up gives it for the empty history,
-- and every call for a history with one event more.

abbrev pub HistoryOf :
    {C K S : Type 0} (slots : C → List Slot) (space : C → ℕ) (made : List ℕ → Slot → Type 0) (tied : C → Type 0)
    (width : ℕ) (value : List ℕ → List ℕ) (verdict : S → List ℕ → Option ℕ) → History → Flow C K S → Type 0
HistoryOf slots space made tied width value verdict h f =
    Since f.terms.fasb width value (verdict f.terms.service) made h (state_of f.writer) (view f.reader) (slots f.channel)
    × Tied space tied f

-- The event of a call that had this reply. It is this call with this reply. It sent what the rules have it send, each frame became
-- a slot that the channel may make of that very frame, and these joined the slots that wait; the slots that it took came off
-- their front.
pub record EventOf
    {C K S : Type 0} (slots : C → List Slot) (made : List ℕ → Slot → Type 0)
    (call : Call) (reply : Reply) (puts : List Put) (takes : List Slot) (old new : Flow C K S) (event : Event) : Type 0 where
  pub call_is : event.call ≡ call
  pub reply_is : event.reply ≡ reply
  pub sent_is : map what event.sent ≡ puts
  pub made_so : AllMade made event.sent
  pub taken_is : event.taken ≡ takes
  pub slots_are : slots old.channel ++ map became event.sent ≡ event.taken ++ slots new.channel

-- A call that had this reply: there is an event of which the history now consists besides. It is this call with this reply. It
-- sent what the rules have it send, each frame became a slot that the channel may make of that very frame, and these joined the
-- slots that wait; the slots that it took came off their front. And the run law holds of the history with this event.
pub record Happened
    {C K S : Type 0} (slots : C → List Slot) (space : C → ℕ) (made : List ℕ → Slot → Type 0) (tied : C → Type 0)
    (width reach : ℕ) (value : List ℕ → List ℕ) (verdict : S → List ℕ → Option ℕ)
    (call : Call) (reply : Reply) (puts : List Put) (takes : List Slot) (h : History) (old new : Flow C K S) : Type 0 where
  pub event : Event
  pub call_is : event.call ≡ call
  pub reply_is : event.reply ≡ reply
  pub sent_is : map what event.sent ≡ puts
  pub made_so : AllMade made event.sent
  pub taken_is : event.taken ≡ takes
  pub slots_are : slots old.channel ++ map became event.sent ≡ event.taken ++ slots new.channel
  pub goes_on : HistoryOf slots space made tied width value verdict (h ++ (event ∷ [])) new
  pub law : RunLaw old.terms.fasb width reach value (h ++ (event ∷ []))
  -- all that was sent became the slots that were taken and then those that still wait
  pub came : Came (h ++ (event ∷ [])) (slots new.channel)
