-- What the calls of a flow do and answer. `slots` is the list of slots that wait on the flow's channel,
-- `space` the channel's room, `made` what it may make of a frame, and `tied` what ties it to what lies below it.
use Rattle.std.specs.Prelude.{◌≡◌, ℕ, ◌+◌, ◌≤◌, true, cond, List, [], ◌++◌, length, IfOk, IfErr, None, Option, Result, OnOk, ◌==◌}
use Rattle.framing.specs.declared.slot.Slot.{Slot}
use Rattle.framing.specs.Judging.{first_no}
use Rattle.channel.specs.Sending.{Went}
use Rattle.receiver.specs.Answering.{Answer, answer_to}
use Rattle.receiver.specs.Reading.{Outcome, new_reader, reading}
use Rattle.receiver.specs.Readings.{buffer_question, said, said_length, packet_length, filled}
use Rattle.receiver.specs.Readings.{refusal as reading_refusal}
use Rattle.receiver.specs.Views.{view}
use Rattle.receiver.specs.declared.answer.Reading.{Reading}
use Rattle.receiver.specs.declared.answer.BufferTooShort.{BufferTooShort}
use Rattle.receiver.specs.declared.terms.Terms.{Terms}
use Rattle.flow.specs.declared.faults.OpenFault.{OpenFault}
use Rattle.flow.specs.declared.faults.OfferFault.{OfferFault}
use Rattle.flow.specs.declared.faults.CloseFault.{CloseFault}
use Rattle.flow.specs.declared.faults.CloseFault.TheVariants.{WrongToken}
use Rattle.flow.specs.declared.flow.Flow.{Flow}
use Rattle.flow.specs.declared.token.SuperframeToken.{SuperframeToken}
use Rattle.flow.specs.Asking.{opening_questions, offer_questions, closing_questions}
use Rattle.flow.specs.Numbers.{open_number, offer_number, close_number, inside, refusal}
use Rattle.flow.specs.Writing.{Step, state_of, idle, opening, offering, closing}

-- What ties a flow to its channel, beside what ties that: while a superframe is open, there is room for the frames of it
-- that are left and for its mark.
abbrev pub Tied : {C K S : Type 0} (space : C → ℕ) (tied : C → Type 0) → Flow C K S → Type 0
Tied space tied f = tied f.channel × ((state_of f.writer).opened ≡ true → (state_of f.writer).left + 1 ≤ space f.channel)

-- The writer has what a step leaves.
abbrev pub Leaves : {C K S : Type 0} → Step → Flow C K S → Type 0
Leaves step new = state_of new.writer ≡ step.state

-- What a step puts went onto the channel, in order, and nothing else.
abbrev pub Sends :
    {C K S : Type 0} (slots : C → List Slot) (space : C → ℕ) (made : List ℕ → Slot → Type 0) → Step → (old new : Flow C K S)
    → Type 0
Sends slots space made step old new =
    Went made step.puts (slots old.channel) (space old.channel) (slots new.channel) (space new.channel)

-- What no call changes.
pub record Steady {C K S : Type 0} (old new : Flow C K S) : Type 0 where
  pub terms : new.terms ≡ old.terms
  pub id : new.id ≡ old.id

-- A new flow has what was handed in; its writer is idle, and its reader aligned, with nothing in hand and no number given.
-- It is tied where the channel is.
pub record SetUp
    {C K S : Type 0} (space : C → ℕ) (tied : C → Type 0) (channel : C) (terms : Terms K S) (id : ℕ) (new : Flow C K S) : Type 0 where
  pub channel_is : new.channel ≡ channel
  pub terms_is : new.terms ≡ terms
  pub id_is : new.id ≡ id
  pub writer_is : state_of new.writer ≡ idle
  pub reader_is : view new.reader ≡ new_reader
  pub ties : tied channel → Tied space tied new

-- An opening for n frames. Accepted, it gives a token with this flow's id, and cuts what was carried over.
pub record OpeningAnswer
    {C K S : Type 0} (slots : C → List Slot) (space : C → ℕ) (made : List ℕ → Slot → Type 0) (tied : C → Type 0)
    (n : ℕ) (answer : Result SuperframeToken OpenFault) (old new : Flow C K S) : Type 0 where
  pub asked : refusal open_number answer ≡ first_no (opening_questions n (state_of old.writer) (space old.channel))
  pub same : IfErr answer (λ _. new ≡ old)
  pub token : IfOk answer (λ t. t.flow ≡ old.id)
  pub steady : Steady old new
  pub reader_stays : new.reader ≡ old.reader
  pub leaves : IfOk answer (λ _. Leaves (opening n (state_of old.writer)) new)
  pub sends : Tied space tied old → OnOk answer (Sends slots space made (opening n (state_of old.writer)) old new)
  pub ties : Tied space tied old → Tied space tied new

-- An offer of a packet, under a checksum with this width and this value of each packet, and the service's verdict on each.
-- Accepted, it cuts the packet and then its checksum. The token comes back.
pub record OfferAnswer
    {C K S : Type 0} (slots : C → List Slot) (space : C → ℕ) (made : List ℕ → Slot → Type 0) (tied : C → Type 0)
    (width : ℕ) (value : List ℕ → List ℕ) (verdict : S → List ℕ → Option ℕ)
    (token : SuperframeToken) (packet : List ℕ) (answer : Result (Unit {0}) OfferFault) (old new : Flow C K S) : Type 0 where
  pub asked :
      refusal offer_number answer
      ≡ first_no
      (offer_questions token.flow old.id old.terms.fasb width (verdict old.terms.service packet) packet (state_of old.writer))
  pub inside_is : IfErr answer (λ e. inside e ≡ cond (offer_number e == 6) (verdict old.terms.service packet) None)
  pub same : IfErr answer (λ _. new ≡ old)
  pub steady : Steady old new
  pub reader_stays : new.reader ≡ old.reader
  pub leaves : IfOk answer (λ _. Leaves (offering (packet ++ value packet) (state_of old.writer)) new)
  pub sends :
      Tied space tied old
      → OnOk answer (Sends slots space made (offering (packet ++ value packet) (state_of old.writer)) old new)
  pub ties : Tied space tied old → Tied space tied new

-- A closing. Accepted, it fills what is left with padding and puts the mark; refused, it gives the token back.
pub record ClosingAnswer
    {C K S : Type 0} (slots : C → List Slot) (space : C → ℕ) (made : List ℕ → Slot → Type 0) (tied : C → Type 0)
    (token : SuperframeToken) (answer : Result (Unit {0}) CloseFault) (old new : Flow C K S) : Type 0 where
  pub asked : refusal close_number answer ≡ first_no (closing_questions token.flow old.id (state_of old.writer))
  pub same : IfErr answer (λ e. (new ≡ old) × (e ≡ WrongToken token))
  pub steady : Steady old new
  pub reader_stays : new.reader ≡ old.reader
  pub leaves : IfOk answer (λ _. Leaves (closing (state_of old.writer)) new)
  pub sends : Tied space tied old → OnOk answer (Sends slots space made (closing (state_of old.writer)) old new)
  pub ties : Tied space tied old → Tied space tied new

-- What one reading comes to, by the rules, and the answer that is due.

abbrev pub outcome : {C K S : Type 0} (slots : C → List Slot) (width : ℕ) → Flow C K S → Outcome
outcome slots width f = reading f.terms.fasb width (view f.reader) (slots f.channel)

abbrev pub due :
    {C K S : Type 0} (slots : C → List Slot) (width : ℕ) (value : List ℕ → List ℕ) (verdict : S → List ℕ → Option ℕ) → Flow C K S
    → Answer
due slots width value verdict f = answer_to width value (verdict f.terms.service) (outcome slots width f).told

-- A reading, with the buffer as it was and as it is now, under a checksum with this width and this value of each packet, and
-- the service's verdict on each. It answers what the rules have a reader answer to the slots that wait, and takes the slots
-- that they have it take. Refused, it leaves flow and buffer as they were.
pub record ReadingAnswer
    {C K S : Type 0} (slots : C → List Slot) (space : C → ℕ) (tied : C → Type 0)
    (width : ℕ) (value : List ℕ → List ℕ) (verdict : S → List ℕ → Option ℕ)
    (before after : List ℕ) (answer : Result Reading BufferTooShort) (old new : Flow C K S) : Type 0 where
  pub asked : reading_refusal answer ≡ buffer_question (length before)
  pub same : IfErr answer (λ _. (new ≡ old) × (after ≡ before))
  pub says : IfOk answer (λ a. said a after ≡ due slots width value verdict old)
  pub lengths : IfOk answer (λ a. said_length a ≡ packet_length (due slots width value verdict old))
  pub fills : IfOk answer (λ _. after ≡ filled (due slots width value verdict old) before)
  pub leaves : IfOk answer (λ _. view new.reader ≡ (outcome slots width old).reader)
  pub takes : IfOk answer (λ _. slots old.channel ≡ (outcome slots width old).taken ++ slots new.channel)
  pub frees : space old.channel ≤ space new.channel
  -- a reading that takes no slot does not touch the channel
  pub untouched : (outcome slots width old).taken ≡ [] → new.channel ≡ old.channel
  pub steady : Steady old new
  pub writer_stays : new.writer ≡ old.writer
  pub ties : Tied space tied old → Tied space tied new
