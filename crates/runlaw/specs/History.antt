-- Histories: what was asked of a flow since its set-up, call by call, what it answered, and what went over its channel.
use Rattle.std.specs.Prelude.{◌≡◌, ℕ, List, [], ◌∷◌, ◌++◌, map, length, Option}
use Rattle.std.specs.List.{flat_map}
use Rattle.framing.specs.declared.slot.Slot.{Slot}
use Rattle.channel.specs.Sending.{Sent, became}
use Rattle.receiver.specs.Answering.{Answer, handed_out, short, lost, torn, mark, nothing, Quality}

-- What may be asked: an opening for so many frames, an offer of a packet, a closing, a reading.
pub data Call : Type 0 where
  opening : (frames : ℕ) → Call
  offer : (packet : List ℕ) → Call
  closing : Call
  reading : Call

-- What is answered. A refusal, by the number of the first question answered no; one by the service has the service's own
-- number inside it. Or that it was done. Or, to a reading, an answer.
pub data Reply : Type 0 where
  refused : (question : ℕ) (inside : Option ℕ) → Reply
  done : Reply
  answers : Answer → Reply

-- One call and what came of it. What it sent: each frame put, with the slot that the channel made of it, and each mark.
-- The slots that it took. A refused call is an event too.
pub record Event : Type 0 where
  pub call : Call
  pub reply : Reply
  pub sent : List Sent
  pub taken : List Slot

-- Since set-up, the first call first.
abbrev pub History : Type 0
History = List Event

-- All that was sent, and all slots that were taken.

abbrev pub all_sent : History → List Sent
all_sent h = flat_map (λ e. e.sent) h

abbrev pub all_taken : History → List Slot
all_taken h = flat_map (λ e. e.taken) h

-- What was sent became the slots that were taken and then those that still wait.
abbrev pub Came : History → (waiting : List Slot) → Type 0
Came h waiting = map became (all_sent h) ≡ all_taken h ++ waiting

-- The packets accepted, in the order offered.

abbrev pub accepted_by : Call → Reply → List (List ℕ)
accepted_by (offer p) done = p ∷ []
accepted_by (offer p) (refused q i) = []
accepted_by (offer p) (answers a) = []
accepted_by (opening n) r = []
accepted_by closing r = []
accepted_by reading r = []

abbrev pub packets_accepted : History → List (List ℕ)
packets_accepted h = flat_map (λ e. accepted_by e.call e.reply) h

-- The answers given to readings, in order. That there is nothing to tell is not counted as one, nor is a refusal.

abbrev pub told_by_answer : Answer → List Answer
told_by_answer nothing = []
told_by_answer (handed_out q b) = handed_out q b ∷ []
told_by_answer short = short ∷ []
told_by_answer (lost n d) = lost n d ∷ []
told_by_answer (torn n d q p) = torn n d q p ∷ []
told_by_answer (mark d) = mark d ∷ []

abbrev pub told_by : Reply → List Answer
told_by (refused q i) = []
told_by done = []
told_by (answers a) = told_by_answer a

abbrev pub answers_given : History → List Answer
answers_given h = flat_map (λ e. told_by e.reply) h

-- The packets handed out, in order: each answered sound, damaged or foreign, with the bytes then at the front of the
-- buffer, as many as the answered length.

pub record HandedOut : Type 0 where
  pub quality : Quality
  pub bytes : List ℕ

abbrev pub out_by : Answer → List HandedOut
out_by (handed_out q b) = record { quality = q; bytes = b } ∷ []
out_by short = []
out_by (lost n d) = []
out_by (torn n d q p) = []
out_by (mark d) = []
out_by nothing = []

abbrev pub packets_handed_out : History → List HandedOut
packets_handed_out h = flat_map out_by (answers_given h)

-- How many lost answers were given.

abbrev pub lost_by : Answer → List (Unit {0})
lost_by (lost n d) = tt ∷ []
lost_by (handed_out q b) = []
lost_by short = []
lost_by (torn n d q p) = []
lost_by (mark d) = []
lost_by nothing = []

abbrev pub lost_answers : History → ℕ
lost_answers h = length (flat_map lost_by (answers_given h))

-- The last event is this call with this reply.
pub record EndsWith (c : Call) (r : Reply) (h : History) : Type 0 where
  pub earlier : History
  pub last : Event
  pub whole : h ≡ earlier ++ (last ∷ [])
  pub call_is : last.call ≡ c
  pub reply_is : last.reply ≡ r
