-- What the code's answers are, in the words of the rules, and what they do to the buffer.
use Rattle.std.specs.Prelude.{◌≡◌, ℕ, Bool, cond, List, ◌++◌, length, take, drop, Some, None, Ok, Err, Option, Result, nat_le}
use Rattle.framing.specs.declared.slot.Slot.{Slot}
use Rattle.framing.specs.Judging.{fault_number}
use Rattle.receiver.specs.Accounting.{Accounted}
use Rattle.receiver.specs.Answering.{Answer, handed_out, short, nothing, sound, damaged, foreign, answer_to}
use Rattle.receiver.specs.Answering as answers
use Rattle.receiver.specs.Folding.{answers_owed, given}
use Rattle.receiver.specs.Reading as rules
use Rattle.receiver.specs.Reading.{listed}
use Rattle.receiver.specs.declared.answer.Reading.{Reading}
use Rattle.receiver.specs.declared.answer.Reading.TheVariants.{Sound, Damaged, Foreign, Short, Lost, Torn, Mark, Nothing}
use Rattle.receiver.specs.declared.answer.BufferTooShort.{BufferTooShort}

-- The number of the question that refuses a reading: is the buffer at least 2,044 bytes long?
abbrev pub number : BufferTooShort → ℕ
number refused = 8

abbrev pub refusal : Result Reading BufferTooShort → Option ℕ
refusal (Ok reading) = None
refusal (Err refused) = Some (number refused)

abbrev pub buffer_question : ℕ → Option ℕ
buffer_question size = cond (nat_le 2044 size) None (Some 8)

-- An answer, where the buffer is now so: the bytes of a packet that is handed out stand at its front.
abbrev pub said : Reading → (buffer : List ℕ) → Answer
said (Sound len) buffer = handed_out sound (take len buffer)
said (Damaged len) buffer = handed_out damaged (take len buffer)
said (Foreign number len) buffer = handed_out (foreign number) (take len buffer)
said Short buffer = short
said (Lost frame dropped) buffer = answers.lost frame dropped
said (Torn frame dropped torn) buffer = answers.torn frame dropped (fault_number torn.fault) torn.at
said (Mark dropped) buffer = answers.mark dropped
said Nothing buffer = nothing

-- the length that an answer names
abbrev pub said_length : Reading → Option ℕ
said_length (Sound len) = Some len
said_length (Damaged len) = Some len
said_length (Foreign number len) = Some len
said_length Short = None
said_length (Lost frame dropped) = None
said_length (Torn frame dropped torn) = None
said_length (Mark dropped) = None
said_length Nothing = None

-- the length of a packet that is handed out
abbrev pub packet_length : Answer → Option ℕ
packet_length (handed_out quality packet) = Some (length packet)
packet_length short = None
packet_length (answers.lost number dropped) = None
packet_length (answers.torn number dropped question place) = None
packet_length (answers.mark dropped) = None
packet_length nothing = None

-- Only a packet that is handed out fills the buffer; behind it the buffer is as it was.
abbrev pub filled : Answer → List ℕ → List ℕ
filled (handed_out quality packet) old = packet ++ drop (length packet) old
filled short old = old
filled (answers.lost number dropped) old = old
filled (answers.torn number dropped question place) old = old
filled (answers.mark dropped) old = old
filled nothing old = old

-- The reading side: the reader, the slots that wait, and the buffer.
pub record Side : Type 0 where
  pub reader : rules.Reader
  pub waiting : List Slot
  pub buffer : List ℕ

abbrev pub side : rules.Reader → List Slot → List ℕ → Side
side reader waiting buffer = record { reader = reader; waiting = waiting; buffer = buffer }

-- what the rules have a reading come to, and its answer
abbrev pub comes : (fasb : Bool) (width : ℕ) → Side → rules.Outcome
comes fasb width s = rules.reading fasb width s.reader s.waiting

abbrev pub due : (fasb : Bool) (width : ℕ) (value : List ℕ → List ℕ) (refuses : List ℕ → Option ℕ) → Side → Answer
due fasb width value refuses s = answer_to width value refuses (comes fasb width s).told

-- One reading.
pub record Reads (fasb : Bool) (width : ℕ) (value : List ℕ → List ℕ) (refuses : List ℕ → Option ℕ) (before : Side) (reading : Reading) (after : Side) : Type 0 where
  -- the answer is the one that is due, with its length
  pub answers : said reading after.buffer ≡ due fasb width value refuses before
  pub lengths : said_length reading ≡ packet_length (due fasb width value refuses before)
  -- the whole buffer, the whole reader, and the slots
  pub fills : after.buffer ≡ filled (due fasb width value refuses before) before.buffer
  pub stands : after.reader ≡ (comes fasb width before).reader
  pub takes : before.waiting ≡ (comes fasb width before).taken ++ after.waiting
  -- reading is a fold: the answer is the first of those that were owed, and the others are still owed
  pub folds : answers_owed fasb width value refuses before.reader before.waiting
      ≡ given (said reading after.buffer) ++ answers_owed fasb width value refuses after.reader after.waiting
  -- each slot taken, and each byte of a body, is accounted for
  pub accounts : Accounted fasb width before.reader (comes fasb width before).taken (listed (comes fasb width before).told) after.reader
