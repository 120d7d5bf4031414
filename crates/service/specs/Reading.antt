-- Reading a packet that begins with a sync header: the questions in their order, then the facts. Assumes nothing.
use Rattle.std.specs.Prelude.{ℕ, ◌+◌, Bool, cond, not, ◌&&◌, List, ◌∷◌, ◌++◌, length, take, drop, Some, None, Ok, Err, Option, Result, nat_le, slice_index}
use Rattle.service.specs.Asking.{Question, ask}
use Rattle.service.specs.Encoding.{from_four, field_questions}
use Rattle.service.specs.Faults.{fault_number}
use Rattle.service.specs.Map.{bit, map_at, map_questions, header_length}
use Rattle.service.specs.declared.header.HeaderFault.{HeaderFault}
use Rattle.service.specs.declared.header.SyncHeader.{SyncHeader}
use Rattle.service.specs.declared.map.HeaderMap.{HeaderMap}
use Rattle.service.specs.declared.reading.SyncPacket.{SyncPacket}

-- a field is read where its bit is set, and absent where it is clear
abbrev pub present : Bool → ℕ → Option ℕ
present b n = cond b (Some n) None

-- the frame id stands behind the map, the timestamp behind any frame id
abbrev pub timestamp_at : HeaderMap → ℕ
timestamp_at m = 1 + cond m.frame_id 1 0

abbrev pub frame_id_within : HeaderMap → List ℕ → Option ℕ
frame_id_within m s = present m.frame_id (slice_index s 1)

abbrev pub timestamp_within : HeaderMap → List ℕ → Option ℕ
timestamp_within m s = present m.timestamp (from_four (take 4 (drop (timestamp_at m) s)))

-- the facts in a packet s with the map m
abbrev pub facts_within : HeaderMap → List ℕ → SyncHeader
facts_within m s =
    record {
      kind = m.kind;
      frame_id = frame_id_within m s;
      timestamp = timestamp_within m s;
      access_point = m.access_point;
      unreferenced = m.unreferenced;
    }

-- 30: is there a byte?
-- 31: are bits 7 and 8 clear?
-- 32, 33: the questions on the map
-- 34: do the named fields and at least one byte of payload follow?
-- 35: the question on the fields
abbrev pub questions_by : ℕ → HeaderMap → List ℕ → List Question
questions_by byte m s =
    (30, nat_le 1 (length s))
    ∷ (31, not (bit 7 byte) && not (bit 8 byte))
    ∷ (map_questions m ++ ((34, nat_le (header_length m + 1) (length s)) ∷ field_questions (facts_within m s)))

-- s read by its map m, which its first byte is
abbrev pub read_by : ℕ → HeaderMap → List ℕ → Result (SyncHeader × List ℕ) ℕ
read_by byte m s = ask (questions_by byte m s) (facts_within m s, drop (header_length m) s)

-- the facts and the payload, or the number of the refusal
abbrev pub reading : List ℕ → Result (SyncHeader × List ℕ) ℕ
reading s = read_by (slice_index s 0) (map_at (slice_index s 0)) s

-- what a call of reading answers: the facts and the payload's bytes, or the fault's number
abbrev pub packet_read : Result SyncPacket HeaderFault → Result (SyncHeader × List ℕ) ℕ
packet_read (Ok p) = Ok (p.header, p.payload.now)
packet_read (Err e) = Err (fault_number e)
