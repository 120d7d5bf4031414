-- The bytes of a sync header, from its facts, and what is asked of the facts. Assumes nothing.
use Rattle.std.specs.Prelude.{ℕ, ◌+◌, ◌*◌, ◌/◌, ◌%◌, Bool, true, List, [], ◌∷◌, ◌++◌, Some, None, Option, nat_le, slice_index}
use Rattle.service.specs.Asking.{Question}
use Rattle.service.specs.Map.{map_byte, map_of}
use Rattle.service.specs.declared.header.Kind.{Kind}
use Rattle.service.specs.declared.header.Kind.TheVariants.{Video, Audio, TimedData, Adaptation}
use Rattle.service.specs.declared.header.SyncHeader.{SyncHeader}

-- a number in four bytes, the lowest first
abbrev pub four_bytes : ℕ → List ℕ
four_bytes n = n % 256 ∷ n / 256 % 256 ∷ n / 65536 % 256 ∷ n / 16777216 % 256 ∷ []

-- the number that four bytes are, the lowest first
abbrev pub from_four : List ℕ → ℕ
from_four s = slice_index s 0 + slice_index s 1 * 256 + slice_index s 2 * 65536 + slice_index s 3 * 16777216

-- a field that may be absent
abbrev pub field : (ℕ → List ℕ) → Option ℕ → List ℕ
field bytes None = []
field bytes (Some n) = bytes n

abbrev pub frame_id_field : Option ℕ → List ℕ
frame_id_field = field (λ n. n ∷ [])

abbrev pub timestamp_field : Option ℕ → List ℕ
timestamp_field = field four_bytes

-- the map, then the fields that it names
abbrev pub header_bytes : SyncHeader → List ℕ
header_bytes h = map_byte (map_of h) ∷ (frame_id_field h.frame_id ++ timestamp_field h.timestamp)

-- a packet: the header, then the payload
abbrev pub encoding : SyncHeader → List ℕ → List ℕ
encoding h payload = header_bytes h ++ payload

-- a video frame has one of 60 numbers; other frames have any
abbrev pub frame_id_in_range : Kind → Option ℕ → Bool
frame_id_in_range kind None = true
frame_id_in_range Video (Some n) = nat_le n 59
frame_id_in_range Audio (Some n) = true
frame_id_in_range TimedData (Some n) = true
frame_id_in_range Adaptation (Some n) = true

-- The questions on the fields.
-- 35: is the frame id one that the kind can have?
abbrev pub field_questions : SyncHeader → List Question
field_questions h = (35, frame_id_in_range h.kind h.frame_id) ∷ []
