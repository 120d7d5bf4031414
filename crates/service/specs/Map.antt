-- The map, the first byte of a sync header: the kind, which fields follow, and two flags. Assumes nothing.
-- Bits of a byte are numbered from 1, the lowest, to 8.
use Rattle.std.specs.Prelude.{ℕ, ◌+◌, ◌-◌, ◌/◌, ◌%◌, ◌^◌, Bool, true, false, cond, not, ◌&&◌, ◌||◌, List, [], ◌∷◌, is_some, ◌==◌}
use Rattle.service.specs.Asking.{Question}
use Rattle.service.specs.declared.header.Kind.{Kind}
use Rattle.service.specs.declared.header.Kind.TheVariants.{Video, Audio, TimedData, Adaptation}
use Rattle.service.specs.declared.header.SyncHeader.{SyncHeader}
use Rattle.service.specs.declared.map.HeaderMap.{HeaderMap}

-- bit n of a byte
abbrev pub bit : ℕ → ℕ → Bool
bit n byte = byte / 2 ^ (n - 1) % 2 == 1

-- what bit n adds to a byte
abbrev pub bit_value : ℕ → Bool → ℕ
bit_value n b = cond b (2 ^ (n - 1)) 0

abbrev pub number_of_kind : Kind → ℕ
number_of_kind Video = 0
number_of_kind Audio = 1
number_of_kind TimedData = 2
number_of_kind Adaptation = 3

abbrev pub kind_of : ℕ → Kind
kind_of n = cond (n == 0) Video (cond (n == 1) Audio (cond (n == 2) TimedData Adaptation))

-- bits 1 and 2 are the kind, 3 and 4 say that a frame id and a timestamp follow, 5 and 6 are the flags
abbrev pub map_byte : HeaderMap → ℕ
map_byte m =
    number_of_kind m.kind + bit_value 3 m.frame_id + bit_value 4 m.timestamp + bit_value 5 m.access_point
    + bit_value 6 m.unreferenced

abbrev pub map_at : ℕ → HeaderMap
map_at byte =
    record {
      kind = kind_of (byte % 4);
      frame_id = bit 3 byte;
      timestamp = bit 4 byte;
      access_point = bit 5 byte;
      unreferenced = bit 6 byte;
    }

-- the map of a header with these facts
abbrev pub map_of : SyncHeader → HeaderMap
map_of h =
    record {
      kind = h.kind;
      frame_id = is_some h.frame_id;
      timestamp = is_some h.timestamp;
      access_point = h.access_point;
      unreferenced = h.unreferenced;
    }

-- the map, a frame id of one byte, a timestamp of four
abbrev pub header_length : HeaderMap → ℕ
header_length m = 1 + cond m.frame_id 1 0 + cond m.timestamp 4 0

-- packets of these kinds belong to a frame
abbrev pub has_frame : Kind → Bool
has_frame Video = true
has_frame Audio = true
has_frame TimedData = true
has_frame Adaptation = false

-- packets of these kinds can be a random access point
abbrev pub can_enter : Kind → Bool
can_enter Video = true
can_enter Audio = true
can_enter TimedData = false
can_enter Adaptation = false

-- packets of this kind can be of an unreferenced frame
abbrev pub can_skip : Kind → Bool
can_skip Video = true
can_skip Audio = false
can_skip TimedData = false
can_skip Adaptation = false

abbrev pub same : Bool → Bool → Bool
same true b = b
same false b = not b

-- The questions on the map alone.
-- 32: is a frame id there exactly for the kinds that belong to a frame?
-- 33: is each flag set at most for the kinds that can have it?
abbrev pub map_questions : HeaderMap → List Question
map_questions m =
    (32, same m.frame_id (has_frame m.kind))
    ∷ (33, (not m.access_point || can_enter m.kind) && (not m.unreferenced || can_skip m.kind))
    ∷ []
