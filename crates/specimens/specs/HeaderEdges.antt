-- The edges of the questions about sync headers: for each number the last input that is answered yes and the first that is
-- not, and which of two questions comes first.
use Rattle.std.specs.Prelude.{◌≡◌, ℕ, false, List, [], ◌∷◌, Some, None, Ok, Err, Option}
use Rattle.service.specs.Reading.{reading}
use Rattle.service.specs.Serving.{refusal_in}
use Rattle.service.specs.Writing.{writing}
use Rattle.service.specs.declared.header.Kind.{Kind}
use Rattle.service.specs.declared.header.Kind.TheVariants.{Video, Audio, TimedData, Adaptation}
use Rattle.service.specs.declared.header.SyncHeader.{SyncHeader}

-- the number that refuses a packet with a sync header
abbrev pub refused : List ℕ → Option ℕ
refused packet = refusal_in (reading packet)

-- the facts of a header without flags
abbrev pub plain : Kind → (id time : Option ℕ) → SyncHeader
plain kind id time = record { kind = kind; frame_id = id; timestamp = time; access_point = false; unreferenced = false }

pub record ReadingHeaders : Type 0 where
  -- 30
  pub no_byte : refused [] ≡ Some 30
  -- 31, before 32
  pub bit_7 : refused (0x47 ∷ []) ≡ Some 31
  pub bit_8 : refused (0x87 ∷ []) ≡ Some 31
  -- 32, before 33
  pub video_without : refused (0x20 ∷ 0xAA ∷ []) ≡ Some 32
  pub audio_without : refused (0x01 ∷ 0xAA ∷ []) ≡ Some 32
  pub timed_without : refused (0x12 ∷ 0xAA ∷ []) ≡ Some 32
  pub adaptation_with : refused (0x17 ∷ 0x00 ∷ 0xAA ∷ []) ≡ Some 32
  -- 33, before 34
  pub audio_entered : refused (0x15 ∷ 0x00 ∷ 0xAA ∷ []) ≡ None
  pub timed_entered : refused (0x16 ∷ []) ≡ Some 33
  pub adaptation_entered : refused (0x13 ∷ []) ≡ Some 33
  pub video_skipped : refused (0x24 ∷ 0x00 ∷ 0xAA ∷ []) ≡ None
  pub audio_skipped : refused (0x25 ∷ []) ≡ Some 33
  -- 34, before 35
  pub no_payload : refused (0x04 ∷ 0x3C ∷ []) ≡ Some 34
  pub no_payload_behind_time : refused (0x0C ∷ 0x00 ∷ 0x01 ∷ 0x02 ∷ 0x03 ∷ 0x04 ∷ []) ≡ Some 34
  -- 35
  pub video_59 : refused (0x04 ∷ 0x3B ∷ 0xAA ∷ []) ≡ None
  pub video_60 : refused (0x04 ∷ 0x3C ∷ 0xAA ∷ []) ≡ Some 35
  pub audio_255 : refused (0x05 ∷ 0xFF ∷ 0xAA ∷ []) ≡ None
  -- the facts: the frame id before the timestamp, and its lowest byte first
  pub timed : reading (0x0E ∷ 0x05 ∷ 0x01 ∷ 0x02 ∷ 0x03 ∷ 0x04 ∷ 0xAA ∷ []) ≡ Ok (plain TimedData (Some 5) (Some 0x04030201), 0xAA ∷ [])
  pub adaptation : reading (0x0B ∷ 0x01 ∷ 0x00 ∷ 0x00 ∷ 0x00 ∷ 0xAA ∷ []) ≡ Ok (plain Adaptation None (Some 1), 0xAA ∷ [])

pub record WritingHeaders : Type 0 where
  pub fits : writing (plain Video (Some 59) None) (0xAA ∷ []) 3 ≡ Ok 3
  -- 32, before 34
  pub missing : writing (plain Audio None None) [] 0 ≡ Err 32
  -- 34, before 35
  pub no_payload : writing (plain Video (Some 60) None) [] 0 ≡ Err 34
  -- 35, before 36
  pub video_60 : writing (plain Video (Some 60) None) (0xAA ∷ []) 0 ≡ Err 35
  -- 36
  pub one_short : writing (plain Video (Some 59) None) (0xAA ∷ []) 2 ≡ Err 36
  pub one_short_behind_time : writing (plain Adaptation None (Some 1)) (0xAA ∷ []) 5 ≡ Err 36
