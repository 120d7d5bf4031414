-- Worked examples of sync headers.
use Rattle.std.specs.Prelude.{◌≡◌, ℕ, true, false, List, [], ◌∷◌, Some, None, Ok, Err}
use Rattle.service.specs.Encoding.{encoding}
use Rattle.service.specs.Reading.{reading}
use Rattle.service.specs.declared.header.Kind.TheVariants.{Video}
use Rattle.service.specs.declared.header.SyncHeader.{SyncHeader}

-- video, frame 0, a random access point
abbrev pub an_access_point : SyncHeader
an_access_point =
    record {
      kind = Video;
      frame_id = Some 0;
      timestamp = None;
      access_point = true;
      unreferenced = false;
    }

pub record SyncHeaders : Type 0 where
  -- read, and written again
  pub video : reading (0x14 ∷ 0x00 ∷ 0xAA ∷ []) ≡ Ok (an_access_point, 0xAA ∷ [])
  pub video_written : encoding an_access_point (0xAA ∷ []) ≡ 0x14 ∷ 0x00 ∷ 0xAA ∷ []
  -- adaptation with a frame id, whatever follows
  pub adaptation : (rest : List ℕ) → reading (0x07 ∷ rest) ≡ Err 32
