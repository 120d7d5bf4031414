-- Headers of the worked examples. Assumes nothing.
use Rattle.std.specs.Prelude.{true, false, Some, None}
use Rattle.service.specs.declared.header.Kind.TheVariants.{Video}
use Rattle.service.specs.declared.header.SyncHeader.{SyncHeader}

-- video, frame 0, a random access point
abbrev pub an_access_point : SyncHeader
an_access_point =
    record {
      kind = Video;
      frame_id = Some 0;
      timestamp = None;
      access_point = true;
      unreferenced = false;
    }
