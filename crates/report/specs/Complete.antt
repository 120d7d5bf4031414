-- What a whole reel came to.
use Rattle.std.specs.Prelude.{◌≡◌, ℕ, ◌+◌, ◌-◌, ◌^◌, min, Bool, not, ◌&&◌, List, is_some, ◌==◌}
use Rattle.std.specs.Option.{option_map}
use Rattle.receiver.specs.Reading.{new_reader}
use Rattle.reel.specs.Counting.{Counts}
use Rattle.reel.specs.Parts.{told_as}
use Rattle.reel.specs.Playing.{reel_slots}
use Rattle.reel.specs.Reel.{reading}
use Rattle.report.specs.declared.settings.Settings.{Settings}
use Rattle.report.specs.declared.visit.Outcome.{Outcome}
use Rattle.report.specs.Tallies.{nothing_yet, all_packets}
use Rattle.report.specs.Walking.{counting_open, tallied_all, owed_by}

-- all frames, those that were lost among them
abbrev pub frame_total : Outcome → ℕ
frame_total o = min (o.surveyed.contents.gaps + o.surveyed.contents.frames) (2 ^ 128 - 1)

-- the frames that are neither lost nor torn
abbrev pub whole_frames : Outcome → ℕ
whole_frames o = o.surveyed.contents.frames - o.totals.torn

-- no fault, no frame lost or torn, every packet sound, and none unfinished
abbrev pub complete : Outcome → Bool
complete o =
    not (is_some o.surveyed.fault)
    && (o.surveyed.contents.gaps == 0
    && (o.totals.torn == 0 && (all_packets o.totals == o.totals.sound && o.totals.unfinished == 0)))

-- What the reading of a whole reel came to, under these settings.
pub record ComesTo (settings : Settings) (reel : List ℕ) (o : Outcome) : Type 0 where
  -- what stands on the reel, up to its end or its first fault
  pub counts : Counts (reading reel).superframes o.surveyed.contents
  pub stops : option_map told_as o.surveyed.fault ≡ (reading reel).stop
  -- the totals are those of all answers that are owed to a new reader, and of the packet that is open at the end
  pub all : o.totals ≡ counting_open (tallied_all settings.service nothing_yet (owed_by settings new_reader (reel_slots (reading reel).superframes))) o.open_at_end
