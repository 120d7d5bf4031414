use Rattle.runlaw.proofs.Verdicts.{goes_well_shown, goes_well_up, passes_round_down, cuts_first_only_down, puts_another_down, finds_nothing_down, gives_one_a_frame_down, calls_all_sound_down, calls_all_damaged_down, trusts_after_gap_down, trusts_a_mark_down}
use Rattle.runlaw.proofs.trials.wrong_runs_are_turned_down.Goals as goal

pub returns : goal.returns
returns c = record {
  shows_a_right_run = goes_well_shown;
  allows_a_right_run = goes_well_up;
  packets_round_the_channel = passes_round_down;
  only_the_first_offer = cuts_first_only_down;
  another_frame = puts_another_down;
  always_nothing = finds_nothing_down;
  one_packet_a_frame = gives_one_a_frame_down;
  all_sound = calls_all_sound_down;
  all_damaged = calls_all_damaged_down;
  after_a_gap = trusts_after_gap_down;
  over_a_mark = trusts_a_mark_down;
}
