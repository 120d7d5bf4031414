use Rattle.runlaw.proofs.Followed.{reads_the_clear}
use Rattle.runlaw.proofs.Holds.{run_law_holds}
use Rattle.runlaw.proofs.law.run_law_stands.Goals as goal

pub returns : goal.returns
returns c = record { reads = reads_the_clear; holds = run_law_holds }
