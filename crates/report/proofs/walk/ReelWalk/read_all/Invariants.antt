use Rattle.std.proofs.Common.{◌≡◌}
use Rattle.report.specs.Walking.{in_all}
use Rattle.report.proofs.walk.ReelWalk.read_all.Given as goal

abbrev pub invariant-loop-number : goal.invariant-loop-number
invariant-loop-number g l = in_all l.self ≡ in_all l.initial.self
