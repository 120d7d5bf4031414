use Rattle.std.proofs.Common.{◌≡◌, length}
use Rattle.report.specs.Walking.{owed_to, in_all}
use Rattle.report.proofs.walk.ReelWalk.read_on.Given as goal

abbrev pub invariant-loop-reading : goal.invariant-loop-reading
invariant-loop-reading g l = in_all l.self ≡ in_all l.initial.self

abbrev pub decreases-loop-reading : goal.decreases-loop-reading
decreases-loop-reading g l = length (owed_to l.self)
