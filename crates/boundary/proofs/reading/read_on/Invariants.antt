use Rattle.std.proofs.Common.{◌≡◌}
use Rattle.boundary.proofs.reading.read_on.Given as goal

abbrev pub decreases-loop-tell : goal.decreases-loop-tell
decreases-loop-tell g l = g.R.Source.untold l.source

-- the token in hand is as it was, and each answer can be told
abbrev pub invariant-loop-tell : goal.invariant-loop-tell
invariant-loop-tell g l = (g.R.Source.held l.source ≡ g.R.Source.held l.initial.source) × goal.F-IsAlwaysCallable g l.tell
