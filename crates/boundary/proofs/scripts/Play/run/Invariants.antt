use Rattle.std.proofs.Common.{◌≡◌}
use Rattle.boundary.proofs.scripts.Play.run.Given as goal

-- the other flow's token is as it was
abbrev pub invariant-loop-step : goal.invariant-loop-step
invariant-loop-step g l = l.self.other.hand ≡ l.initial.self.other.hand
