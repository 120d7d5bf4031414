use Rattle.std.proofs.Common.{◌≡◌}
use Rattle.reel.specs.Reel.{reading}
use Rattle.reel.specs.Walking.{to_read}
use Rattle.reel.proofs.checking.check.Given as goal

abbrev pub invariant-loop-block : goal.invariant-loop-block
invariant-loop-block l = (to_read l.block-iterator).stop ≡ (reading l.reel).stop
