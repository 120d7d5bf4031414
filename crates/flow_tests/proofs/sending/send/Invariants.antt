-- While offers are made the token in hand is that of the flow's open superframe.
use Rattle.std.proofs.Common.{◌≡◌, true}
use Rattle.flow.specs.Writing.{state_of}
use Rattle.flow_tests.proofs.sending.send.Given as goal

abbrev pub invariant-loop-len : goal.invariant-loop-len
invariant-loop-len g l = ((state_of l.flow.writer).opened ≡ true) × (l.token.flow ≡ l.flow.id)
