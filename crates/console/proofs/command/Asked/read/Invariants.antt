use Rattle.std.proofs.Common.{◌≡◌}
use Rattle.console.proofs.command.Asked.read.Given as goal

abbrev pub invariant-loop-word : goal.invariant-loop-word
invariant-loop-word l = l.asked.verb ≡ l.fn.verb
