use Rattle.reel.proofs.Counts.{Counted}
use Rattle.reel.proofs.counting.survey.Given as goal

abbrev pub invariant-loop-found : goal.invariant-loop-found
invariant-loop-found l = Counted l.reel l.found-iterator l.contents
