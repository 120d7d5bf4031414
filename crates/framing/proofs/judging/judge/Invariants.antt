use Rattle.std.proofs.Common.{◌≡◌, ◌-◌, ◌≤◌, length}
use Rattle.framing.specs.Header.{headers_from}
use Rattle.framing.specs.Judging.{judgment_of, judgment}
use Rattle.framing.proofs.judging.judge.Given as goal

-- What is left to judge decides as the whole frame does.
abbrev pub invariant-loop-byte : goal.invariant-loop-byte
invariant-loop-byte l = record {
  inside : length l.rest ≤ 122;
  decides : (judgment_of l.width l.gathered (headers_from (123 - length l.rest) 0 l.rest)).verdict ≡ (judgment l.width l.gathered l.frame.bytes).verdict;
}

abbrev pub decreases-loop-byte : goal.decreases-loop-byte
decreases-loop-byte l = length l.rest
