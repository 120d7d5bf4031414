use Rattle.std.proofs.Common.{◌≡◌, drop, vec_items}
use Rattle.spelling.specs.Hex.{behind, unhexed}
use Rattle.spelling.proofs.Spelling.{pairs_unhexed}
use Rattle.spelling.proofs.hex.decode_digits.Given as goal

-- the bytes so far, and then those that the pairs left spell
abbrev pub invariant-loop-high : goal.invariant-loop-high
invariant-loop-high l = behind (vec_items l.bytes) (pairs_unhexed (drop l.high-index l.pairs)) ≡ unhexed l.digits
