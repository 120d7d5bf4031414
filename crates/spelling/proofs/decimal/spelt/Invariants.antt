use Rattle.std.proofs.Common.{◌≡◌, ◌<◌, drop, Some}
use Rattle.spelling.specs.Decimal.{capped, spell_on}
use Rattle.spelling.proofs.decimal.spelt.Given as goal

-- the number so far is one that the machine holds, and the digits that are left lead to the same
abbrev pub invariant-loop-digit : goal.invariant-loop-digit
invariant-loop-digit l =
    (l.total < 18446744073709551616)
    × (capped (spell_on (Some l.total) (drop l.digit-index l.digits)) ≡ capped (spell_on (Some 0) l.digits))
