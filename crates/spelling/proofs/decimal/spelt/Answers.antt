use Rattle.std.proofs.Common.{◌≡◌, ℕ, min, List, Some, sym, ap, ◌∙◌, arith}
use Rattle.std.proofs.lemmas.List.{drop_all}
use Rattle.spelling.specs.Decimal.{capped, spell_on}
use Rattle.spelling.proofs.Spelling.{spell_stop, spell_more}
use Rattle.spelling.proofs.decimal.spelt.Goals as goal

pub returns-in_err-count : goal.returns-in_err-count
returns-in_err-count c =
    c.from_residual.ensures
    ∙ spell_stop c.loop-digit.total c.loop-digit.digit-index c.args.digits.now c.loop-digit-test.true c.in_err-count.ensures
    ∙ c.loop-digit.invariant.1

pub loop-digit-preserved : goal.loop-digit-preserved
loop-digit-preserved c = (
  c.saturating_add-total.type_inv,
  spell_more c.loop-digit.total c.loop-digit.digit-index c.in_ok-count.count c.saturating_add-total.result
      c.args.digits.now c.loop-digit-test.true
      c.in_ok-count.ensures
      (omega (arith, c.saturating_add-total.ensures, c.saturating_mul.ensures))
      ∙ c.loop-digit.invariant.1,
)

pub returns : goal.returns
returns c =
    let total = c.loop-digit.total in
    let small : total ≡ min total 18446744073709551615 = omega (arith, c.loop-digit.invariant.0) in
    ap (λ (n : ℕ). Some n) small
    ∙ ap (λ (s : List ℕ). capped (spell_on (Some total) s)) (sym (drop_all c.loop-digit.digit-index c.args.digits.now c.loop-digit-test.false))
    ∙ c.loop-digit.invariant.1
