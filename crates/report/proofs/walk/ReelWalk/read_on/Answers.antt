use Rattle.std.proofs.Common.{◌≡◌, true, sym, ◌∙◌, subst}
use Rattle.report.specs.declared.walk.Until.{Until}
use Rattle.report.specs.Walking.{is_the_last}
use Rattle.report.proofs.Walked.{not_last, last_of_all}
use Rattle.report.proofs.walk.ReelWalk.read_on.Goals as goal

pub returns-then-is_last : goal.returns-then-is_last
returns-then-is_last g c =
    let got = c.in_ok-reading.ensures in
    record {
      counted = got.counted ∙ c.loop-reading.invariant;
      out = λ all.
          got.out (last_of_all c.in_ok-reading.reading
          (subst (λ (u : Until). is_the_last u c.in_ok-reading.reading ≡ true) all (sym c.is_last.ensures ∙ c.if-is_last.true)));
    }

pub loop-reading-smaller : goal.loop-reading-smaller
loop-reading-smaller g c =
    c.in_ok-reading.ensures.falls
    (not_last c.args.until c.in_ok-reading.reading (sym c.is_last.ensures ∙ c.if-is_last.false))

pub loop-reading-preserved : goal.loop-reading-preserved
loop-reading-preserved g c = c.in_ok-reading.ensures.counted ∙ c.loop-reading.invariant
