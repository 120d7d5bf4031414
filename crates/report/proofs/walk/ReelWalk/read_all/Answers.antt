use Rattle.std.proofs.Common.{sym, refl, ap, ◌∙◌}
use Rattle.report.specs.Walking.{tallied_all}
use Rattle.report.proofs.walk.ReelWalk.read_all.Goals as goal

pub returns : goal.returns
returns g c =
    let got = c.in_ok-read_on.ensures in
    ap (tallied_all c.read_on.new.self.settings.service c.read_on.new.self.totals) (sym (got.out refl))
    ∙ got.counted
    ∙ c.loop-number.invariant
