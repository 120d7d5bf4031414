use Rattle.std.proofs.Common.{refl}
use Rattle.channel.specs.Patterns.{shown}
use Rattle.channel.proofs.Fades.{through_set, through_clear, next_kept}
use Rattle.channel.proofs.fade.Fade.pass.Goals as goal

pub returns-then-passes : goal.returns-then-passes
returns-then-passes g c =
    let pattern = shown c.args.self.now.pattern in
    let number = c.args.self.now.number in
    let bits = c.bits.ensures.count in
    record {
      gives = through_set pattern number c.bits.result c.args.slot bits c.if-passes.ensures;
      counts = next_kept pattern number c.bits.result c.args.slot bits c.in_default.not-Mark;
      same = (refl {a = c.args.self.now.channel}, refl {a = c.args.self.now.pattern});
    }

pub returns-else-passes : goal.returns-else-passes
returns-else-passes g c =
    let pattern = shown c.args.self.now.pattern in
    let number = c.args.self.now.number in
    let bits = c.bits.ensures.count in
    record {
      gives = through_clear pattern number c.bits.result c.args.slot bits c.in_default.not-Mark c.if-passes.ensures;
      counts = next_kept pattern number c.bits.result c.args.slot bits c.in_default.not-Mark;
      same = (refl {a = c.args.self.now.channel}, refl {a = c.args.self.now.pattern});
    }
