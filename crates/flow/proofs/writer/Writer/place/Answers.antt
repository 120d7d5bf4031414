use Rattle.std.proofs.Common.{length, ap, ◌∙◌, arith}
use Rattle.flow.specs.Writing.{state_of}
use Rattle.flow.proofs.Cuts.{over_less, left_clear}
use Rattle.flow.proofs.writer.Writer.place.Goals as goal

pub carry_over-requires : goal.carry_over-requires
carry_over-requires g c =
    let was = state_of c.args.self.now in
    let cuts = c.send-rest.ensures.cuts in
    let same = ap length cuts.rest_is in
    let less = over_less was.left was.begun c.args.bytes.now c.requires.1.0 c.args.self.now.two_free in (
      omega arith,
      λ some. same ∙ left_clear was.left was.begun c.args.bytes.now (omega (arith, cuts.left)),
    )
