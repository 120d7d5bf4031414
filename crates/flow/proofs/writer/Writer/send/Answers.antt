use Rattle.std.proofs.Common.{arith}
use Rattle.std.proofs.lemmas.Bool.Decides.{nat_tests}
use Rattle.flow.specs.Writing.{frames}
use Rattle.flow.proofs.Cuts.{cut_all, cut_nowhere}
use Rattle.flow.proofs.Sends.{underway_more, underway_ends}
use Rattle.flow.proofs.writer.Writer.send.Goals as goal

pub loop-self-preserved : goal.loop-self-preserved
loop-self-preserved g c =
    underway_more (frames c.fill-full.result.1) c.loop-self.invariant c.fill-full.ensures.cuts c.fill-full.ensures.stays c.put_full.ensures

pub returns-else-frames_left-gt0 : goal.returns-else-frames_left-gt0
returns-else-frames_left-gt0 g c =
    let end = underway_ends c.loop-self.invariant (cut_nowhere _ _ c.loop-self.rest.now (omega arith)) in
    record { cuts = end.0; puts = end.1 }

pub returns-after-loop-self : goal.returns-after-loop-self
returns-after-loop-self g c =
    let end = underway_ends c.loop-self.invariant (cut_all _ _ c.loop-self.rest.now (grind (arith, nat_tests))) in
    record { cuts = end.0; puts = end.1 }
