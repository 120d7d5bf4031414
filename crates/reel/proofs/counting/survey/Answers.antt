use Rattle.std.proofs.Common.{Some, Result, subst}
use Rattle.reel.specs.declared.block.Block.{Block}
use Rattle.reel.specs.declared.fault.ReelFault.{ReelFault}
use Rattle.reel.specs.Walking.{Next, Reads}
use Rattle.reel.proofs.Counts.{counted_more}
use Rattle.reel.proofs.counting.survey.Goals as goal

pub loop-found-preserved : goal.loop-found-preserved
loop-found-preserved c =
    let s = c.loop-found.found-iterator in
    let t = c.next.new.self in
    let step = subst (λ (x : Result Block ReelFault). Next s (Some x) t) c.in-Ok.is c.in-Some.ensures.steps.0 in
    let reads = subst (λ (x : Result Block ReelFault). Reads s (Some x) t) c.in-Ok.is c.in-Some.ensures.steps.1 in
    rw c.with-contents.ensures
    (counted_more c.args.reel.now s c.loop-found.contents c.in-Ok.block t c.loop-found.invariant step reads)
