use Rattle.std.proofs.Common.{length}
use Rattle.flow.specs.Cutting.{cut}
use Rattle.flow.specs.Writing.{state_of}
use Rattle.flow.proofs.Sends.{Underway}
use Rattle.flow.proofs.writer.Writer.send.Given as goal

abbrev pub invariant-loop-self : goal.invariant-loop-self
invariant-loop-self g l =
    Underway g.C.Channel.slots g.C.Channel.space g.C.Channel.made g.C.Channel.tied
    (cut (state_of l.initial.self).left (state_of l.initial.self).begun l.bytes)
    (state_of l.initial.self) (state_of l.self) l.rest l.initial.channel l.channel

abbrev pub decreases-loop-self : goal.decreases-loop-self
decreases-loop-self g l = length l.rest
