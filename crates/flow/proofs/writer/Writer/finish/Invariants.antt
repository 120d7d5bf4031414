use Rattle.flow.specs.Writing.{state_of}
use Rattle.flow.proofs.Pads.{Padding}
use Rattle.flow.proofs.writer.Writer.finish.Given as goal

abbrev pub invariant-loop-self : goal.invariant-loop-self
invariant-loop-self g l =
    Padding g.C.Channel.slots g.C.Channel.space g.C.Channel.made g.C.Channel.tied
    (state_of l.initial.self) (state_of l.self) l.initial.channel l.channel

abbrev pub decreases-loop-self : goal.decreases-loop-self
decreases-loop-self g l = (state_of l.self).left
