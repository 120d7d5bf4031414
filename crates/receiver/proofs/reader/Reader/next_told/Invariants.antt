use Rattle.std.proofs.Common.{length}
use Rattle.receiver.specs.Reading.{reading}
use Rattle.receiver.specs.Taking.{Leaves}
use Rattle.receiver.specs.Views.{view}
use Rattle.receiver.proofs.Slots.{Underway}
use Rattle.receiver.proofs.reader.Reader.next_told.Given as goal

abbrev pub invariant-loop-fasb : goal.invariant-loop-fasb
invariant-loop-fasb g l =
    Underway l.fasb l.width (reading l.fasb l.width (view l.initial.self) (g.C.Channel.slots l.initial.channel)) (g.C.Channel.slots l.initial.channel) l.self l.at (g.C.Channel.slots l.channel)
    × Leaves g.C.Channel.space g.C.Channel.tied (reading l.fasb l.width (view l.initial.self) (g.C.Channel.slots l.initial.channel)).taken l.initial.channel l.channel

abbrev pub decreases-loop-fasb : goal.decreases-loop-fasb
decreases-loop-fasb g l = length (g.C.Channel.slots l.channel)
