use Rattle.std.proofs.Common.{vec_items}
use Rattle.std.specs.List.{AllByRecursion}
use Rattle.script.specs.Answers.{NotNothing}
use Rattle.script.specs.Steps.{ReadsOn}
use Rattle.flow.proofs.Ending.{untold}
use Rattle.script.proofs.session.Session.drain.Given as goal

abbrev pub invariant-loop-buffer : goal.invariant-loop-buffer
invariant-loop-buffer g l =
    ReadsOn g.C.Channel.slots g.C.Channel.space g.C.Channel.made g.C.Channel.tied g.K.Checksum.width g.K.Checksum.value g.S.Service.verdict
    (vec_items l.answers) l.initial.self l.self
    × AllByRecursion NotNothing (vec_items l.answers)

abbrev pub decreases-loop-buffer : goal.decreases-loop-buffer
decreases-loop-buffer g l =
    untold g.C.Channel.slots g.K.Checksum.width l.self.flow
