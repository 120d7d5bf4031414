use Rattle.flow.proofs.Ending.{answers_less}
use Rattle.boundary.proofs.session.SessionSource.reading.Goals as goal

pub returns-clause-less : goal.returns-clause-less
returns-clause-less g c =
    answers_less g.C.Channel.slots g.C.Channel.space g.C.Channel.tied g.K.Checksum.width g.K.Checksum.value g.S.Service.verdict
    c.reading.result _ _ c.args.self.now.flow c.reading.new.self c.reading.ensures.answer
