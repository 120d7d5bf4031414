use Rattle.flow.proofs.Happens.{happened_offer}
use Rattle.flow.proofs.flow.Flow.offer.Goals as goal

pub returns-clause-runs : goal.returns-clause-runs
returns-clause-runs g c =
    happened_offer g.C.Channel.slots g.C.Channel.space g.C.Channel.made g.C.Channel.tied
    g.K.Checksum.width g.K.Checksum.reach g.K.Checksum.value g.S.Service.verdict
    g.met.K.Checksum.sized g.met.K.Checksum.detects
    c.args.token c.args.packet.now c.accept-answer.result c.args.self.now c.accept-answer.new.self c.accept-answer.ensures
