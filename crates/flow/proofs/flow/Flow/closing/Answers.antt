use Rattle.flow.proofs.Happens.{happened_closing}
use Rattle.flow.proofs.flow.Flow.closing.Goals as goal

pub returns-clause-runs : goal.returns-clause-runs
returns-clause-runs g c =
    happened_closing g.C.Channel.slots g.C.Channel.space g.C.Channel.made g.C.Channel.tied
    g.K.Checksum.width g.K.Checksum.reach g.K.Checksum.value g.S.Service.verdict
    g.met.K.Checksum.sized g.met.K.Checksum.detects
    c.args.token c.end.result c.args.self.now c.end.new.self c.end.ensures
