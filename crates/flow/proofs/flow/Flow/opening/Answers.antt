use Rattle.flow.proofs.Happens.{happened_opening}
use Rattle.flow.proofs.flow.Flow.opening.Goals as goal

pub returns-clause-runs : goal.returns-clause-runs
returns-clause-runs g c =
    happened_opening g.C.Channel.slots g.C.Channel.space g.C.Channel.made g.C.Channel.tied
    g.K.Checksum.width g.K.Checksum.reach g.K.Checksum.value g.S.Service.verdict
    g.met.K.Checksum.sized g.met.K.Checksum.detects
    c.args.n c.start.result c.args.self.now c.start.new.self c.start.ensures
