use Rattle.flow.proofs.Happens.{happened_reading}
use Rattle.flow.proofs.flow.Flow.reading.Goals as goal

pub returns-clause-runs : goal.returns-clause-runs
returns-clause-runs g c =
    happened_reading g.C.Channel.slots g.C.Channel.space g.C.Channel.made g.C.Channel.tied
    g.K.Checksum.width g.K.Checksum.reach g.K.Checksum.value g.S.Service.verdict
    g.met.K.Checksum.sized g.met.K.Checksum.detects
    c.args.buffer.now c.read.new.buffer c.read.result c.args.self.now c.read.new.self c.read.ensures
