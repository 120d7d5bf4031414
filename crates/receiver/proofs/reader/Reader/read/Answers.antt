use Rattle.receiver.specs.Readings.{side}
use Rattle.receiver.specs.Views.{view}
use Rattle.receiver.proofs.Done.{reads}
use Rattle.receiver.proofs.reader.Reader.read.Goals as goal

pub returns-clause-reads : goal.returns-clause-reads
returns-clause-reads g c =
    let did = c.read_on.ensures in
    reads c.args.terms.fasb g.K.Checksum.width g.K.Checksum.value (g.S.Service.verdict c.args.terms.service.now)
    (side (view c.args.self.now) (g.C.Channel.slots c.args.channel.now) c.args.buffer.now)
    (side (view c.read_on.new.self) (g.C.Channel.slots c.read_on.new.channel) c.read_on.new.buffer)
    c.read_on.result did.answers did.lengths did.fills did.stands did.takes
