use Rattle.report.proofs.Walked.{reads_one}
use Rattle.report.proofs.walk.ReelWalk.read_one.Goals as goal

pub returns : goal.returns
returns g c =
    rw c.show.ensures
    (reads_one c.args.self.now c.read.new.reader c.read.new.channel c.in-Ok.reading _ c.read.new.buffer c.in-Ok.ensures.reads)
