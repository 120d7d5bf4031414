use Rattle.report.proofs.settings.Settings.read.Goals as goal

pub returns-in-Without-clause-reads : goal.returns-in-Without-clause-reads
returns-in-Without-clause-reads c =
    let lent = c.as_ref.ensures in
    rw c.in-Without.is (rw (lent.mode, lent.lends.1, c.terms.ensures) at c.read.ensures.reads)

pub returns-in-Crc16-clause-reads : goal.returns-in-Crc16-clause-reads
returns-in-Crc16-clause-reads c =
    let lent = c.as_ref-in-Crc16.ensures in
    rw c.in-Crc16.is (rw (lent.mode, lent.lends.1, c.terms-in-Crc16.ensures) at c.read-in-Crc16.ensures.reads)
