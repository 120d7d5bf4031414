-- antt computes what the rule gives, and compares it with the code's tables.
use Rattle.std.proofs.Common.{refl}
use Rattle.checksum.specs.Crc16.{step_by, feed_by}
use Rattle.checksum.specs.Lookup.{tabled}
use Rattle.checksum.proofs.table.tables.Goals as goal

pub returns : goal.returns
unfolding step_by feed_by tabled
returns c = record { count = refl; rule = (refl, (refl, (refl, (refl, (refl, (refl, (refl, (refl, tt)))))))) }
