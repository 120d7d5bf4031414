use Rattle.std.proofs.Common.{◌%◌, ◌<◌, length, ap, ◌∙◌, arith}
use Rattle.checksum.specs.Lookup.{tabled}
use Rattle.checksum.proofs.Lookups.{looked_up}
use Rattle.checksum.proofs.table.entry.Goals as goal

pub returns : goal.returns
returns c =
    let there : c.args.later % 8 < length c.tables.result.now = omega (arith, c.tables.ensures.count) in
    looked_up c.tables.result.now c.tables.ensures.rule (c.args.later % 8) c.from.result there (omega arith)
    ∙ ap (tabled (c.args.later % 8)) c.from.ensures
