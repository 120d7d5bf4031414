use Rattle.std.proofs.Common.{◌<◌, ◌≤◌, length, arith}
use Rattle.std.proofs.lemmas.Bool.Decides.{nat_tests}
use Rattle.flow.proofs.Cuts.{cut_fits, cut_fills}
use Rattle.flow.proofs.writer.Writer.fill.Goals as goal

pub returns-then-not-is_full-clause-cuts : goal.returns-then-not-is_full-clause-cuts
returns-then-not-is_full-clause-cuts c =
    let grows = c.write_next-rest.ensures.grows in
    let fits : length c.write_next-rest.new.self.bytes.items < 121 = grind (arith, nat_tests) in
    let e = cut_fits _ c.args.self.now.unfinished.bytes.items c.args.bytes.now c.requires.0 c.requires.1 (rw grows at fits) in
    cc

pub returns-clause-cuts : goal.returns-clause-cuts
returns-clause-cuts c =
    let grows = c.write_next-rest.ensures.grows in
    let fills : 121 ≤ length c.write_next-rest.new.self.bytes.items = grind (arith, nat_tests) in
    let e = cut_fills _ c.args.self.now.unfinished.bytes.items c.args.bytes.now c.requires.0 c.requires.1 (rw grows at fills) in
    cc
