use Rattle.std.proofs.Common.{arith}
use Rattle.reel.proofs.Counts.{one_block}
use Rattle.reel.proofs.block.Block.gap_count.Goals as goal

pub returns-clause-lawful : goal.returns-clause-lawful
returns-clause-lawful c = λ bytes place fine parts. let one = one_block bytes place c.args.self fine parts in omega arith
