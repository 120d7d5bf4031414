use Rattle.reel.proofs.Counts.{one_block}
use Rattle.reel.proofs.block.Block.frame_count.Goals as goal

pub returns-clause-lawful : goal.returns-clause-lawful
returns-clause-lawful c = λ bytes place fine parts. (one_block bytes place c.args.self fine parts).there
