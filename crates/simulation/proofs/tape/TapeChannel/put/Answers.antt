use Rattle.std.proofs.Common.{arith}
use Rattle.simulation.proofs.Tapings.{put_on}
use Rattle.simulation.proofs.tape.TapeChannel.put.Goals as goal

pub returns : goal.returns
returns c = put_on c.args.item.now _ c.args.self.now c.fill.new.self (omega arith) c.fill.ensures c.pass-slot.ensures
