use Rattle.std.proofs.lemmas.Nat.{and_mask}
use Rattle.framing.proofs.header.low_bits.Goals as goal

pub returns : goal.returns
returns c = and_mask c.args.byte 7
