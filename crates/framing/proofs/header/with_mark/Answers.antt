use Rattle.std.proofs.lemmas.Nat.{or_shifted}
use Rattle.framing.proofs.header.with_mark.Goals as goal

pub returns : goal.returns
returns c = or_shifted 1 7 c.args.count c.requires
