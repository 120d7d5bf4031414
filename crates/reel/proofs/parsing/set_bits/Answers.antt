use Rattle.std.proofs.Common.{◌≡◌, map, sum, count_ones, sym, ◌∙◌, rules}
use Rattle.reel.proofs.Bits.{ones_counted}
use Rattle.reel.proofs.Reels.{bytes_of}
use Rattle.reel.proofs.parsing.set_bits.Goals as goal

pub returns : goal.returns
returns c =
    let total : c.sum.result ≡ sum (map count_ones c.args.map.now) = search rules in
    total ∙ sym (ones_counted c.args.map.now (bytes_of c.args.map.now c.type_inv.map))
