use Rattle.std.proofs.Common.{ℕ, ◌-◌, ◌*◌, ◌/◌, ◌^◌, ◌<◌, eqb, length, get_or, sym, ap, ◌∙◌, arith}
use Rattle.reel.proofs.Bits.{clear_spare}
use Rattle.reel.proofs.parsing.spare_bits_are_clear.Goals as goal

pub returns : goal.returns
returns c =
    let last = length c.args.map.now - 1 in
    let byte : get_or c.args.map.now last 0 < 256 = (c.type_inv.map last).fits in
    ap (λ (n : ℕ). eqb n 0) (c.behind.ensures ∙ ap (λ (n : ℕ). get_or c.args.map.now last 0 / 2 ^ (n - 8 * last)) c.from.ensures)
    ∙ sym (clear_spare c.args.map.now last c.args.size (omega arith) (omega arith) byte)
