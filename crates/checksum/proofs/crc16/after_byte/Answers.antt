use Rattle.std.proofs.Common.{◌≡◌, ◌*◌, ◌/◌, ◌%◌, get_or, sym, ap, ◌∙◌, arith, rules}
use lib.Bits.{bit_xor}
use Rattle.checksum.specs.Lookup.{tabled}
use Rattle.checksum.specs.Bytewise.{byte}
use Rattle.checksum.proofs.crc16.after_byte.Goals as goal

pub returns : goal.returns
returns c =
    let high : get_or c.to_be_bytes.result 0 0 ≡ c.args.state / 256 = ap (λ l. get_or l 0 0) c.to_be_bytes.ensures ∙ omega arith in
    ap (bit_xor (c.args.state * 256 % 65536)) (c.entry.ensures ∙ ap (λ n. tabled 0 (bit_xor n c.args.byte)) high)
    ∙ sym (byte c.args.state c.args.byte (search rules) (search rules))
