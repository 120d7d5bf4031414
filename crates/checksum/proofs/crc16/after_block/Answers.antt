use Rattle.std.proofs.Common.{◌≡◌, ℕ, ◌/◌, ◌%◌, List, [], ◌∷◌, get_or, sym, refl, ap, ◌∙◌, subst, arith, rules}
use lib.Bits.{bit_xor}
use Rattle.std.proofs.lemmas.List.FromFn.{fill_by_all}
use Rattle.checksum.specs.Stretch.{Bytes, bits}
use Rattle.checksum.specs.Crc16.{feed}
use Rattle.checksum.specs.Lookup.{tabled}
use Rattle.checksum.proofs.Blocks.{sliced, block}
use Rattle.checksum.proofs.crc16.after_block.Goals as goal

pub returns : goal.returns
returns c =
    let r : ℕ = c.args.state in
    let s : List ℕ = c.args.block.now in
    let b : ℕ → ℕ = λ k. get_or s k 0 in
    let w : List ℕ = b 2 ∷ b 3 ∷ b 4 ∷ b 5 ∷ b 6 ∷ b 7 ∷ [] in
    let listed : s ≡ b 0 ∷ b 1 ∷ w = fill_by_all b s 8 0 c.told-block (λ k h. refl) in
    let high : get_or c.to_be_bytes.result 0 0 ≡ r / 256 = ap (λ l. get_or l 0 0) c.to_be_bytes.ensures ∙ omega arith in
    let low : get_or c.to_be_bytes.result 1 0 ≡ r % 256 = ap (λ l. get_or l 1 0) c.to_be_bytes.ensures in
    let looked_up
    : bit_xor (bit_xor (bit_xor (bit_xor (bit_xor (bit_xor (bit_xor c.entry.result c.entry-2.result) c.entry-3.result) c.entry-4.result) c.entry-5.result) c.entry-6.result) c.entry-7.result) c.entry-8.result
    ≡ bit_xor (bit_xor (sliced w) (tabled 6 (bit_xor (r % 256) (b 1)))) (tabled 7 (bit_xor (r / 256) (b 0)))
    = cc
    in
    looked_up
    ∙ sym (block r (b 0) (b 1) w (search rules) (subst Bytes listed (λ k h. c.fits-block k)))
    ∙ ap (λ (t : List ℕ). feed r (bits t)) (sym listed)
