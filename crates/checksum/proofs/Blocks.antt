-- Several bytes at once: what each of them adds to the register is looked up for as many zero bytes as follow it.
-- Assumes nothing.
use Rattle.std.proofs.Common.{◌≡◌, ℕ, suc, ◌+◌, ◌*◌, ◌/◌, ◌%◌, ◌<◌, List, [], ◌∷◌, length, refl, ap, ◌∙◌, ap₂, zero-add, arith}
use lib.Bits.{bit_xor}
use Rattle.checksum.specs.Stretch.{Bytes, byte_bits, bits}
use Rattle.checksum.specs.Crc16.{feed_by, feed}
use Rattle.checksum.specs.Lookup.{tabled}
use Rattle.checksum.specs.Bytewise.{blank, feed_add, high_byte, byte}

-- what the bytes add, each on its own
abbrev pub sliced : List ℕ → ℕ
sliced [] = 0
sliced (x ∷ w) = bit_xor (sliced w) (tabled (length w) x)

-- as many zero bytes as w has bytes enter after the first k + 1
later_zeros : (w : List ℕ) (k x : ℕ) → feed (tabled k x) (blank (bits w)) ≡ tabled (k + length w) x
unfolding feed_by tabled
later_zeros [] k x = ap (λ (n : ℕ). tabled n x) (omega arith)
later_zeros (y ∷ w) k x = later_zeros w (suc k) x ∙ ap (λ (n : ℕ). tabled n x) (omega arith)

-- a byte has entered, and w follows: the byte's part and that of w are found apart
part_off : (w : List ℕ) (x : ℕ) → feed (tabled 0 x) (bits w) ≡ bit_xor (feed 0 (bits w)) (tabled (length w) x)
part_off w x =
    feed_add (bits w) 0 (tabled 0 x)
    ∙ ap (bit_xor (feed 0 (bits w))) (later_zeros w 0 x ∙ ap (λ (n : ℕ). tabled n x) (zero-add (length w)))

from_zero : (w : List ℕ) → Bytes w → feed 0 (bits w) ≡ sliced w
unfolding feed_by
from_zero [] h = refl
from_zero (x ∷ w) h =
    ap (λ (n : ℕ). feed n (bits w)) (high_byte x (h 0 (omega arith)))
    ∙ part_off w x
    ∙ ap (λ (n : ℕ). bit_xor n (tabled (length w) x)) (from_zero w (λ k l. h (suc k) (omega arith)))

-- two bytes and then w enter: the register's own bytes fall out with the first two
pub block : (r x y : ℕ) (w : List ℕ) → r < 65536 → Bytes (x ∷ y ∷ w)
    → feed r (bits (x ∷ y ∷ w)) ≡ bit_xor (bit_xor (sliced w) (tabled (length w) (bit_xor (r % 256) y))) (tabled (suc (length w)) (bit_xor (r / 256) x))
unfolding feed_by
block r x y w hr h =
    let q : ℕ = r * 256 % 65536 in
    let hx : x < 256 = h 0 (omega arith) in
    let hy : y < 256 = h 1 (omega arith) in
    let top : q / 256 ≡ r % 256 = omega arith in
    let gone : q * 256 % 65536 ≡ 0 = omega arith in
    let second : feed q (byte_bits y) ≡ tabled 0 (bit_xor (r % 256) y) =
    byte q y (omega arith) hy ∙ ap₂ (λ (m n : ℕ). bit_xor m (tabled 0 (bit_xor n y))) gone top
    in
    ap (λ (n : ℕ). feed n (bits (y ∷ w))) (byte r x hr hx)
    ∙ feed_add (bits (y ∷ w)) q (tabled 0 (bit_xor (r / 256) x))
    ∙ ap₂ bit_xor
    (ap (λ (n : ℕ). feed n (bits w)) second ∙ part_off w (bit_xor (r % 256) y)
    ∙ ap (λ (n : ℕ). bit_xor n (tabled (length w) (bit_xor (r % 256) y))) (from_zero w (λ k l. h (suc (suc k)) (omega arith))))
    (later_zeros (y ∷ w) 0 (bit_xor (r / 256) x) ∙ ap (λ (n : ℕ). tabled n (bit_xor (r / 256) x)) (zero-add (suc (length w))))
