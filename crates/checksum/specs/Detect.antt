-- CRC-16 detects every change within a stretch of 16 bits, in strings of every length. Assumes nothing.
use Rattle.std.specs.Prelude.{◌≡◌, ℕ, zero, suc, ◌*◌, ◌/◌, ◌%◌, ◌<◌, List, [], ◌∷◌, ◌++◌, bit_xor, refl}
use Rattle.std.proofs.Common.{sym, ap, ◌∙◌, arith, lit<}
use Rattle.std.specs.Int.Bits.{xor_self, xor_zero_r}
use Rattle.checksum.specs.Stretch.{Bytes, byte_bits, bits}
use Rattle.checksum.specs.Detection.{Detects}
use Rattle.checksum.specs.Crc16.{step_by, feed_by, feed, register, crc16}
use Rattle.checksum.specs.Lookup.{tabled}
use Rattle.checksum.specs.Bursts.{feed_lt, apart}
use Rattle.checksum.specs.Bytewise.{byte}

pub register_lt : (s : List ℕ) → register s < 65536
register_lt s = feed_lt 15 0x1021 refl (lit< tt) (bits s) 0xFFFF (lit< tt)

-- a byte that is the register's high byte takes it out
taken : (r : ℕ) → r < 65536 → feed r (byte_bits (r / 256)) ≡ r * 256 % 65536
unfolding tabled feed_by step_by
taken r h =
    byte r (r / 256) h (omega arith)
    ∙ ap (λ (n : ℕ). bit_xor (r * 256 % 65536) (tabled 0 n)) (xor_self (r / 256))
    ∙ xor_zero_r (r * 256 % 65536)

pub feed_then : (s v : List ℕ) (r : ℕ) → feed r (bits (s ++ v)) ≡ feed (feed r (bits s)) (bits v)
unfolding feed_by
feed_then [] v r = refl
feed_then (x ∷ s) v r = feed_then s v (feed r (byte_bits x))

-- a register takes in its own two bytes: nothing is left
emptied : (r : ℕ) → r < 65536 → feed r (bits (r / 256 ∷ r % 256 ∷ [])) ≡ 0
unfolding feed_by
emptied r h =
    let q : ℕ = r * 256 % 65536 in
    let next : q / 256 ≡ r % 256 = omega arith in
    let gone : q * 256 % 65536 ≡ 0 = omega arith in
    ap (λ (n : ℕ). feed n (byte_bits (r % 256))) (taken r h) ∙ ap (λ (n : ℕ). feed q (byte_bits n)) (sym next)
    ∙ taken q (omega arith)
    ∙ gone

-- a string and then its value leave the register at zero
to_zero : (s : List ℕ) → feed 0xFFFF (bits (s ++ crc16 s)) ≡ 0
to_zero s = feed_then s (crc16 s) 0xFFFF ∙ emptied (register s) (register_lt s)

pub crc16_detects : Detects 16 crc16
crc16_detects s t v u e =
    apart 15 0x1021 refl (lit< tt) (bits (s ++ crc16 s)) (bits (t ++ v)) 0xFFFF (lit< tt) u
    (to_zero s ∙ sym (to_zero t) ∙ ap (λ (w : List ℕ). feed 0xFFFF (bits (t ++ w))) e)

pub crc16_bytes : (s : List ℕ) → Bytes (crc16 s)
crc16_bytes s zero h = omega (arith, register_lt s)
crc16_bytes s (suc zero) h = omega arith
crc16_bytes s (suc (suc k)) h = omega arith
