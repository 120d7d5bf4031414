-- A byte at once: the register is linear over exclusive or, so a byte's eight steps are a shift and one entry of a
-- table. Assumes nothing.
use Rattle.std.specs.Prelude.{◌≡◌, ℕ, ◌*◌, ◌/◌, ◌%◌, ◌<◌, Bool, true, false, cond, List, [], ◌∷◌, map, bit_xor, slice_index}
use Rattle.std.proofs.Math.Path.{refl}
use Rattle.std.proofs.Common.{sym, ap, ap₂, ◌∙◌, add-zero, div-add-mod', mod-lt, arith, lit<}
use Rattle.std.proofs.lemmas.Nat.{xor_block, xor_mod, xor_shr, xor_comm}
use Rattle.std.specs.Int.Bits.{xor_shifted}
use Rattle.std.specs.List.{range_with_len}
use Rattle.std.proofs.lemmas.List.FromFn.{get_or-map-range_with_len}
use Rattle.checksum.specs.Stretch.{odd, byte_bits}
use Rattle.checksum.specs.Crc16.{unlike, step_by, feed_by, feed}
use Rattle.checksum.specs.Lookup.{tabled}
use Rattle.checksum.specs.Bits.{xor_swap, odd_xor}

abbrev step : ℕ → Bool → ℕ
step = step_by 15 0x1021

abbrev terms : Bool → ℕ
terms f = cond f 0x1021 0

terms_add : (t u b : Bool) → terms (unlike (unlike t u) b) ≡ bit_xor (terms (unlike t b)) (terms (unlike u false))
terms_add true true true = refl
terms_add true true false = refl
terms_add true false true = refl
terms_add true false false = refl
terms_add false true true = refl
terms_add false true false = refl
terms_add false false true = refl
terms_add false false false = refl

twice_add : (r q : ℕ) → bit_xor r q * 2 ≡ bit_xor (r * 2) (q * 2)
twice_add r q = simp add-zero at (sym (xor_block 1 r q 0 0 (lit< tt) (lit< tt)))

by256_add : (r q : ℕ) → bit_xor r q * 256 ≡ bit_xor (r * 256) (q * 256)
by256_add r q = simp add-zero at (sym (xor_block 8 r q 0 0 (lit< tt) (lit< tt)))

step_add : (r q : ℕ) (b : Bool) → step (bit_xor r q) b ≡ bit_xor (step r b) (step q false)
unfolding step_by
step_add r q b =
    ap₂ bit_xor
    (ap (λ (n : ℕ). n % 65536) (twice_add r q) ∙ xor_mod (r * 2) (q * 2) 16)
    (ap (λ (t : Bool). terms (unlike t b)) (ap odd (xor_shr r q 15) ∙ odd_xor (r / 32768) (q / 32768))
    ∙ terms_add (odd (r / 32768)) (odd (q / 32768)) b)
    ∙ xor_swap (r * 2 % 65536) (q * 2 % 65536) (terms (unlike (odd (r / 32768)) b)) (terms (unlike (odd (q / 32768)) false))

-- as many zeros
abbrev pub blank : List Bool → List Bool
blank [] = []
blank (b ∷ w) = false ∷ blank w

-- two registers added: one takes the bits, the other as many zeros
pub feed_add : (w : List Bool) (r q : ℕ) → feed (bit_xor r q) w ≡ bit_xor (feed r w) (feed q (blank w))
unfolding feed_by
feed_add [] r q = refl
feed_add (b ∷ w) r q = ap (λ (n : ℕ). feed n w) (step_add r q b) ∙ feed_add w (step r b) (step q false)

-- two functions agree at every byte if their tables do, which antt computes
by_table : (f g : ℕ → ℕ) → map f (range_with_len 0 256) ≡ map g (range_with_len 0 256) → (x : ℕ) → x < 256 → f x ≡ g x
by_table f g e x h =
    sym (get_or-map-range_with_len f 0 256 x x 0 h (omega arith)) ∙ ap (λ (t : List ℕ). slice_index t x) e
    ∙ get_or-map-range_with_len g 0 256 x x 0 h (omega arith)

-- the register's low byte moves up unchanged
low_byte : (x : ℕ) → x < 256 → feed x (byte_bits 0) ≡ x * 256
unfolding feed_by step_by
low_byte = by_table (λ x. feed x (byte_bits 0)) (λ x. x * 256) refl

-- a byte that enters does what it would do as the register's high byte
pub high_byte : (x : ℕ) → x < 256 → feed 0 (byte_bits x) ≡ tabled 0 x
unfolding feed_by step_by tabled
high_byte = by_table (λ x. feed 0 (byte_bits x)) (tabled 0) refl

-- a byte enters
pub byte : (r x : ℕ) → r < 65536 → x < 256 → feed r (byte_bits x) ≡ bit_xor (r * 256 % 65536) (tabled 0 (bit_xor (r / 256) x))
byte r x hr hx =
    let hi : ℕ = r / 256 in
    let lo : ℕ = r % 256 in
    let parts : r ≡ bit_xor (hi * 256) lo = sym (xor_shifted hi 8 lo (mod-lt r (lit< tt)) ∙ div-add-mod' r 256) in
    let lows : lo * 256 ≡ r * 256 % 65536 = omega arith in
    ap (λ (n : ℕ). feed n (byte_bits x)) parts
    ∙ feed_add (byte_bits x) (hi * 256) lo
    ∙ ap₂ bit_xor
    (feed_add (byte_bits x) 0 (hi * 256) ∙ ap₂ bit_xor (high_byte x hx) (shut hi) ∙ xor_comm (tabled 0 x) (tabled 0 hi) ∙ sym (joined hi x))
    (low_byte lo (mod-lt r (lit< tt)) ∙ lows)
    ∙ xor_comm (tabled 0 (bit_xor hi x)) (r * 256 % 65536)
  where
    shut : (i : ℕ) → feed (i * 256) (byte_bits 0) ≡ tabled 0 i
    shut i = unfold tabled in refl

    joined : (i k : ℕ) → tabled 0 (bit_xor i k) ≡ bit_xor (tabled 0 i) (tabled 0 k)
    joined i k =
        unfold tabled in (ap (λ (n : ℕ). feed n (byte_bits 0)) (by256_add i k) ∙ feed_add (byte_bits 0) (i * 256) (k * 256))
