-- Laws of the lowest bit and of exclusive or. Assumes nothing.
use Rattle.std.specs.Prelude.{◌≡◌, ℕ, zero, suc, ◌%◌, ◌<◌, Bool, true, false, ◌==◌, bit_xor, nat_eq, refl}
use Rattle.std.proofs.Common.{sym, ap, ◌∙◌, true≢false, mod-lt, le_of_suc-le-suc, not-suc-le-zero, lit<}
use Rattle.std.proofs.lemmas.Bool.{false≢true}
use Rattle.std.specs.Int.Bits.{xor_assoc, xor_self, xor_zero_r}
use Rattle.std.proofs.lemmas.Nat.{xor_comm, xor_mod}
use Rattle.checksum.specs.Stretch.{odd}
use Rattle.checksum.specs.Crc16.{unlike}

pub unlike_cancel : (x y b : Bool) → unlike x b ≡ unlike y b → x ≡ y
unlike_cancel true true b e = refl
unlike_cancel true false true e = sym e
unlike_cancel true false false e = e
unlike_cancel false true true e = sym e
unlike_cancel false true false e = e
unlike_cancel false false b e = refl

pub unlike_cancel_left : (x b c : Bool) → unlike x b ≡ unlike x c → b ≡ c
unlike_cancel_left true true true e = refl
unlike_cancel_left true true false e = sym e
unlike_cancel_left true false true e = sym e
unlike_cancel_left true false false e = refl
unlike_cancel_left false b c e = e

pub xor_cancel : (a b c : ℕ) → bit_xor a c ≡ bit_xor b c → a ≡ b
xor_cancel a b c e =
    sym (undo a) ∙ ap (λ (x : ℕ). bit_xor x c) e ∙ undo b
  where
    undo : (n : ℕ) → bit_xor (bit_xor n c) c ≡ n
    undo n = xor_assoc n c c ∙ ap (bit_xor n) (xor_self c) ∙ xor_zero_r n

-- (a xor b) xor (c xor d) is (a xor c) xor (b xor d)
pub xor_swap : (a b c d : ℕ) → bit_xor (bit_xor a b) (bit_xor c d) ≡ bit_xor (bit_xor a c) (bit_xor b d)
xor_swap a b c d =
    xor_assoc a b (bit_xor c d)
    ∙ ap (bit_xor a) (sym (xor_assoc b c d) ∙ ap (λ (x : ℕ). bit_xor x d) (xor_comm b c) ∙ xor_assoc c b d)
    ∙ sym (xor_assoc a c (bit_xor b d))

bits_unlike : (x y : ℕ) → x < 2 → y < 2 → (bit_xor x y == 1) ≡ unlike (x == 1) (y == 1)
bits_unlike zero y h k = refl
bits_unlike (suc zero) zero h k = refl
bits_unlike (suc zero) (suc zero) h k = refl
bits_unlike (suc zero) (suc (suc y)) h k = absurd (not-suc-le-zero (le_of_suc-le-suc (le_of_suc-le-suc k)))
bits_unlike (suc (suc x)) y h k = absurd (not-suc-le-zero (le_of_suc-le-suc (le_of_suc-le-suc h)))

pub odd_xor : (a b : ℕ) → odd (bit_xor a b) ≡ unlike (odd a) (odd b)
odd_xor a b = ap (λ (n : ℕ). nat_eq n 1) (xor_mod a b 1) ∙ bits_unlike (a % 2) (b % 2) (mod-lt a (lit< tt)) (mod-lt b (lit< tt))

-- a number below 2 is told by its lowest bit
pub odd_tells : (x y : ℕ) → x < 2 → y < 2 → odd x ≡ odd y → x ≡ y
odd_tells zero zero h k e = refl
odd_tells zero (suc zero) h k e = absurd (false≢true e)
odd_tells zero (suc (suc y)) h k e = absurd (not-suc-le-zero (le_of_suc-le-suc (le_of_suc-le-suc k)))
odd_tells (suc zero) zero h k e = absurd (true≢false e)
odd_tells (suc zero) (suc zero) h k e = refl
odd_tells (suc zero) (suc (suc y)) h k e = absurd (not-suc-le-zero (le_of_suc-le-suc (le_of_suc-le-suc k)))
odd_tells (suc (suc x)) y h k e = absurd (not-suc-le-zero (le_of_suc-le-suc (le_of_suc-le-suc h)))
