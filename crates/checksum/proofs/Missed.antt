-- Changes that are not detected: 17 bits under CRC-16, and one bit where every value fits. Assumes nothing.
use Rattle.std.proofs.Common.{ℕ, ◌≤◌, Bool, true, false, List, [], ◌∷◌, ◌++◌, replicate, sym, refl, ap, true≢false, lit≤}
use Rattle.checksum.specs.Stretch.{ChangedInOneStretch, bits}
use Rattle.checksum.specs.Detection.{Detects, FitsEverythingDetectsNothing}
use Rattle.checksum.specs.Crc16.{step_by, feed_by, crc16}

-- the first bit of a row
first : List Bool → Bool
first [] = false
first (b ∷ w) = b

seven_zeros : List Bool
seven_zeros = replicate 7 false

-- the last bit of the first byte changed, whatever follows it
pub one_bit : (reach : ℕ) → 1 ≤ reach → (v : List ℕ) → ChangedInOneStretch reach (bits (0 ∷ v)) (bits (1 ∷ v))
unfolding seven_zeros first
one_bit reach h v = record {
  before = seven_zeros;
  was = false ∷ [];
  is = true ∷ [];
  after = bits v;
  x_is = refl;
  y_is = refl;
  same_length = refl;
  short = h;
  differ = λ e. true≢false (ap first (sym e));
}

pub fits_everything : FitsEverythingDetectsNothing
fits_everything value fits reach h detects =
    detects (0 ∷ []) (1 ∷ []) (value (0 ∷ [])) (one_bit reach h (value (0 ∷ []))) (fits (0 ∷ []) (1 ∷ []))

abbrev pub three_zeros : List ℕ
three_zeros = 0 ∷ 0 ∷ 0 ∷ []

-- the generator's own bits, in place of as many zeros
pub seventeen_bits : ChangedInOneStretch 17 (bits (three_zeros ++ crc16 three_zeros)) (bits (0x01 ∷ 0x10 ∷ 0x21 ∷ crc16 three_zeros))
unfolding seven_zeros first
seventeen_bits = record {
  before = seven_zeros;
  was = replicate 17 false;
  is = true ∷ false ∷ false ∷ false ∷ true ∷ false ∷ false ∷ false ∷ false ∷ false ∷ false ∷ true ∷ false ∷ false ∷ false ∷ false ∷ true ∷ [];
  after = bits (crc16 three_zeros);
  x_is = refl;
  y_is = refl;
  same_length = refl;
  short = lit≤ tt;
  differ = λ e. true≢false (ap first (sym e));
}

pub not_17 : Detects 17 crc16 → ⊥
unfolding step_by feed_by
not_17 detects = detects three_zeros (0x01 ∷ 0x10 ∷ 0x21 ∷ []) (crc16 three_zeros) seventeen_bits refl
