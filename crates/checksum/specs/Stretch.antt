-- The bits of a byte string in their order, and what it means that a row of bits was changed within one stretch.
-- Assumes nothing.
use Rattle.std.specs.Prelude.{◌≡◌, ℕ, ◌/◌, ◌%◌, ◌<◌, ◌≤◌, Bool, ◌≢◌, List, [], ◌∷◌, ◌++◌, length, ◌==◌, slice_index}

-- each number of the list is a byte
abbrev pub Bytes : List ℕ → Type 0
Bytes s = (k : ℕ) → k < length s → slice_index s k < 256

-- whether the lowest bit of a number is set
abbrev pub odd : ℕ → Bool
odd n = n % 2 == 1

-- the bits of a byte, from bit 8, the highest, to bit 1, the lowest
abbrev pub byte_bits : ℕ → List Bool
byte_bits x =
    odd (x / 128) ∷ odd (x / 64) ∷ odd (x / 32) ∷ odd (x / 16) ∷ odd (x / 8) ∷ odd (x / 4) ∷ odd (x / 2) ∷ odd x ∷ []

-- the bits of a byte string, byte after byte
abbrev pub bits : List ℕ → List Bool
bits [] = []
bits (x ∷ s) = byte_bits x ++ bits s

-- The row x became the row y: at least one bit changed, and every bit that did lies inside one stretch of at most
-- `reach` bits.
pub record ChangedInOneStretch (reach : ℕ) (x y : List Bool) : Type 0 where
  pub before : List Bool
  pub was : List Bool
  pub is : List Bool
  pub after : List Bool
  pub x_is : x ≡ before ++ (was ++ after)
  pub y_is : y ≡ before ++ (is ++ after)
  pub same_length : length was ≡ length is
  pub short : length was ≤ reach
  pub differ : was ≢ is
