-- What stands in the tables by which the register takes in whole bytes. Assumes nothing.
use Rattle.std.specs.Prelude.{◌≡◌, ℕ, zero, suc, ◌*◌, List, [], ◌∷◌, map}
use Rattle.checksum.specs.Stretch.{byte_bits}
use Rattle.checksum.specs.Crc16.{feed}

-- What a byte, as the highest eight bits of the register, comes to while a zero byte enters, and then `later` more: an
-- entry of the tables.
unfoldable pub tabled : ℕ → ℕ → ℕ
tabled zero i = feed (i * 256) (byte_bits 0)
tabled (suc later) i = feed (tabled later i) (byte_bits 0)

-- Tables of one entry for each byte: the first is the one expected, and in each later one the entries are what one more
-- zero byte makes of those in the table before it.
abbrev pub Tables : List ℕ → List (List ℕ) → Type 0
Tables expected [] = Unit {0}
Tables expected (row ∷ rows) = (row ≡ expected) × Tables (map (λ r. feed r (byte_bits 0)) row) rows
