-- CRC-16 with the generator x^16 + x^12 + x^5 + 1: a shift register that takes in a string bit by bit.
-- Assumes nothing.
use Rattle.std.specs.Prelude.{ℕ, ◌+◌, ◌*◌, ◌/◌, ◌%◌, ◌^◌, Bool, true, false, cond, not, List, [], ◌∷◌, bit_xor}
use Rattle.checksum.specs.Stretch.{odd, bits}

-- two bits are not the same
abbrev pub unlike : Bool → Bool → Bool
unlike true b = not b
unlike false b = b

-- One bit enters a register whose highest bit is number `top`, counted from 0. All bits move up by one; where the bit that
-- falls out at the top is unlike the one that enters, the generator's terms below its highest are added, bit by bit
-- without a carry.
unfoldable pub step_by : ℕ → ℕ → ℕ → Bool → ℕ
step_by top terms r b = bit_xor (r * 2 % 2 ^ (top + 1)) (cond (unlike (odd (r / 2 ^ top)) b) terms 0)

-- a row of bits enters, the first one first
unfoldable pub feed_by : ℕ → ℕ → ℕ → List Bool → ℕ
feed_by top terms r [] = r
feed_by top terms r (b ∷ w) = feed_by top terms (step_by top terms r b) w

-- a register of 16 bits, and the terms x^12 + x^5 + 1
abbrev pub feed : ℕ → List Bool → ℕ
feed = feed_by 15 0x1021

-- the register after a byte string: it starts with all bits set
abbrev pub register : List ℕ → ℕ
register s = feed 0xFFFF (bits s)

-- the value: the register as it is, the high byte first
abbrev pub crc16 : List ℕ → List ℕ
crc16 s = register s / 256 ∷ register s % 256 ∷ []
