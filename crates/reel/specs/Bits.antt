-- Bits, and the bit map of a block.
use Rattle.std.specs.Prelude.{ℕ, zero, suc, ◌+◌, ◌*◌, ◌/◌, ◌%◌, ◌^◌, Bool, true, cond, not, ◌&&◌, List, [], ◌∷◌, ◌++◌, take, drop, ◌==◌, slice_index}

-- the k lowest bits of a number, the lowest first
unfoldable pub bits_of : ℕ → ℕ → List Bool
bits_of zero b = []
bits_of (suc k) b = (b % 2 == 1) ∷ bits_of k (b / 2)

-- the number that has these bits, the lowest first
unfoldable pub value_of : List Bool → ℕ
value_of [] = 0
value_of (x ∷ xs) = cond x 1 0 + 2 * value_of xs

-- the bits of a bit map: bit 1, the lowest, of its first byte comes first
unfoldable pub bits : List ℕ → List Bool
bits [] = []
bits (b ∷ map) = bits_of 8 b ++ bits map

-- bit i of a bit map, counted from 0: eight bits a byte, the lowest first
abbrev pub bit_at : List ℕ → ℕ → Bool
bit_at map i = slice_index map (i / 8) / 2 ^ (i % 8) % 2 == 1

-- the bit map of so many bytes that has these bits, eight a byte; the bits left over are clear
unfoldable pub map_of : ℕ → List Bool → List ℕ
map_of zero xs = []
map_of (suc bytes) xs = value_of (take 8 xs) ∷ map_of bytes (drop 8 xs)

-- the fewest bytes that hold n bits
abbrev pub size_of_map : ℕ → ℕ
size_of_map n = (n + 7) / 8

-- how many of the bits are set
abbrev pub count_of_set_bits : List Bool → ℕ
count_of_set_bits [] = 0
count_of_set_bits (x ∷ xs) = cond x 1 0 + count_of_set_bits xs

-- is none of the bits set?
abbrev pub all_clear : List Bool → Bool
all_clear [] = true
all_clear (x ∷ xs) = not x && all_clear xs
