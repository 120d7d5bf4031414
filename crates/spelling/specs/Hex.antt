-- Bytes as hex digits, two a byte.
use Rattle.std.specs.Prelude.{◌≡◌, ℕ, ◌+◌, ◌-◌, ◌*◌, ◌/◌, ◌%◌, ◌<◌, Bool, false, cond, ◌⊎◌, List, [], ◌∷◌, ◌++◌, length, Some, None, Option, ◌==◌, nat_le, nat_lt, slice_index}
use Rattle.spelling.specs.declared.fault.LineFault.{LineFault}
use Rattle.spelling.specs.declared.fault.LineFault.TheVariants.{NotBytes, NoMemory}

-- what a digit counts, of either case
abbrev pub value_of_digit : ℕ → Option ℕ
value_of_digit d =
    cond (nat_le 48 d) (cond (nat_le d 57) (Some (d - 48)) (cond (nat_le 97 d) (cond (nat_le d 102) (Some (d - 87)) None)
    (cond (nat_le 65 d) (cond (nat_le d 70) (Some (d - 55)) None) None))) None

-- the byte of two digits
abbrev pub byte_of : Option ℕ → Option ℕ → Option ℕ
byte_of None low = None
byte_of (Some high) None = None
byte_of (Some high) (Some low) = Some (16 * high + low)

-- a byte in front of others, where there are both
abbrev pub in_front : Option ℕ → Option (List ℕ) → Option (List ℕ)
in_front None bytes = None
in_front (Some b) None = None
in_front (Some b) (Some bytes) = Some (b ∷ bytes)

-- the bytes that digits spell, where they are digits and two a byte
abbrev pub unhexed : List ℕ → Option (List ℕ)
unhexed [] = Some []
unhexed (d ∷ []) = None
unhexed (high ∷ low ∷ digits) = in_front (byte_of (value_of_digit high) (value_of_digit low)) (unhexed digits)

-- is this the word `-`?
abbrev pub is_a_dash : List ℕ → Bool
is_a_dash [] = false
is_a_dash (d ∷ []) = d == 45
is_a_dash (d ∷ e ∷ more) = false

-- the bytes that a word of a script spells: `-` is none
abbrev pub spelt : List ℕ → Option (List ℕ)
spelt word = cond (is_a_dash word) (Some []) (unhexed word)

-- bytes behind others
abbrev pub behind : List ℕ → Option (List ℕ) → Option (List ℕ)
behind front None = None
behind front (Some back) = Some (front ++ back)

-- Why a word gives no bytes: it spells none, or there was no memory for them.
abbrev pub Misspelt : Option (List ℕ) → LineFault → Type 0
Misspelt bytes fault = (fault ≡ NoMemory) ⊎ ((fault ≡ NotBytes) × (bytes ≡ None))

-- the digit of a number, by what is left after division by 16, in lower case
abbrev pub digit_of : ℕ → ℕ
digit_of n = cond (nat_lt (n % 16) 10) (48 + n % 16) (87 + n % 16)

-- a byte as two digits
abbrev pub hex_pair : ℕ → List ℕ
hex_pair b = digit_of (b / 16) ∷ digit_of b ∷ []

-- bytes as digits
abbrev pub hexed : List ℕ → List ℕ
hexed [] = []
hexed (b ∷ bs) = hex_pair b ++ hexed bs

-- bytes as a script's word
abbrev pub in_word : List ℕ → List ℕ
in_word [] = 45 ∷ []
in_word (b ∷ bs) = hexed (b ∷ bs)

-- What is written in hex digits is read back.
abbrev pub ReadBack : Type 0
ReadBack = (bytes : List ℕ) → ((k : ℕ) → k < length bytes → slice_index bytes k < 256) → spelt (in_word bytes) ≡ Some bytes
