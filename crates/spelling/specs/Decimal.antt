-- Decimal numbers.
use Rattle.std.specs.Prelude.{ℕ, ◌+◌, ◌-◌, ◌*◌, ◌^◌, min, cond, List, [], ◌∷◌, length, Some, None, Option, ◌==◌, nat_le}

-- what a digit counts
abbrev pub count_of_digits : ℕ → Option ℕ
count_of_digits d = cond (nat_le 48 d) (cond (nat_le d 57) (Some (d - 48)) None) None

-- a number with one more digit behind it
abbrev pub with_digit : Option ℕ → Option ℕ → Option ℕ
with_digit None d = None
with_digit (Some n) None = None
with_digit (Some n) (Some d) = Some (10 * n + d)

-- the number that digits spell behind those that spelt `front`
abbrev pub spell_on : Option ℕ → List ℕ → Option ℕ
spell_on front [] = front
spell_on front (d ∷ ds) = spell_on (with_digit front (count_of_digits d)) ds

-- the number that digits spell, of any length; no digits spell none
abbrev pub decimal : List ℕ → Option ℕ
decimal ds = cond (length ds == 0) None (spell_on (Some 0) ds)

-- a number as the machine holds it: one too large is the largest
abbrev pub capped : Option ℕ → Option ℕ
capped None = None
capped (Some n) = Some (min n (2 ^ 64 - 1))
