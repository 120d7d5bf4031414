-- The rule of the look-up tables, one after another: the first is computed from the rule, each later one from the one before.
-- Assumes nothing.
use Rattle.std.proofs.Common.{◌≡◌, ℕ, zero, suc, ◌+◌, ◌<◌, List, [], ◌∷◌, map, length, get_or, sym, refl, ap, ◌∙◌, subst, not-suc-le-zero, add-zero, arith}
use Rattle.std.specs.List.{range_with_len}
use Rattle.std.proofs.lemmas.List.FromFn.{get_or-map-range_with_len}
use Rattle.checksum.specs.Stretch.{byte_bits}
use Rattle.checksum.specs.Crc16.{feed}
use Rattle.checksum.specs.Lookup.{tabled, Tables}

-- one more zero byte enters
abbrev next : ℕ → ℕ
next r = feed r (byte_bits 0)

next_table : (later : ℕ) (is : List ℕ) → map next (map (tabled later) is) ≡ map (tabled (suc later)) is
unfolding tabled
next_table later [] = refl
next_table later (i ∷ is) = ap (λ (t : List ℕ). next (tabled later i) ∷ t) (next_table later is)

from_table : (rows : List (List ℕ)) (j : ℕ) → Tables (map (tabled j) (range_with_len 0 256)) rows
    → (k i : ℕ) → k < length rows → i < 256 → get_or (get_or rows k []) i 0 ≡ tabled (j + k) i
from_table [] j c k i h hi = absurd (not-suc-le-zero h)
from_table (row ∷ rows) j c zero i h hi =
    ap (λ (t : List ℕ). get_or t i 0) c.0
    ∙ get_or-map-range_with_len (tabled j) 0 256 i i 0 hi (omega arith)
    ∙ ap (λ (n : ℕ). tabled n i) (sym (add-zero j))
from_table (row ∷ rows) j c (suc k) i h hi =
    from_table rows (suc j) (subst (λ (t : List ℕ). Tables t rows) (ap (map next) c.0 ∙ next_table j (range_with_len 0 256)) c.1) k i
    (omega arith) hi
    ∙ ap (λ (n : ℕ). tabled n i) (omega arith)

pub looked_up : (rows : List (List ℕ)) → Tables (map (tabled 0) (range_with_len 0 256)) rows
    → (k i : ℕ) → k < length rows → i < 256 → get_or (get_or rows k []) i 0 ≡ tabled k i
looked_up rows c k i h hi = from_table rows 0 c k i h hi ∙ ap (λ (n : ℕ). tabled n i) (omega arith)
