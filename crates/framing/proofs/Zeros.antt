-- Bytes that are all 0, by the bitwise or of all that is there: one test for a whole row of bytes.
use Rattle.std.proofs.Common.{◌≡◌, ℕ, ◌+◌, ◌≤◌, Bool, true, false, ◌&&◌, eqb, ◌⊎◌, List, [], ◌∷◌, ◌++◌, refl, ap, sym, ◌∙◌, inl, inr, arith}
use lib.Bits.{bit_or, bit_and, or_add_and}
use Rattle.std.proofs.lemmas.Nat.{and_le_l, and_le_r}
use Rattle.std.proofs.lemmas.Bool.{cases_eq, eq-eqb, ne_eqb}
use Rattle.framing.specs.Judging.{all_zero}

-- a bitwise or is 0 exactly where both numbers are
or_is_zero : (a b : ℕ) → eqb (bit_or a b) 0 ≡ (eqb a 0 && eqb b 0)
or_is_zero a b = go (cases_eq a 0) (cases_eq b 0)
  where
    sum : bit_or a b + bit_and a b ≡ a + b
    sum = or_add_and a b

    left : bit_and a b ≤ a
    left = and_le_l a b

    right : bit_and a b ≤ b
    right = and_le_r a b

    go : (a ≡ 0) ⊎ (a ≡ 0 → ⊥) → (b ≡ 0) ⊎ (b ≡ 0 → ⊥) → eqb (bit_or a b) 0 ≡ (eqb a 0 && eqb b 0)
    go (inl p) (inl q) = eq-eqb (bit_or a b) 0 (omega (arith, sum)) ∙ sym (ap (λ t. t && eqb b 0) (eq-eqb a 0 p) ∙ eq-eqb b 0 q)
    go (inl p) (inr q) = ne_eqb (bit_or a b) 0 (λ z. q (omega (arith, sum, left, right))) ∙ sym (ap (λ t. t && eqb b 0) (eq-eqb a 0 p) ∙ ne_eqb b 0 q)
    go (inr p) q = ne_eqb (bit_or a b) 0 (λ z. p (omega (arith, sum, left, right))) ∙ sym (ap (λ t. t && eqb b 0) (ne_eqb a 0 p))

zero_last : (front : List ℕ) (b : ℕ) → all_zero (front ++ b ∷ []) ≡ (all_zero front && eqb b 0)
zero_last [] b = both (eqb b 0)
  where
    both : (t : Bool) → (t && true) ≡ t
    both true = refl
    both false = refl
zero_last (a ∷ front) b = more (eqb a 0) (zero_last front b)
  where
    more : (t : Bool) → all_zero (front ++ b ∷ []) ≡ (all_zero front && eqb b 0) → (t && all_zero (front ++ b ∷ [])) ≡ ((t && all_zero front) && eqb b 0)
    more true rest = rest
    more false rest = refl

-- one byte more
pub zero_more : (front : List ℕ) (any b : ℕ) → eqb any 0 ≡ all_zero front → eqb (bit_or any b) 0 ≡ all_zero (front ++ b ∷ [])
zero_more front any b so_far = or_is_zero any b ∙ ap (λ t. t && eqb b 0) so_far ∙ sym (zero_last front b)
