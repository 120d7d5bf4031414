-- From one register, two rows of bits that differ only within one stretch, no longer than the register, never lead to
-- the same register. For every size of the register, and every generator whose lowest term is 1. Assumes nothing.
use Rattle.std.specs.Prelude.{◌≡◌, ℕ, ◌+◌, ◌-◌, ◌/◌, ◌%◌, ◌^◌, ◌<◌, ◌≤◌, Bool, true, List, [], ◌∷◌, ◌++◌, length, ◌≢◌, nat_eq}
use Rattle.std.proofs.Math.Path.{refl, ap, ap₂, subst}
use Rattle.std.proofs.Common.{sym, ◌∙◌, add-zero}
use native.Mathlib.Omega.{arith}
use Rattle.checksum.specs.Stretch.{odd, ChangedInOneStretch}
use Rattle.checksum.specs.Crc16.{unlike, step_by, feed_by}
use Rattle.checksum.specs.Bits.{unlike_cancel_left}
use Rattle.checksum.specs.Step.{step_lt as step_lt·, odd_step as odd_step·, low_before as low_before·, step_injective as step_injective·}

pub feed-++ : (top terms : ℕ) (a b : List Bool) (r : ℕ) → feed_by top terms r (a ++ b) ≡ feed_by top terms (feed_by top terms r a) b
unfolding feed_by
feed-++ top terms [] b r = refl
feed-++ top terms (x ∷ a) b r = feed-++ top terms a b (step_by top terms r x)

module _ (top terms : ℕ) (terms-odd : odd terms ≡ true) (terms-fit : terms < 2 ^ (top + 1)) where
  step_lt : (r : ℕ) (b : Bool) → step_by top terms r b < 2 ^ (top + 1)
  step_lt = step_lt· top terms terms-odd terms-fit

  odd_step : (r : ℕ) (b : Bool) → odd (step_by top terms r b) ≡ unlike (odd (r / 2 ^ top)) b
  odd_step = odd_step· top terms terms-odd terms-fit

  pub feed_lt : (w : List Bool) (r : ℕ) → r < 2 ^ (top + 1) → feed_by top terms r w < 2 ^ (top + 1)
  unfolding feed_by
  feed_lt [] r h = h
  feed_lt (b ∷ w) r h = feed_lt w (step_by top terms r b) (step_lt r b)

  -- after the stretch the same bits enter: the registers were equal where the stretch ended
  feed_injective : (w : List Bool) (r s : ℕ) → r < 2 ^ (top + 1) → s < 2 ^ (top + 1) → feed_by top terms r w ≡ feed_by top terms s w → r ≡ s
  unfolding feed_by
  feed_injective [] r s hr hs e = e
  feed_injective (b ∷ w) r s hr hs e =
      step_injective· top terms terms-odd terms-fit r s b hr hs
      (feed_injective w (step_by top terms r b) (step_by top terms s b) (step_lt r b) (step_lt s b) e)

  -- Any bits entered two registers, as many into each, and led to registers with equal low bits: so the two had equal low
  -- bits before, as many fewer as bits entered.
  low_before : (a b : List Bool) (r s i j : ℕ) → length a ≡ length b → i + (j + length a) ≡ top + 1
      → feed_by top terms r a % 2 ^ (j + length a) ≡ feed_by top terms s b % 2 ^ (j + length a) → r % 2 ^ j ≡ s % 2 ^ j
  unfolding feed_by
  low_before [] [] r s i j l e h = subst (λ (n : ℕ). r % 2 ^ n ≡ s % 2 ^ n) (add-zero j) h
  low_before [] (y ∷ b) r s i j l e h = omega arith
  low_before (x ∷ a) [] r s i j l e h = omega arith
  low_before (x ∷ a) (y ∷ b) r s i j l e h =
      let p : ℕ = step_by top terms r x in
      let q : ℕ = step_by top terms s y in
      let more : j + length (x ∷ a) ≡ j + 1 + length a = omega arith in
      low_before· top terms terms-odd terms-fit r s x y (i + length a) j (omega arith)
      (low_before a b p q i (j + 1) (omega arith) (omega arith)
      (subst (λ (n : ℕ). feed_by top terms p a % 2 ^ n ≡ feed_by top terms q b % 2 ^ n) more h))

  -- the stretch is told by the registers before and after it: its first bit by the lowest bit that is then in the register
  stretch_injective : (a b : List Bool) (r : ℕ) → length a ≡ length b → length a ≤ top + 1 → feed_by top terms r a ≡ feed_by top terms r b → a ≡ b
  unfolding feed_by
  stretch_injective [] [] r l h e = refl
  stretch_injective [] (y ∷ b) r l h e = let no_way : ⊥ = omega arith in absurd no_way
  stretch_injective (x ∷ a) [] r l h e = let no_way : ⊥ = omega arith in absurd no_way
  stretch_injective (x ∷ a) (y ∷ b) r l h e =
      let p : ℕ = step_by top terms r x in
      let q : ℕ = step_by top terms r y in
      let lowest : p % 2 ≡ q % 2 =
      low_before a b p q (top - length a) 1 (omega arith) (omega arith) (ap (λ (n : ℕ). n % 2 ^ (1 + length a)) e)
      in
      let first : x ≡ y =
      unlike_cancel_left (odd (r / 2 ^ top)) x y (sym (odd_step r x) ∙ ap (λ (n : ℕ). nat_eq n 1) lowest ∙ odd_step r y)
      in
      ap₂ ◌∷◌ first
      (stretch_injective a b p (omega arith) (omega arith) (e ∙ ap (λ (z : Bool). feed_by top terms (step_by top terms r z) b) (sym first)))

  -- the law of the register
  pub apart : (x y : List Bool) (r : ℕ) → r < 2 ^ (top + 1) → ChangedInOneStretch (top + 1) x y → feed_by top terms r x ≢ feed_by top terms r y
  apart x y r hr u e =
      let p : ℕ = feed_by top terms r u.before in
      let hp : p < 2 ^ (top + 1) = feed_lt u.before r hr in
      u.differ
      (stretch_injective u.was u.is p u.same_length u.short
      (feed_injective u.after (feed_by top terms p u.was) (feed_by top terms p u.is) (feed_lt u.was p hp) (feed_lt u.is p hp)
      (sym (parted u.was) ∙ ap (feed_by top terms r) (sym u.x_is) ∙ e ∙ ap (feed_by top terms r) u.y_is ∙ parted u.is)))
    where
      -- up to the stretch, through it, and from its end on
      parted : (m : List Bool)
          → feed_by top terms r (u.before ++ (m ++ u.after))
          ≡ feed_by top terms (feed_by top terms (feed_by top terms r u.before) m) u.after
      parted m = feed-++ top terms u.before (m ++ u.after) r ∙ feed-++ top terms m u.after (feed_by top terms r u.before)
