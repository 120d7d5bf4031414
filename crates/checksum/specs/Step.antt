-- One bit enters a register: what the register after it tells of the register before it. For every size of the register, and every generator whose lowest term is 1. Assumes nothing.
use Rattle.std.specs.Prelude.{◌≡◌, ℕ, ◌+◌, ◌*◌, ◌/◌, ◌%◌, ◌^◌, ◌<◌, Bool, true, false, cond, ◌==◌, bit_xor, nat_eq, refl}
use Rattle.std.proofs.Common.{sym, ◌∙◌, subst, mul-div_cancel, mod-lt, add_comm, arith, lit<, pow_pos, shr_lt}
use Rattle.std.proofs.Math.Path.{ap}
use Rattle.std.proofs.Math.Nat.{mul-mod_left}
use Rattle.std.proofs.lemmas.Nat.{mod-pow-add}
use Rattle.std.proofs.Math.Pow.{mod-mod-pow, split}
use Rattle.std.specs.Int.Bits.{xor_mod, xor_lt}
use Rattle.checksum.specs.Stretch.{odd}
use Rattle.checksum.specs.Crc16.{unlike, step_by}
use Rattle.checksum.specs.Bits.{unlike_cancel, xor_cancel, odd_xor, odd_tells}

-- whether the generator is added
abbrev falls : ℕ → ℕ → Bool → Bool
falls top r b = unlike (odd (r / 2 ^ top)) b

odd_terms : (terms : ℕ) → odd terms ≡ true → (f : Bool) → odd (cond f terms 0) ≡ f
odd_terms terms o true = o
odd_terms terms o false = refl

terms_lt : (terms n : ℕ) → terms < 2 ^ n → (f : Bool) → cond f terms 0 < 2 ^ n
terms_lt terms n h true = h
terms_lt terms n h false = pow_pos n

module _ (top terms : ℕ) (terms-odd : odd terms ≡ true) (terms-fit : terms < 2 ^ (top + 1)) where
  pub step_lt : (r : ℕ) (b : Bool) → step_by top terms r b < 2 ^ (top + 1)
  unfolding step_by
  step_lt r b =
      xor_lt (top + 1) (r * 2 % 2 ^ (top + 1)) (cond (falls top r b) terms 0) (mod-lt (r * 2) (pow_pos (top + 1)))
      (terms_lt terms (top + 1) terms-fit (falls top r b))

  -- the lowest bit tells whether the generator was added
  pub odd_step : (r : ℕ) (b : Bool) → odd (step_by top terms r b) ≡ falls top r b
  unfolding step_by
  odd_step r b =
      odd_xor (r * 2 % 2 ^ (top + 1)) (cond (falls top r b) terms 0)
      ∙ ap (λ (n : ℕ). unlike (n == 1) (odd (cond (falls top r b) terms 0))) (mod-mod-pow (r * 2) top 1 ∙ mul-mod_left r 2)
      ∙ odd_terms terms terms-odd (falls top r b)

  -- the register moved up, in its low j + 1 bits
  moved : (r i j : ℕ) → i + (j + 1) ≡ top + 1 → r * 2 % 2 ^ (top + 1) % 2 ^ (j + 1) ≡ r % 2 ^ j * 2
  moved r i j e =
      ap (λ (n : ℕ). r * 2 % 2 ^ n % 2 ^ (j + 1)) (sym e) ∙ mod-mod-pow (r * 2) i (j + 1) ∙ mod-pow-add (r * 2) j 1
      ∙ simp (mul-mod_left r 2, mul-div_cancel r {n = 2} (lit< tt)) (omega arith)

  -- a step, in the low j + 1 bits
  stepped : (r i j : ℕ) (b : Bool) → i + (j + 1) ≡ top + 1
      → step_by top terms r b % 2 ^ (j + 1) ≡ bit_xor (r % 2 ^ j * 2) (cond (falls top r b) terms 0 % 2 ^ (j + 1))
  unfolding step_by
  stepped r i j b e =
      xor_mod (r * 2 % 2 ^ (top + 1)) (cond (falls top r b) terms 0) (j + 1)
      ∙ ap (λ (n : ℕ). bit_xor n (cond (falls top r b) terms 0 % 2 ^ (j + 1))) (moved r i j e)

  -- equal low bits after a step, whatever bits entered: equal low bits before it, one fewer
  pub low_before : (r s : ℕ) (b c : Bool) (i j : ℕ) → i + (j + 1) ≡ top + 1
      → step_by top terms r b % 2 ^ (j + 1) ≡ step_by top terms s c % 2 ^ (j + 1) → r % 2 ^ j ≡ s % 2 ^ j
  low_before r s b c i j e h =
      let lowest : step_by top terms r b % 2 ≡ step_by top terms s c % 2 =
      sym (mod-mod-pow (step_by top terms r b) j 1) ∙ ap (λ (n : ℕ). n % 2) h ∙ mod-mod-pow (step_by top terms s c) j 1
      in
      let both : falls top r b ≡ falls top s c = sym (odd_step r b) ∙ ap (λ (n : ℕ). nat_eq n 1) lowest ∙ odd_step s c in
      let twice : r % 2 ^ j * 2 ≡ s % 2 ^ j * 2 =
      xor_cancel _ _ _
      (sym (stepped r i j b e) ∙ h ∙ stepped s i j c e ∙ ap (λ (f : Bool). bit_xor (s % 2 ^ j * 2) (cond f terms 0 % 2 ^ (j + 1))) (sym both))
      in
      omega arith

  -- the same bit enters two registers: they were equal if they are after it
  pub step_injective : (r s : ℕ) (b : Bool) → r < 2 ^ (top + 1) → s < 2 ^ (top + 1) → step_by top terms r b ≡ step_by top terms s b → r ≡ s
  step_injective r s b hr hs e =
      let low : r % 2 ^ top ≡ s % 2 ^ top = low_before r s b b 0 top (omega arith) (ap (λ (n : ℕ). n % 2 ^ (top + 1)) e) in
      let highest : odd (r / 2 ^ top) ≡ odd (s / 2 ^ top) =
      unlike_cancel _ _ b (sym (odd_step r b) ∙ ap odd e ∙ odd_step s b)
      in
      let high : r / 2 ^ top ≡ s / 2 ^ top = odd_tells (r / 2 ^ top) (s / 2 ^ top) (below r hr) (below s hs) highest in
      sym (split r top) ∙ ap (λ (n : ℕ). n * 2 ^ top + r % 2 ^ top) high ∙ ap (λ (n : ℕ). s / 2 ^ top * 2 ^ top + n) low ∙ split s top
    where
      below : (n : ℕ) → n < 2 ^ (top + 1) → n / 2 ^ top < 2
      below n h = shr_lt 1 top (subst (λ (m : ℕ). n < 2 ^ m) (add_comm top 1) h)
