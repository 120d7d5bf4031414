-- Patterns, and lists that come through a fade.
use Rattle.std.proofs.Common.{◌≡◌, ℕ, ◌+◌, ◌*◌, ◌/◌, ◌%◌, Bool, true, false, cond, List, length, get_or, sym, refl, ap, ◌∙◌}
use native.Mathlib.Nat.{mod-add-mod, mod-mod}
use Rattle.framing.specs.declared.slot.Slot.{Slot}
use Rattle.framing.specs.declared.slot.Slot.TheVariants.{Frame, Gap, Mark}
use Rattle.channel.specs.Patterns.{is_set, passes, through, number_after}

-- the bit of a number, brought below the pattern's bits
pub passes_round : (pattern : List ℕ) (k : ℕ) → passes pattern (k % (8 * length pattern)) ≡ passes pattern k
passes_round pattern k =
    ap
    (λ (at : ℕ). is_set (get_or pattern (at / 8) 0) (at % 8))
    (mod-mod k (8 * length pattern))

pub number_next : (k : ℕ) (s : Slot) → (s ≡ Mark → ⊥) → number_after k s ≡ k + 1
number_next k (Frame f) no-mark = refl
number_next k Gap no-mark = refl
number_next k Mark no-mark = absurd (no-mark refl)

-- A number k is kept modulo n, the bits of the pattern. Its bit tells what comes through of a slot that is numbered, and the
-- number after it is kept likewise.
bit_kept : (pattern : List ℕ) (k n : ℕ) → n ≡ 8 * length pattern → passes pattern (k % n) ≡ passes pattern k
bit_kept pattern k n bits = ap (λ (m : ℕ). passes pattern (k % m)) bits ∙ passes_round pattern k

pub through_set :
    (pattern : List ℕ) (k n : ℕ) (s : Slot) → n ≡ 8 * length pattern → true ≡ passes pattern (k % n)
    → s ≡ through pattern k s
through_set pattern k n (Frame f) bits set = ap (λ (b : Bool). cond b (Frame f) Gap) (set ∙ bit_kept pattern k n bits)
through_set pattern k n Gap bits set = refl
through_set pattern k n Mark bits set = refl

pub through_clear :
    (pattern : List ℕ) (k n : ℕ) (s : Slot) → n ≡ 8 * length pattern → (s ≡ Mark → ⊥) → false ≡ passes pattern (k % n)
    → Gap ≡ through pattern k s
through_clear pattern k n (Frame f) bits no-mark clear = ap (λ (b : Bool). cond b (Frame f) Gap) (clear ∙ bit_kept pattern k n bits)
through_clear pattern k n Gap bits no-mark clear = refl
through_clear pattern k n Mark bits no-mark clear = absurd (no-mark refl)

pub next_kept :
    (pattern : List ℕ) (k n : ℕ) (s : Slot) → n ≡ 8 * length pattern → (s ≡ Mark → ⊥)
    → (k % n + 1) % (8 * length pattern) ≡ number_after k s % (8 * length pattern)
next_kept pattern k n s bits no-mark =
    ap (λ (m : ℕ). (k % m + 1) % (8 * length pattern)) bits
    ∙ mod-add-mod k (8 * length pattern) 1
    ∙ ap (λ (m : ℕ). m % (8 * length pattern)) (sym (number_next k s no-mark))
