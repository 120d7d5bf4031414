-- Laws of the cutting.
use Rattle.std.proofs.Common.{◌≡◌, ℕ, zero, suc, ◌+◌, ◌-◌, ◌*◌, ◌<◌, ◌≤◌, Bool, true, false, cond, ltb, List, [], ◌∷◌, length, sym, refl, ap, ◌∙◌, arith}
use Rattle.std.proofs.lemmas.List.{length-append, length-take, length-drop, nil_from_length}
use Rattle.std.proofs.lemmas.Bool.{cond-true, cond-false, lt-ltb, le-ltb, ltb-true, ltb-false, ne_eqb}
use Rattle.flow.specs.Asking.{free}
use Rattle.flow.specs.Cutting.{Cut, cut, behind, uncutted, closed, size, grown, uncut}

pub length_grown : (begun bytes : List ℕ) → length (grown begun bytes) ≡ length begun + 1 + size begun bytes
length_grown begun bytes = simp (length-append, length-take) (omega arith)

-- where the next fragment does not fill the frame, nothing is left to cut
pub uncut_none : (begun bytes : List ℕ) → length (grown begun bytes) < 121 → length (uncut begun bytes) ≡ 0
uncut_none begun bytes fits = let long = length_grown begun bytes in simp length-drop (omega arith)

-- 1. One fragment at a time.

-- nothing to cut
pub cut_all : (k : ℕ) (begun bytes : List ℕ) → length bytes ≡ 0 → cut k begun bytes ≡ uncutted k begun bytes
unfolding cut
cut_all zero begun bytes none = refl
cut_all (suc k) begun [] none = refl
cut_all (suc k) begun (b ∷ bytes) none = absurd (omega arith)

-- no frame to cut into
pub cut_nowhere : (k : ℕ) (begun bytes : List ℕ) → k ≡ 0 → cut k begun bytes ≡ uncutted k begun bytes
unfolding cut
cut_nowhere zero begun bytes none = refl
cut_nowhere (suc k) begun bytes none = absurd (omega arith)

-- one fragment more fits the frame and does not fill it
pub cut_fits : (k : ℕ) (begun bytes : List ℕ) → 0 < k → 0 < length bytes → length (grown begun bytes) < 121
    → cut k begun bytes ≡ behind [] (cut k (grown begun bytes) (uncut begun bytes))
unfolding cut
cut_fits zero begun bytes some any fits = absurd (omega arith)
cut_fits (suc k) begun [] some any fits = absurd (omega arith)
cut_fits (suc k) begun (b ∷ bytes) some any fits =
    let none = uncut_none begun (b ∷ bytes) fits in
    cond-true _ _ _ (lt-ltb _ _ fits)
    ∙ ap (λ (r : List ℕ). uncutted (suc k) (grown begun (b ∷ bytes)) r) (sym (nil_from_length (uncut begun (b ∷ bytes)) none))
    ∙ sym (ap (behind []) (cut_all (suc k) (grown begun (b ∷ bytes)) (uncut begun (b ∷ bytes)) none))

-- one fragment more fills the frame
pub cut_fills : (k : ℕ) (begun bytes : List ℕ) → 0 < k → 0 < length bytes → 121 ≤ length (grown begun bytes)
    → cut k begun bytes ≡ behind (closed (grown begun bytes) ∷ []) (cut (k - 1) [] (uncut begun bytes))
unfolding cut
cut_fills zero begun bytes some any fills = absurd (omega arith)
cut_fills (suc k) begun [] some any fills = absurd (omega arith)
cut_fills (suc k) begun (b ∷ bytes) some any fills =
    let e : suc k - 1 ≡ k = omega arith in
    cond-false _ _ _ (le-ltb _ _ fills)
    ∙ ap (λ (m : ℕ). behind (closed (grown begun (b ∷ bytes)) ∷ []) (cut m [] (uncut begun (b ∷ bytes)))) (sym e)

-- 2. What holds of every cutting: it is to be shown where there is no frame, where there is no byte, where the next
-- fragment does not fill the frame, and where it does and the later frames have it.
pub cut_by :
    (P : (left : ℕ) (begun bytes : List ℕ) → Cut → Type 0)
    → ((begun bytes : List ℕ) → P 0 begun bytes (uncutted 0 begun bytes))
    → ((k : ℕ) (begun : List ℕ) → P (suc k) begun [] (uncutted (suc k) begun []))
    → ((k : ℕ) (begun bytes : List ℕ) → 0 < length bytes → length (grown begun bytes) < 121
    → P (suc k) begun bytes (uncutted (suc k) (grown begun bytes) []))
    → ((k : ℕ) (begun bytes : List ℕ) → 0 < length bytes → 121 ≤ length (grown begun bytes)
    → P k [] (uncut begun bytes) (cut k [] (uncut begun bytes))
    → P (suc k) begun bytes (behind (closed (grown begun bytes) ∷ []) (cut k [] (uncut begun bytes))))
    → (left : ℕ) (begun bytes : List ℕ) → P left begun bytes (cut left begun bytes)
unfolding cut
cut_by P nowhere all within fills zero begun bytes = nowhere begun bytes
cut_by P nowhere all within fills (suc k) begun [] = all k begun
cut_by P nowhere all within fills (suc k) begun (b ∷ bytes) =
    go (ltb (length (grown begun (b ∷ bytes))) 121) refl (cut_by P nowhere all within fills k [] (uncut begun (b ∷ bytes)))
  where
    go : (t : Bool) → ltb (length (grown begun (b ∷ bytes))) 121 ≡ t
        → P k [] (uncut begun (b ∷ bytes)) (cut k [] (uncut begun (b ∷ bytes)))
        → P (suc k) begun (b ∷ bytes)
        (cond t (uncutted (suc k) (grown begun (b ∷ bytes)) [])
        (behind (closed (grown begun (b ∷ bytes)) ∷ []) (cut k [] (uncut begun (b ∷ bytes)))))
    go true e later = within k begun (b ∷ bytes) (omega arith) (ltb-true _ _ e)
    go false e later = fills k begun (b ∷ bytes) (omega arith) (ltb-false _ _ e) later

-- a frame that is left is put or still left
pub cut_count : (k : ℕ) (begun bytes : List ℕ) → k ≡ (cut k begun bytes).left + length (cut k begun bytes).full
cut_count =
    cut_by (λ k begun bytes c. k ≡ c.left + length c.full)
    (λ begun bytes. omega arith)
    (λ k begun. omega arith)
    (λ k begun bytes any fits. omega arith)
    (λ k begun bytes any fills later. omega arith)

free_some : (k : ℕ) (begun : List ℕ) → free (suc k) begun ≡ 121 - length begun + 121 * k
free_some k begun =
    let e : suc k - 1 ≡ k = omega arith in
    let ne : suc k ≡ 0 → ⊥ = λ z. omega arith in
    cond-false _ _ _ (ne_eqb _ _ ne) ∙ ap (λ (m : ℕ). 121 - length begun + 121 * m) e

free_fresh : (k : ℕ) → free k [] ≡ 121 * k
free_fresh zero = refl
free_fresh (suc k) = free_some k [] ∙ omega arith

-- as many bytes do not fit as are more than the free ones
pub cut_over : (k : ℕ) (begun bytes : List ℕ) → length begun ≤ 120 → length (cut k begun bytes).over ≡ length bytes - free k begun
cut_over =
    cut_by (λ k begun bytes c. length begun ≤ 120 → length c.over ≡ length bytes - free k begun)
    (λ begun bytes short. omega arith)
    (λ k begun short. omega arith)
    (λ k begun bytes any fits short.
    let room = free_some k begun in
    let long = length_grown begun bytes in
    omega arith)
    (λ k begun bytes any fills later short.
    let room = free_some k begun in
    let fresh = free_fresh k in
    let rest = length-drop (size begun bytes) bytes in
    let then = later (omega arith) in
    omega arith)

-- while a frame is left, every byte is cut
pub left_clear : (k : ℕ) (begun bytes : List ℕ) → 0 < (cut k begun bytes).left → length (cut k begun bytes).over ≡ 0
left_clear =
    cut_by (λ k begun bytes c. 0 < c.left → length c.over ≡ 0)
    (λ begun bytes some. absurd (omega arith))
    (λ k begun some. refl)
    (λ k begun bytes any fits some. refl)
    (λ k begun bytes any fills later some. later some)

-- where a frame is left, at least one byte of any is cut
pub over_less : (k : ℕ) (begun bytes : List ℕ) → 0 < k → length begun ≤ 120 → length (cut k begun bytes).over ≤ length bytes - 1
over_less zero begun bytes some short = absurd (omega arith)
over_less (suc k) begun bytes some short =
    let over = cut_over (suc k) begun bytes short in
    let room = free_some k begun in
    omega arith
