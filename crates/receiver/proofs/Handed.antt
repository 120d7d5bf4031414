-- A packet that is handed out: its quality, and the buffer.
use Rattle.std.proofs.Common.{◌≡◌, ℕ, ◌-◌, ◌<◌, Bool, true, false, cond, eqb, leb, List, [], ◌∷◌, ◌++◌, length, take, drop, Some, None, Decides, Option, sym, refl, ap, ◌∙◌, ap₂, inl, inr}
use Rattle.std.proofs.lemmas.List.{take_at}
use Rattle.std.proofs.lemmas.Bool.{cases_Bool, cond-false, eq-eqb, eqb-true, lt-leb, and_from, and_parts, both_ways}
use Rattle.receiver.specs.Answering.{Quality, sound, damaged, foreign, handed_out, same, quality, answered}
use Rattle.receiver.specs.Readings.{said}
use Rattle.receiver.specs.declared.answer.Reading.{Reading}
use Rattle.receiver.specs.declared.answer.Reading.TheVariants.{Sound, Damaged, Foreign}

pub same_refl : (x : List ℕ) → same x x ≡ true
same_refl [] = refl
same_refl (a ∷ x) = and_from (eqb a a) (same x x) (eq-eqb a a refl) (same_refl x)

pub same_true : (x y : List ℕ) → same x y ≡ true → x ≡ y
same_true [] [] e = refl
same_true [] (b ∷ y) e = absurd (both_ways false refl e)
same_true (a ∷ x) [] e = absurd (both_ways false refl e)
same_true (a ∷ x) (b ∷ y) e =
    let parts = and_parts (eqb a b) (same x y) e in
    ap₂ (λ h t. h ∷ t) (eqb-true a b parts.0) (same_true x y parts.1)

-- a test that decides whether two byte strings are equal is the rules' own
decides_same : (t : Bool) (x y : List ℕ) → Decides t (x ≡ y) → same x y ≡ t
decides_same true x y d = ap (λ z. same x z) (sym (d.0 refl)) ∙ same_refl x
decides_same false x y d = elim (cases_Bool (same x y)) [ inl e ↦ absurd (both_ways false refl (d.1 (same_true x y e))) | inr e ↦ e ]

-- damaged where it does not fit, and else as the service has it
pub is_quality : (value : List ℕ → List ℕ) (refusal : List ℕ → Option ℕ) (p s : List ℕ) (t : Bool) (o : Option ℕ) → Decides t (value p ≡ s) → o ≡ refusal p
    → quality value refusal p s ≡ cond t (elim o [ None ↦ sound | Some n ↦ foreign n ]) damaged
is_quality value refusal p s t o d served =
    ap₂ (λ (b : Bool) (v : Option ℕ). cond b (elim v [ None ↦ sound | Some n ↦ foreign n ]) damaged) (decides_same t (value p) s d) (sym served)

-- the packet and its checksum, as the code parts them and judges them, and the answer that is due
pub due_for : (width : ℕ) (value : List ℕ → List ℕ) (refusal : List ℕ → Option ℕ) (b p s : List ℕ) (t : Bool) (o : Option ℕ) → width < length b
    → p ≡ take (length b - width) b → s ≡ drop (length b - width) b → Decides t (value p ≡ s) → o ≡ refusal p
    → handed_out (cond t (elim o [ None ↦ sound | Some n ↦ foreign n ]) damaged) p ≡ answered width value refusal b
due_for width value refusal b p s t o long front back fits served =
    ap (λ (q : Quality). handed_out q p) (sym (is_quality value refusal p s t o fits served))
    ∙ ap₂ (λ (x y : List ℕ). handed_out (quality value refusal x y) x) front back
    ∙ sym (cond-false (leb (length b) width) _ _ (lt-leb (length b) width long))

-- the answer by its name, and the packet at the front of the buffer
named : (t : Bool) (o : Option ℕ) (p rest : List ℕ)
    → said (cond t (elim o [ None ↦ Sound (length p) | Some n ↦ Foreign n (length p) ]) (Damaged (length p))) (p ++ rest)
    ≡ handed_out (cond t (elim o [ None ↦ sound | Some n ↦ foreign n ]) damaged) p
named false o p rest = ap (handed_out damaged) (take_at p rest (length p) refl)
named true None p rest = ap (handed_out sound) (take_at p rest (length p) refl)
named true (Some n) p rest = ap (handed_out (foreign n)) (take_at p rest (length p) refl)

pub says : (a : Reading) (t : Bool) (o : Option ℕ) (p part rest : List ℕ)
    → a ≡ cond t (elim o [ None ↦ Sound (length p) | Some n ↦ Foreign n (length p) ]) (Damaged (length p)) → part ≡ p
    → said a (part ++ rest) ≡ handed_out (cond t (elim o [ None ↦ sound | Some n ↦ foreign n ]) damaged) p
says a t o p part rest is same = ap₂ (λ (x : Reading) (y : List ℕ). said x (y ++ rest)) is same ∙ named t o p rest
