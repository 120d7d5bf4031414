-- The fragments of a lawful frame, rendered again, are the frame.
use Rattle.std.proofs.Common.{◌≡◌, ℕ, zero, suc, ◌+◌, ◌-◌, ◌/◌, ◌<◌, ◌≤◌, Bool, true, false, cond, ◌||◌, eqb, leb, ◌⊎◌, List, [], ◌∷◌, ◌++◌, map, length, take, replicate, Some, None, Option, sym, refl, ap, ◌∙◌, ap₂, inl, inr, arith}
use Rattle.std.specs.List.{flat_map}
use Rattle.std.proofs.lemmas.List.{append-nil, append_cancel_left, take_all, length-take-le}
use Rattle.std.proofs.lemmas.Bool.{cases_eq, cond-true, cond-false, eq-eqb, ne_eqb, eqb-true, eqb-false, leb-true, ltb-true, and_parts, not-true, both_ways}
use Rattle.framing.specs.Header.{count_of, last_of, byte_of, Header, headers_from}
use Rattle.framing.specs.Judging.{lawful, judgment, Question, ask, first_no, all_zero, questions, padding_questions, notional_questions, body_questions, judgment_of, after_first, Judgment, is_lawful}
use Rattle.framing.specs.Fragments.{fragment_of, fragments, rendered, Bytes}
use Rattle.framing.proofs.Coming.{padding_is, notional_is, body_is}

-- 1. A lawful judgment, header by header.

abbrev pub AllYes : List Question → Type 0
AllYes [] = Unit {0}
AllYes (q ∷ qs) = (q.yes ≡ true) × AllYes qs

-- where no question is answered no, each is answered yes
pub all_yes : (qs : List Question) → first_no qs ≡ None → AllYes qs
all_yes [] none = tt
all_yes (q ∷ qs) none = go q.yes refl none (all_yes qs)
  where
    go : (yes : Bool) → q.yes ≡ yes → cond yes (first_no qs) (Some q.number) ≡ None → (first_no qs ≡ None → AllYes qs) → (q.yes ≡ true) × AllYes qs
    go true e rest behind = (e, behind rest)
    go false e bad behind = let z : ◌≡◌ {A = ℕ} 0 1 = cc in let no_way : ⊥ = omega arith in absurd no_way

passed : (answer : Option ℕ) (h : Header) (rest : Judgment) → is_lawful (after_first answer h rest).verdict ≡ true → (answer ≡ None) × (is_lawful rest.verdict ≡ true)
passed None h rest good = (refl, good)
passed (Some n) h rest bad = absurd (both_ways false refl bad)

pub lawful_first : (width : ℕ) (gathered : Option ℕ) (h : Header) (hs : List Header) → is_lawful (judgment_of width gathered (h ∷ hs)).verdict ≡ true
    → (first_no (questions width gathered h) ≡ None) × (is_lawful (judgment_of width gathered hs).verdict ≡ true)
lawful_first width gathered h hs = passed (first_no (questions width gathered h)) h (judgment_of width gathered hs)

-- what the questions say of each kind of header
pub record PaddingAsked (h : Header) : Type 0 where
  pub unmarked : last_of h.byte ≡ false
  pub inside : h.place < 122
  pub zeros : all_zero h.following ≡ true

-- question 11, and then those of the kind
pub kind_asked : (width : ℕ) (gathered : Option ℕ) (h : Header) (qs : List Question) → first_no (questions width gathered h) ≡ None
    → cond (eqb (count_of h.byte) 127) (padding_questions gathered h) (cond (eqb (count_of h.byte) 0) (notional_questions h) (body_questions width gathered h)) ≡ qs
    → AllYes qs
kind_asked width gathered h qs none kind =
    (all_yes (ask 11 (leb (count_of h.byte) 121 || eqb (count_of h.byte) 127) ∷ qs)
    (sym (ap (λ l. first_no (ask 11 (leb (count_of h.byte) 121 || eqb (count_of h.byte) 127) ∷ l)) kind) ∙ none)).1

pub asked_padding : (width : ℕ) (gathered : Option ℕ) (h : Header) → first_no (questions width gathered h) ≡ None → count_of h.byte ≡ 127 → PaddingAsked h
asked_padding width gathered h none e =
    let yes = kind_asked width gathered h (padding_questions gathered h) none (cond-true (eqb (count_of h.byte) 127) _ _ (eq-eqb (count_of h.byte) 127 e)) in
    record { unmarked = not-true (last_of h.byte) yes.0; inside = ltb-true h.place 122 yes.1.0; zeros = yes.1.1.0 }

pub asked_notional : (width : ℕ) (gathered : Option ℕ) (h : Header) → first_no (questions width gathered h) ≡ None → count_of h.byte ≡ 0 → (last_of h.byte ≡ true) × (h.place ≡ 122)
asked_notional width gathered h none e =
    let not127 : eqb (count_of h.byte) 127 ≡ false = ne_eqb (count_of h.byte) 127 (λ p. omega arith) in
    let yes = kind_asked width gathered h (notional_questions h) none (cond-false (eqb (count_of h.byte) 127) _ _ not127 ∙ cond-true (eqb (count_of h.byte) 0) _ _ (eq-eqb (count_of h.byte) 0 e)) in
    let parts = and_parts (last_of h.byte) (eqb h.place 122) yes.0 in
    (parts.0, eqb-true h.place 122 parts.1)

pub asked_body : (width : ℕ) (gathered : Option ℕ) (h : Header) → first_no (questions width gathered h) ≡ None → (count_of h.byte ≡ 127 → ⊥) → (count_of h.byte ≡ 0 → ⊥) → h.place + count_of h.byte ≤ 122
asked_body width gathered h none p z =
    let yes = kind_asked width gathered h (body_questions width gathered h) none (cond-false (eqb (count_of h.byte) 127) _ _ (ne_eqb (count_of h.byte) 127 p) ∙ cond-false (eqb (count_of h.byte) 0) _ _ (ne_eqb (count_of h.byte) 0 z)) in
    leb-true (h.place + count_of h.byte) 122 yes.0

-- 2. A header byte is its count and its mark.

pub byte_again : (h : ℕ) → h < 256 → byte_of (count_of h) (last_of h) ≡ h
byte_again h fits = go (cases_eq (h / 128) 1)
  where
    go : (h / 128 ≡ 1) ⊎ (h / 128 ≡ 1 → ⊥) → byte_of (count_of h) (last_of h) ≡ h
    go (inl e) = ap (byte_of (count_of h)) (eq-eqb (h / 128) 1 e) ∙ omega arith
    go (inr n) = let low : h < 128 = elim (cases_eq (h / 128) 0) [ inl z ↦ omega arith | inr nz ↦ absurd (n (omega arith)) ] in ap (byte_of (count_of h)) (ne_eqb (h / 128) 1 n) ∙ omega arith

zeros_are : (r : List ℕ) → all_zero r ≡ true → r ≡ replicate (length r) 0
zeros_are [] e = refl
zeros_are (b ∷ r) e =
    let parts = and_parts (eqb b 0) (all_zero r) e in
    ap₂ (λ x xs. x ∷ xs) (eqb-true b 0 parts.0) (zeros_are r parts.1)

-- 3. All fragments together.

tail_bytes : (b : ℕ) (r : List ℕ) → Bytes (b ∷ r) → Bytes r
tail_bytes b r fits k below = fits (suc k) (omega arith)

abbrev again : ℕ → ℕ → List ℕ → List ℕ
again place left rest = flat_map rendered (map fragment_of (headers_from place left rest))

one_again : (width : ℕ) (place h : ℕ) (rest : List ℕ) → place + suc (length rest) ≡ 123 → h < 256
    → first_no (questions width None (record { place = place; byte = h; following = rest })) ≡ None
    → take (count_of h) rest ++ again (place + 1) (count_of h) rest ≡ rest
    → rendered (fragment_of (record { place = place; byte = h; following = rest })) ++ again (place + 1) (count_of h) rest ≡ h ∷ rest
one_again width place h rest ends fits none behind = go (cases_eq (count_of h) 127) (cases_eq (count_of h) 0)
  where
    go : (count_of h ≡ 127) ⊎ (count_of h ≡ 127 → ⊥) → (count_of h ≡ 0) ⊎ (count_of h ≡ 0 → ⊥)
        → rendered (fragment_of (record { place = place; byte = h; following = rest })) ++ again (place + 1) (count_of h) rest ≡ h ∷ rest
    go (inl pad) _ =
        let facts = asked_padding width None (record { place = place; byte = h; following = rest }) none pad in
        let high : h / 128 ≡ 1 → ⊥ = eqb-false (h / 128) 1 facts.unmarked in
        let is : h ≡ 127 = elim (cases_eq (h / 128) 0) [ inl z ↦ omega arith | inr nz ↦ absurd (high (omega arith)) ] in
        let long : length rest ≤ count_of h = omega arith in
        let empty : again (place + 1) (count_of h) rest ≡ [] =
        append_cancel_left rest (again (place + 1) (count_of h) rest) [] (ap (λ t. t ++ again (place + 1) (count_of h) rest) (sym (take_all (count_of h) rest long)) ∙ behind ∙ sym (append-nil rest)) in
        let fill : replicate (122 - place) 0 ≡ rest = ap (λ n. replicate n 0) (omega arith) ∙ sym (zeros_are rest facts.zeros) in
        ap (λ f. rendered f ++ again (place + 1) (count_of h) rest) (padding_is place h rest pad)
        ∙ ap (λ m. (127 ∷ replicate (122 - place) 0) ++ m) empty ∙ append-nil (127 ∷ replicate (122 - place) 0)
        ∙ ap₂ (λ x xs. x ∷ xs) (sym is) fill
    go (inr np) (inl nil) =
        let facts = asked_notional width None (record { place = place; byte = h; following = rest }) none nil in
        let high : h / 128 ≡ 1 = eqb-true (h / 128) 1 facts.0 in
        let is : 128 ≡ h = omega arith in
        ap (λ f. rendered f ++ again (place + 1) (count_of h) rest) (notional_is place h rest nil)
        ∙ ap₂ (λ x xs. x ∷ xs) is (ap (λ n. take n rest ++ again (place + 1) (count_of h) rest) (sym nil) ∙ behind)
    go (inr np) (inr nz) =
        let inside : place + count_of h ≤ 122 = asked_body width None (record { place = place; byte = h; following = rest }) none np nz in
        let fitting : count_of h ≤ length rest = omega arith in
        ap (λ f. rendered f ++ again (place + 1) (count_of h) rest) (body_is place h rest np nz)
        ∙ ap₂ (λ x xs. x ∷ xs) (ap (λ n. byte_of n (last_of h)) (length-take-le (count_of h) rest fitting) ∙ byte_again h fits) behind

pub rendered_from : (width place left : ℕ) (rest : List ℕ) → place + length rest ≡ 123 → Bytes rest
    → is_lawful (judgment_of width None (headers_from place left rest)).verdict ≡ true
    → take left rest ++ again place left rest ≡ rest
rendered_from width place zero [] ends fits good = refl
rendered_from width place (suc left) [] ends fits good = refl
rendered_from width place (suc left) (b ∷ rest) ends fits good =
    ap (λ r. b ∷ r) (rendered_from width (place + 1) left rest (omega arith) (tail_bytes b rest fits) good)
rendered_from width place zero (h ∷ rest) ends fits good =
    let first = lawful_first width None (record { place = place; byte = h; following = rest }) (headers_from (place + 1) (count_of h) rest) good in
    one_again width place h rest ends (fits 0 (omega arith)) first.0
    (rendered_from width (place + 1) (count_of h) rest (omega arith) (tail_bytes h rest fits) first.1)

-- 4. A lawful frame, whole.

pub frame_again : (bytes : List ℕ) → Bytes bytes → length bytes ≡ 122 → lawful ≡ (judgment 0 None bytes).verdict → flat_map rendered (fragments bytes) ≡ bytes
frame_again bytes fits whole good = rendered_from 0 1 0 bytes (omega arith) fits (sym (ap is_lawful good))
