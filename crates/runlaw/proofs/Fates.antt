-- A frame that came in a fair run has the fragments of the frame put, with other bytes in the bodies, and is judged as it.
use Rattle.std.proofs.Common.{◌≡◌, ℕ, zero, suc, ◌+◌, ◌<◌, ◌≤◌, min, false, cond, ◌&&◌, ◌||◌, eqb, ltb, leb, ◌⊎◌, List, [], ◌∷◌, map, length, get_or, take, drop, Some, None, Option, sym, refl, ap, ◌∙◌, ap₂, inl, inr, arith}
use Rattle.std.proofs.lemmas.List.{length-take, drop-drop, ext_get_or}
use Rattle.std.proofs.lemmas.Bool.{cases_eq, cond-false, cond_both, lt-leb, le-ltb, ne_eqb, and_left, and_right, or_from}
use Rattle.framing.specs.Header.{count_of, last_of, Header, headers_from}
use Rattle.framing.specs.Judging.{Question, ask, first_no, questions, Judgment, after_first, judgment_of, judgment}
use Rattle.framing.specs.Fragments.{Fragment, body, notional, padding, fragment_of, fragments}
use Rattle.framing.proofs.Coming.{padding_is, notional_is, body_is, take_clipped}
use Rattle.runlaw.specs.Fair.{in_body_of, in_body, BodiesOnly}

-- 1. The frame put and the frame that came, side by side. `n` bytes, at the front, still belong to the body before.

abbrev pub Agree : ℕ → List ℕ → List ℕ → Type 0
Agree n [] [] = Unit {0}
Agree n [] (c ∷ gs) = ⊥
Agree n (b ∷ fs) [] = ⊥
Agree (suc n) (b ∷ fs) (c ∷ gs) = Agree n fs gs
Agree zero (h ∷ fs) (k ∷ gs) = (k ≡ h) × (count_of h ≡ 127 → gs ≡ fs) × Agree (count_of h) fs gs

pub agree_length : (n : ℕ) (fs gs : List ℕ) → Agree n fs gs → length gs ≡ length fs
agree_length n [] [] a = refl
agree_length n [] (c ∷ gs) a = absurd a
agree_length n (b ∷ fs) [] a = absurd a
agree_length (suc n) (b ∷ fs) (c ∷ gs) a = ap suc (agree_length n fs gs a)
agree_length zero (h ∷ fs) (k ∷ gs) a = ap suc (agree_length (count_of h) fs gs a.2)

-- 2. Both are judged alike.

questions_alike : (width : ℕ) (gathered : Option ℕ) (place h : ℕ) (fs gs : List ℕ) → (count_of h ≡ 127 → gs ≡ fs)
    → questions width gathered (record { place = place; byte = h; following = gs }) ≡ questions width gathered (record { place = place; byte = h; following = fs })
questions_alike width gathered place h fs gs same = go (cases_eq (count_of h) 127)
  where
    go : (count_of h ≡ 127) ⊎ (count_of h ≡ 127 → ⊥)
        → questions width gathered (record { place = place; byte = h; following = gs }) ≡ questions width gathered (record { place = place; byte = h; following = fs })
    go (inl e) = ap (λ r. questions width gathered (record { place = place; byte = h; following = r })) (same e)
    go (inr n) =
        let other = ne_eqb (count_of h) 127 n in
        let first : Question = ask 11 (leb (count_of h) 121 || eqb (count_of h) 127) in
        ap (λ l. first ∷ l) (cond-false (eqb (count_of h) 127) _ _ other ∙ sym (cond-false (eqb (count_of h) 127) _ _ other))

verdict_alike : (answer : Option ℕ) (place h : ℕ) (fs gs : List ℕ) (r s : Judgment) → r.verdict ≡ s.verdict
    → (after_first answer (record { place = place; byte = h; following = gs }) r).verdict ≡ (after_first answer (record { place = place; byte = h; following = fs }) s).verdict
verdict_alike None place h fs gs r s e = e
verdict_alike (Some q) place h fs gs r s e = refl

judged_from : (width : ℕ) (gathered : Option ℕ) (place n : ℕ) (fs gs : List ℕ) → Agree n fs gs
    → (judgment_of width gathered (headers_from place n gs)).verdict ≡ (judgment_of width gathered (headers_from place n fs)).verdict
judged_from width gathered place n [] [] a = refl
judged_from width gathered place n [] (c ∷ gs) a = absurd a
judged_from width gathered place n (b ∷ fs) [] a = absurd a
judged_from width gathered place (suc n) (b ∷ fs) (c ∷ gs) a = judged_from width gathered (place + 1) n fs gs a
judged_from width gathered place zero (h ∷ fs) (k ∷ gs) a =
    ap (λ x. (judgment_of width gathered (headers_from place 0 (x ∷ gs))).verdict) a.0
    ∙ ap (λ qs. (after_first (first_no qs) (record { place = place; byte = h; following = gs }) (judgment_of width gathered (headers_from (place + 1) (count_of h) gs))).verdict)
    (questions_alike width gathered place h fs gs a.1)
    ∙ verdict_alike (first_no (questions width gathered (record { place = place; byte = h; following = fs }))) place h fs gs _ _
    (judged_from width gathered (place + 1) (count_of h) fs gs a.2)

-- 3. Both have the same fragments, each body with the bytes that stand in its place.

abbrev pub as_in : List ℕ → Fragment → Fragment
as_in g (body place bytes last) = body place (take (length bytes) (drop place g)) last
as_in g (notional place) = notional place
as_in g (padding place) = padding place

fragment_as_in : (g : List ℕ) (place h : ℕ) (fs gs : List ℕ) → drop place g ≡ gs → length gs ≡ length fs
    → fragment_of (record { place = place; byte = h; following = gs }) ≡ as_in g (fragment_of (record { place = place; byte = h; following = fs }))
fragment_as_in g place h fs gs stands same = go (cases_eq (count_of h) 127) (cases_eq (count_of h) 0)
  where
    go : (count_of h ≡ 127) ⊎ (count_of h ≡ 127 → ⊥) → (count_of h ≡ 0) ⊎ (count_of h ≡ 0 → ⊥)
        → fragment_of (record { place = place; byte = h; following = gs }) ≡ as_in g (fragment_of (record { place = place; byte = h; following = fs }))
    go (inl p) z = padding_is place h gs p ∙ sym (ap (as_in g) (padding_is place h fs p))
    go (inr p) (inl z) = notional_is place h gs z ∙ sym (ap (as_in g) (notional_is place h fs z))
    go (inr p) (inr z) =
        let n : ℕ = count_of h in
        let m : ℕ = length (take n fs) in
        let clipped : m ≡ min n (length gs) = length-take n fs ∙ ap (min n) (sym same) in
        body_is place h gs p z
        ∙ ap (λ r. body place r (last_of h)) (take_clipped gs n m clipped ∙ ap (take m) (sym stands))
        ∙ sym (ap (as_in g) (body_is place h fs p z))

drop_tail : (g : List ℕ) (at c : ℕ) (gs : List ℕ) → drop at g ≡ c ∷ gs → drop (at + 1) g ≡ gs
drop_tail g at c gs e = sym (drop-drop 1 at g) ∙ ap (drop 1) e

fragments_from : (g : List ℕ) (at n : ℕ) (fs gs : List ℕ) → Agree n fs gs → drop at g ≡ gs
    → map fragment_of (headers_from (at + 1) n gs) ≡ map (as_in g) (map fragment_of (headers_from (at + 1) n fs))
fragments_from g at n [] [] a e = refl
fragments_from g at n [] (c ∷ gs) a e = absurd a
fragments_from g at n (b ∷ fs) [] a e = absurd a
fragments_from g at (suc n) (b ∷ fs) (c ∷ gs) a e = fragments_from g (at + 1) n fs gs a (drop_tail g at c gs e)
fragments_from g at zero (h ∷ fs) (k ∷ gs) a e =
    let behind = drop_tail g at k gs e in
    ap (λ x. map fragment_of (headers_from (at + 1) 0 (x ∷ gs))) a.0
    ∙ ap₂ {C = List Fragment} (λ x r. x ∷ r) (fragment_as_in g (at + 1) h fs gs behind (agree_length (count_of h) fs gs a.2))
    (fragments_from g (at + 1) (count_of h) fs gs a.2 behind)

-- 4. Where they differ in bodies only, they agree.

pub no_headers : (place n : ℕ) (fs : List ℕ) → length fs ≤ n → headers_from place n fs ≡ []
no_headers place n [] short = refl
no_headers place (suc n) (b ∷ fs) short = no_headers (place + 1) n fs (omega arith)
no_headers place zero (b ∷ fs) short = let no_way : ⊥ = omega arith in absurd no_way

-- a body holds no byte before its header, its header included, and none behind its end
outside : (h : Header) (i : ℕ) → (i < h.place) ⊎ (h.place + count_of h.byte ≤ i) → in_body_of (fragment_of h) i ≡ false
outside h i where-it-is =
    let n : ℕ = count_of h.byte in
    let bytes = take n h.following in
    let whole = body h.place bytes (last_of h.byte) in
    let P : Fragment → Type 0 = λ f. in_body_of f i ≡ false in
    cond_both (eqb n 127) (padding h.place) (cond (eqb n 0) (notional h.place) whole) P (λ _. refl)
    (λ _. cond_both (eqb n 0) (notional h.place) whole P (λ _. refl) (λ _. go where-it-is))
  where
    go : (i < h.place) ⊎ (h.place + count_of h.byte ≤ i)
        → (leb h.place i && ltb i (h.place + length (take (count_of h.byte) h.following))) ≡ false
    go (inl early) = and_left (leb h.place i) _ (lt-leb h.place i early)
    go (inr late) =
        let size = length-take (count_of h.byte) h.following in
        and_right (leb h.place i) _ (le-ltb i (h.place + length (take (count_of h.byte) h.following)) (omega arith))

before_all : (place n : ℕ) (fs : List ℕ) (i : ℕ) → i < place → in_body (map fragment_of (headers_from place n fs)) i ≡ false
before_all place n [] i early = refl
before_all place (suc n) (b ∷ fs) i early = before_all (place + 1) n fs i (omega arith)
before_all place zero (h ∷ fs) i early =
    let hd : Header = record { place = place; byte = h; following = fs } in
    or_from (in_body_of (fragment_of hd) i) _ (outside hd i (inl early)) (before_all (place + 1) (count_of h) fs i (omega arith))

abbrev SameOutside : (at n : ℕ) → List ℕ → List ℕ → Type 0
SameOutside at n fs gs = (i : ℕ) → n ≤ i → in_body (map fragment_of (headers_from (at + 1) n fs)) (at + i) ≡ false → get_or gs i 0 ≡ get_or fs i 0

padding_same : (at h k : ℕ) (fs gs : List ℕ) → length gs ≡ length fs → length fs ≤ 127 → SameOutside at 0 (h ∷ fs) (k ∷ gs) → count_of h ≡ 127 → gs ≡ fs
padding_same at h k fs gs len short same pad =
    ext_get_or 0 gs fs len
    (λ i _.
    let j : ℕ = at + suc i in
    let first : in_body_of (fragment_of (record { place = at + 1; byte = h; following = fs })) j ≡ false = ap (λ f. in_body_of f j) (padding_is (at + 1) h fs pad) in
    let rest : in_body (map fragment_of (headers_from (at + 1 + 1) (count_of h) fs)) j ≡ false =
    ap (λ hs. in_body (map fragment_of hs) j) (no_headers (at + 1 + 1) (count_of h) fs (omega arith)) in
    same (suc i) (omega arith) (or_from _ _ first rest))

agree_from : (at n : ℕ) (fs gs : List ℕ) → length gs ≡ length fs → length fs ≤ 127 → SameOutside at n fs gs → Agree n fs gs
agree_from at n [] [] len short same = tt
agree_from at n [] (c ∷ gs) len short same = let no_way : ⊥ = omega arith in absurd no_way
agree_from at n (b ∷ fs) [] len short same = let no_way : ⊥ = omega arith in absurd no_way
agree_from at (suc n) (b ∷ fs) (c ∷ gs) len short same =
    agree_from (at + 1) n fs gs (omega arith) (omega arith)
    (λ i le e. same (suc i) (omega arith) (ap (in_body (map fragment_of (headers_from (at + 1 + 1) n fs))) (omega arith) ∙ e))
agree_from at zero (h ∷ fs) (k ∷ gs) len short same =
    let hd : Header = record { place = at + 1; byte = h; following = fs } in
    let first : k ≡ h = same 0 (omega arith) (before_all (at + 1) 0 (h ∷ fs) (at + 0) (omega arith)) in (
      first,
      padding_same at h k fs gs (omega arith) (omega arith) same,
      agree_from (at + 1) (count_of h) fs gs (omega arith) (omega arith)
          (λ i le e.
          let j : at + suc i ≡ at + 1 + i = omega arith in
          same (suc i) (omega arith)
          (or_from (in_body_of (fragment_of hd) (at + suc i)) _ (outside hd (at + suc i) (inr (omega arith))) (ap (in_body (map fragment_of (headers_from (at + 1 + 1) (count_of h) fs))) j ∙ e))),
    )

-- 5. So much for a fair frame.

bodies_agree : (f g : List ℕ) → length f ≡ 122 → BodiesOnly f g → Agree 0 f g
bodies_agree f g whole fair = agree_from 0 0 f g fair.size (omega arith) (λ i le e. fair.same i (ap (in_body (fragments f)) (omega arith) ∙ e))

pub fair_fragments : (f g : List ℕ) → length f ≡ 122 → BodiesOnly f g → fragments g ≡ map (as_in g) (fragments f)
fair_fragments f g whole fair = fragments_from g 0 0 f g (bodies_agree f g whole fair) refl

pub fair_judged : (width : ℕ) (gathered : Option ℕ) (f g : List ℕ) → length f ≡ 122 → BodiesOnly f g → (judgment width gathered g).verdict ≡ (judgment width gathered f).verdict
fair_judged width gathered f g whole fair = judged_from width gathered 1 0 f g (bodies_agree f g whole fair)
