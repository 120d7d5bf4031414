-- A frame that is lawful for a reader that has followed the writer: how its fragments stand in a row.
use Rattle.std.proofs.Common.{◌≡◌, ℕ, zero, suc, ◌+◌, ◌≤◌, Bool, true, false, cond, not, eqb, ◌⊎◌, List, [], ◌∷◌, map, length, take, Some, None, Option, sym, refl, ap, ◌∙◌, subst, inl, inr, arith}
use Rattle.std.proofs.lemmas.List.{length-take}
use Rattle.std.proofs.lemmas.Bool.{cases_eq, cond-true, eq-eqb, ne_eqb, eqb-true, leb-true, and_parts, or_cases, or_right, both_ways}
use Rattle.framing.specs.Header.{count_of, last_of, Header, headers_from}
use Rattle.framing.specs.Judging.{Question, first_no, none_open, questions, padding_questions, notional_questions, body_questions, judgment_of, judgment, after_first, lawful, is_lawful}
use Rattle.framing.specs.Fragments.{Fragment, body, notional, padding, fragment_of, fragments}
use Rattle.framing.proofs.Coming.{padding_is, notional_is, body_is}
use Rattle.framing.proofs.Rendered.{AllYes, all_yes, lawful_first}
use Rattle.runlaw.specs.Writing.{begun_with, stands_after_one}

-- 1. Questions answered yes.

pub none_refused : (qs : List Question) → AllYes qs → first_no qs ≡ None
none_refused [] y = refl
none_refused (q ∷ qs) y = cond-true q.yes (first_no qs) (Some q.number) y.0 ∙ none_refused qs y.1

abbrev pub of_its_kind : (width : ℕ) → Option ℕ → Header → Bool → Bool → List Question
of_its_kind width gathered h pad none = cond pad (padding_questions gathered h) (cond none (notional_questions h) (body_questions width gathered h))

-- what is asked of a header by its kind
module _ (width : ℕ) (gathered : Option ℕ) (h : Header) (asked : first_no (questions width gathered h) ≡ None) where
  kind_yes : AllYes (of_its_kind width gathered h (eqb (count_of h.byte) 127) (eqb (count_of h.byte) 0))
  kind_yes = (all_yes (questions width gathered h) asked).1

  padding_yes : count_of h.byte ≡ 127 → AllYes (padding_questions gathered h)
  padding_yes e = subst (λ b. AllYes (of_its_kind width gathered h b (eqb (count_of h.byte) 0))) (eq-eqb (count_of h.byte) 127 e) kind_yes

  notional_yes : count_of h.byte ≡ 0 → AllYes (notional_questions h)
  notional_yes e =
      let one = subst (λ b. AllYes (of_its_kind width gathered h b (eqb (count_of h.byte) 0))) (ne_eqb (count_of h.byte) 127 (λ p. omega arith)) kind_yes in
      subst (λ b. AllYes (of_its_kind width gathered h false b)) (eq-eqb (count_of h.byte) 0 e) one

  body_yes : (count_of h.byte ≡ 127 → ⊥) → (count_of h.byte ≡ 0 → ⊥) → AllYes (body_questions width gathered h)
  body_yes p z =
      let one = subst (λ b. AllYes (of_its_kind width gathered h b (eqb (count_of h.byte) 0))) (ne_eqb (count_of h.byte) 127 p) kind_yes in
      subst (λ b. AllYes (of_its_kind width gathered h false b)) (ne_eqb (count_of h.byte) 0 z) one

-- a reader with no packet open asks less
free_kind : (width : ℕ) (gathered : Option ℕ) (h : Header) (pad none : Bool) → AllYes (of_its_kind width gathered h pad none) → AllYes (of_its_kind width None h pad none)
free_kind width gathered h true none y = (y.0, (y.1.0, (y.1.1.0, (or_right (not (eqb h.place 1)) true refl, tt))))
free_kind width gathered h false true y = y
free_kind width gathered h false false y = (y.0, (y.1.0, (or_right (not (eqb h.place 1)) true refl, tt)))

free_header : (width : ℕ) (gathered : Option ℕ) (h : Header) → first_no (questions width gathered h) ≡ None → first_no (questions width None h) ≡ None
free_header width gathered h asked =
    let y = all_yes (questions width gathered h) asked in
    none_refused (questions width None h) (y.0, free_kind width gathered h (eqb (count_of h.byte) 127) (eqb (count_of h.byte) 0) y.1)

free_judged : (width : ℕ) (gathered : Option ℕ) (hs : List Header) → is_lawful (judgment_of width gathered hs).verdict ≡ true → (judgment_of width None hs).verdict ≡ lawful
free_judged width gathered [] good = refl
free_judged width gathered (h ∷ hs) good =
    let first = lawful_first width gathered h hs good in
    ap (λ a. (after_first a h (judgment_of width None hs)).verdict) (free_header width gathered h first.0) ∙ free_judged width gathered hs first.1

pub lawful_when_seeking : (width : ℕ) (gathered : Option ℕ) (f : List ℕ) → (judgment width gathered f).verdict ≡ lawful → (judgment width None f).verdict ≡ lawful
lawful_when_seeking width gathered f good = free_judged width gathered (headers_from 1 0 f) (ap is_lawful good)

-- 2. The row: where the writer stands, and then the fragments behind a frame's first, or all of a frame's.

abbrev pub Rest : Option ℕ → List Fragment → Type 0
Rest at [] = Unit {0}
Rest at (body place bytes last ∷ fs) = (eqb place 1 ≡ false) × (place + length bytes ≤ 122) × Rest (stands_after_one at (body place bytes last)) fs
Rest at (notional place ∷ fs) = Rest at fs
Rest at (padding place ∷ fs) = (at ≡ None) × Rest at fs

abbrev pub Row : Option ℕ → List Fragment → Type 0
Row at [] = ⊥
Row at (body place bytes last ∷ fs) = (place ≡ 1) × (place + length bytes ≤ 122) × Rest (stands_after_one at (body place bytes last)) fs
Row at (notional place ∷ fs) = ⊥
Row at (padding place ∷ fs) = (at ≡ None) × Rest at fs

-- the fragments behind a header with a body: it ends the packet, or it ends the frame
module _ (width : ℕ) (gathered at : Option ℕ) (h : Header) (asked : first_no (questions width gathered h) ≡ None) (pad : count_of h.byte ≡ 127 → ⊥) (none : count_of h.byte ≡ 0 → ⊥)
    (ends : h.place + length h.following ≡ 122) (fs : List Fragment) (later : (at' : Option ℕ) → (at' ≡ None) ⊎ (length h.following ≤ count_of h.byte) → Rest at' fs) where
  abbrev bytes : List ℕ
  bytes = take (count_of h.byte) h.following

  within : h.place + length bytes ≤ 122
  within =
      let fits = leb-true (h.place + count_of h.byte) 122 (body_yes width gathered h asked pad none).0 in
      let size = length-take (count_of h.byte) h.following in
      omega arith

  behind : Rest (stands_after_one at (body h.place bytes (last_of h.byte))) fs
  behind = go (last_of h.byte) (or_cases _ _ (body_yes width gathered h asked pad none).1.0)
    where
      go : (l : Bool) → (l ≡ true) ⊎ (eqb (h.place + count_of h.byte) 122 ≡ true) → Rest (stands_after_one at (body h.place bytes l)) fs
      go true e = later None (inl refl)
      go false (inl e) = absurd (both_ways false refl e)
      go false (inr e) =
          let full = eqb-true (h.place + count_of h.byte) 122 e in
          later (Some (begun_with at (length bytes))) (inr (omega arith))

rest_lawful : (width : ℕ) (gathered at : Option ℕ) (place n : ℕ) (fs : List ℕ) → place + length fs ≡ 123 → 2 ≤ place
    → is_lawful (judgment_of width gathered (headers_from place n fs)).verdict ≡ true → (at ≡ None) ⊎ (length fs ≤ n) → Rest at (map fragment_of (headers_from place n fs))
rest_lawful width gathered at place n [] ends late good open' = tt
rest_lawful width gathered at place (suc n) (b ∷ fs) ends late good open' =
    rest_lawful width gathered at (place + 1) n fs (omega arith) (omega arith) good (shorter open')
  where
    shorter : (at ≡ None) ⊎ (length (b ∷ fs) ≤ suc n) → (at ≡ None) ⊎ (length fs ≤ n)
    shorter (inl e) = inl e
    shorter (inr le) = inr (omega arith)
rest_lawful width gathered at place zero (h ∷ fs) ends late good open' =
    let first = lawful_first width gathered (record { place = place; byte = h; following = fs }) (headers_from (place + 1) (count_of h) fs) good in
    go first.0 (closed open') (λ at' o. rest_lawful width gathered at' (place + 1) (count_of h) fs (omega arith) (omega arith) first.1 o) (cases_eq (count_of h) 127) (cases_eq (count_of h) 0)
  where
    closed : (at ≡ None) ⊎ (length (h ∷ fs) ≤ 0) → at ≡ None
    closed (inl e) = e
    closed (inr le) = let no_way : ⊥ = omega arith in absurd no_way

    hd : Header
    hd = record { place = place; byte = h; following = fs }

    tail : List Fragment
    tail = map fragment_of (headers_from (place + 1) (count_of h) fs)

    go : first_no (questions width gathered hd) ≡ None → at ≡ None → ((at' : Option ℕ) → (at' ≡ None) ⊎ (length fs ≤ count_of h) → Rest at' tail)
        → (count_of h ≡ 127) ⊎ (count_of h ≡ 127 → ⊥) → (count_of h ≡ 0) ⊎ (count_of h ≡ 0 → ⊥) → Rest at (fragment_of hd ∷ tail)
    go asked none later (inl p) z = subst (λ f. Rest at (f ∷ tail)) (sym (padding_is place h fs p)) (none, later at (inl none))
    go asked none later (inr p) (inl z) = subst (λ f. Rest at (f ∷ tail)) (sym (notional_is place h fs z)) (later at (inl none))
    go asked none later (inr p) (inr z) =
        let full : place + length fs ≡ 122 = omega arith in
        subst (λ f. Rest at (f ∷ tail)) (sym (body_is place h fs p z))
        (ne_eqb place 1 (λ e. omega arith), within width gathered at hd asked p z full tail later, behind width gathered at hd asked p z full tail later)

-- a frame that begins with padding leaves no packet begun
none_begun : (at : Option ℕ) → none_open at ≡ true → at ≡ None
none_begun None e = refl
none_begun (Some n) e = absurd (both_ways false refl e)

pub lawful_row : (width : ℕ) (at : Option ℕ) (f : List ℕ) → length f ≡ 122 → (judgment width at f).verdict ≡ lawful → Row at (fragments f)
lawful_row width at [] whole good = let no_way : ⊥ = omega arith in absurd no_way
lawful_row width at (h ∷ fs) whole good =
    let first = lawful_first width at hd (headers_from 2 (count_of h) fs) (ap is_lawful good) in
    go first.0 (λ at' o. rest_lawful width at at' 2 (count_of h) fs (omega arith) (omega arith) first.1 o) (cases_eq (count_of h) 127) (cases_eq (count_of h) 0)
  where
    hd : Header
    hd = record { place = 1; byte = h; following = fs }

    tail : List Fragment
    tail = map fragment_of (headers_from 2 (count_of h) fs)

    go : first_no (questions width at hd) ≡ None → ((at' : Option ℕ) → (at' ≡ None) ⊎ (length fs ≤ count_of h) → Rest at' tail)
        → (count_of h ≡ 127) ⊎ (count_of h ≡ 127 → ⊥) → (count_of h ≡ 0) ⊎ (count_of h ≡ 0 → ⊥) → Row at (fragment_of hd ∷ tail)
    go asked later (inl p) z =
        let none = none_begun at (padding_yes width at hd asked p).1.1.1.0 in
        subst (λ f. Row at (f ∷ tail)) (sym (padding_is 1 h fs p)) (none, later at (inl none))
    go asked later (inr p) (inl z) = absurd (both_ways false refl (and_parts (last_of h) false (notional_yes width at hd asked z).0).1)
    go asked later (inr p) (inr z) =
        let full : 1 + length fs ≡ 122 = omega arith in
        subst (λ f. Row at (f ∷ tail)) (sym (body_is 1 h fs p z)) (refl, within width at at hd asked p z full tail later, behind width at at hd asked p z full tail later)
