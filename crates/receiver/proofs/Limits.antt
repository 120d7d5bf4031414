-- In a lawful frame no packet becomes longer than 2,044 bytes and the checksum's width.
use Rattle.std.proofs.Common.{◌≡◌, ℕ, zero, suc, ◌+◌, ◌<◌, ◌≤◌, min, Bool, true, false, not, ◌||◌, eqb, leb, ◌⊎◌, List, [], ◌∷◌, ◌++◌, map, length, get_or, take, drop, Some, None, sym, refl, ap, ◌∙◌, subst, inl, inr, arith}
use Rattle.std.proofs.lemmas.List.{length-append, length-take, length-drop}
use Rattle.std.proofs.lemmas.Bool.{cases_eq, cases_Bool, cond-true, cond-false, eq-eqb, ne_eqb, eqb-true, leb-true, both_ways, or_cases}
use Rattle.framing.specs.Header.{count_of, last_of, Header, headers_from}
use Rattle.framing.specs.Judging.{first_no, questions, padding_questions, body_questions, judgment_of, is_lawful}
use Rattle.framing.specs.Fragments.{Fragment, body, notional, padding, fragment_of, fragments, fragments_from}
use Rattle.framing.proofs.Coming.{body_is}
use Rattle.framing.proofs.Rendered.{kind_asked, lawful_first, asked_notional}
use Rattle.framing.proofs.Walks.{next_header}
use Rattle.receiver.specs.Reading.{Standing, aligned, gathering, seeking, dropped, after_one, verdict_on}
use Rattle.receiver.specs.Accounting.{body_size, bodies}
use Rattle.receiver.specs.Views.{Within}
use Rattle.receiver.proofs.Steps.{nothing_past}

-- 1. Bodies lie in the frame, one behind the other.

one_size : (h : Header) → body_size (fragment_of h) ≤ min (count_of h.byte) (length h.following)
one_size h = go (cases_Bool (eqb (count_of h.byte) 127)) (cases_Bool (eqb (count_of h.byte) 0))
  where
    go : (eqb (count_of h.byte) 127 ≡ true) ⊎ (eqb (count_of h.byte) 127 ≡ false) → (eqb (count_of h.byte) 0 ≡ true) ⊎ (eqb (count_of h.byte) 0 ≡ false)
        → body_size (fragment_of h) ≤ min (count_of h.byte) (length h.following)
    go (inl pad) _ =
        let none : body_size (fragment_of h) ≡ 0 = ap body_size (cond-true (eqb (count_of h.byte) 127) _ _ pad) in omega arith
    go (inr np) (inl nil) =
        let none : body_size (fragment_of h) ≡ 0 = ap body_size (cond-false (eqb (count_of h.byte) 127) _ _ np ∙ cond-true (eqb (count_of h.byte) 0) _ _ nil) in omega arith
    go (inr np) (inr nz) =
        let some : body_size (fragment_of h) ≡ length (take (count_of h.byte) h.following) =
        ap body_size (cond-false (eqb (count_of h.byte) 127) _ _ np ∙ cond-false (eqb (count_of h.byte) 0) _ _ nz) in
        let size : length (take (count_of h.byte) h.following) ≡ min (count_of h.byte) (length h.following) = length-take (count_of h.byte) h.following in
        omega arith

sizes_lie : (place left : ℕ) (rest : List ℕ) → bodies (map fragment_of (headers_from place left rest)) + min left (length rest) ≤ length rest
sizes_lie place zero [] = omega arith
sizes_lie place (suc left) [] = omega arith
sizes_lie place (suc left) (b ∷ rest) = let behind = sizes_lie (place + 1) left rest in omega arith
sizes_lie place zero (h ∷ rest) =
    let behind = sizes_lie (place + 1) (count_of h) rest in
    let first = one_size (record { place = place; byte = h; following = rest }) in
    omega arith

pub sizes_in : (frame : List ℕ) (at : ℕ) → bodies (fragments_from frame at) ≤ length (drop at frame)
sizes_in frame at = let all = sizes_lie (at + 1) 0 (drop at frame) in omega arith

grows : (r : Standing) (f : Fragment) → dropped (after_one r f) ≤ dropped r + body_size f
grows aligned (body p b true) = omega arith
grows aligned (body p b false) = omega arith
grows aligned (notional p) = omega arith
grows aligned (padding p) = omega arith
grows (gathering a) (body p b true) = omega arith
grows (gathering a) (body p b false) = omega (arith, length-append a b)
grows (gathering a) (notional p) = omega arith
grows (gathering a) (padding p) = omega arith
grows seeking (body p b true) = omega arith
grows seeking (body p b false) = omega arith
grows seeking (notional p) = omega arith
grows seeking (padding p) = omega arith

-- what is there, and all that follows, is not too much
pub within_sizes : (most : ℕ) (r : Standing) (fs : List Fragment) → dropped r + bodies fs ≤ most → Within most r fs
within_sizes most r [] enough = tt
within_sizes most r (f ∷ fs) enough =
    let more = grows r f in
    (omega arith, within_sizes most (after_one r f) fs (omega arith))

pub within_more : (less most : ℕ) (r : Standing) (fs : List Fragment) → less ≤ most → Within less r fs → Within most r fs
within_more less most r [] small fits = tt
within_more less most r (f ∷ fs) small fits = let first = fits.0 in (omega arith, within_more less most (after_one r f) fs small fits.1)

-- 2. The first fragment of a lawful frame, where a packet is open.

-- padding may not begin the frame
no_padding : (width n : ℕ) (h : Header) → first_no (questions width (Some n) h) ≡ None → h.place ≡ 1 → count_of h.byte ≡ 127 → ⊥
no_padding width n h none first pad =
    let yes = kind_asked width (Some n) h (padding_questions (Some n) h) none (cond-true (eqb (count_of h.byte) 127) _ _ (eq-eqb (count_of h.byte) 127 pad)) in
    let at_one : eqb h.place 1 ≡ true = eq-eqb h.place 1 first in
    let refused : (not (eqb h.place 1) || false) ≡ false = ap (λ t. not t || false) at_one in
    both_ways (not (eqb h.place 1) || false) refused yes.1.1.1.0

pub record FirstBody (width n : ℕ) (h : Header) : Type 0 where
  pub ends : (last_of h.byte ≡ true) ⊎ (h.place + count_of h.byte ≡ 122)
  pub fits : n + count_of h.byte ≤ 2044 + width

first_body : (width n : ℕ) (h : Header) → first_no (questions width (Some n) h) ≡ None → h.place ≡ 1 → (count_of h.byte ≡ 127 → ⊥) → (count_of h.byte ≡ 0 → ⊥) → FirstBody width n h
first_body width n h none first np nz =
    let yes = kind_asked width (Some n) h (body_questions width (Some n) h) none (cond-false (eqb (count_of h.byte) 127) _ _ (ne_eqb (count_of h.byte) 127 np) ∙ cond-false (eqb (count_of h.byte) 0) _ _ (ne_eqb (count_of h.byte) 0 nz)) in
    let at_one : eqb h.place 1 ≡ true = eq-eqb h.place 1 first in
    let within : leb (n + count_of h.byte) (2044 + width) ≡ true = sym (ap (λ t. not t || leb (n + count_of h.byte) (2044 + width)) at_one) ∙ yes.1.1.0 in
    record {
      ends = elim (or_cases (last_of h.byte) (eqb (h.place + count_of h.byte) 122) yes.1.0) [ inl l ↦ inl l | inr e ↦ inr (eqb-true (h.place + count_of h.byte) 122 e) ];
      fits = leb-true (n + count_of h.byte) (2044 + width) within;
    }

-- 3. Together.

pub short_frame : (width : ℕ) (r : Standing) (frame : List ℕ) → length frame ≡ 122 → dropped r ≡ 0 → (at : ℕ) → Within (2044 + width) r (fragments_from frame at)
short_frame width r frame whole none at =
    let inside = sizes_in frame at in
    let size = length-drop at frame in
    within_sizes (2044 + width) r (fragments_from frame at) (omega arith)

-- the first fragment, and then the rest of the frame
opens : (width : ℕ) (a frame : List ℕ) (h : Header) (next : ℕ) → length frame ≡ 122 → h.place ≡ 1 → first_no (questions width (Some (length a)) h) ≡ None
    → next ≡ 1 + count_of h.byte → Within (2044 + width) (gathering a) (fragment_of h ∷ fragments_from frame next)
opens width a frame h next whole first none moves = go (cases_eq (count_of h.byte) 127) (cases_eq (count_of h.byte) 0)
  where
    rest : (b : List ℕ) (last : Bool) → (last ≡ true) ⊎ (h.place + count_of h.byte ≡ 122) → Within (2044 + width) (after_one (gathering a) (body h.place b last)) (fragments_from frame next)
    rest b true ends = short_frame width aligned frame whole refl next
    rest b false (inl bad) = absurd (both_ways false refl bad)
    rest b false (inr end) =
        let past : length frame ≤ next = omega arith in
        subst (λ (fs : List Fragment). Within (2044 + width) (gathering (a ++ b)) fs) (sym (nothing_past frame next past)) tt

    go : (count_of h.byte ≡ 127) ⊎ (count_of h.byte ≡ 127 → ⊥) → (count_of h.byte ≡ 0) ⊎ (count_of h.byte ≡ 0 → ⊥)
        → Within (2044 + width) (gathering a) (fragment_of h ∷ fragments_from frame next)
    go (inl pad) _ = absurd (no_padding width (length a) h none first pad)
    go (inr np) (inl nil) =
        let facts = asked_notional width (Some (length a)) h none nil in
        let late : h.place ≡ 122 = facts.1 in
        let no_way : ⊥ = omega arith in absurd no_way
    go (inr np) (inr nz) =
        let facts = first_body width (length a) h none first np nz in
        let b : List ℕ = take (count_of h.byte) h.following in
        let size : length b ≡ min (count_of h.byte) (length h.following) = length-take (count_of h.byte) h.following in
        let small : length a + count_of h.byte ≤ 2044 + width = facts.fits in
        let enough : length a + length b ≤ 2044 + width = omega arith in
        subst (λ (f : Fragment). Within (2044 + width) (gathering a) (f ∷ fragments_from frame next)) (sym (body_is h.place h.byte h.following np nz))
        (enough, rest b (last_of h.byte) facts.ends)

pub lawful_within : (width : ℕ) (r : Standing) (frame : List ℕ) → length frame ≡ 122 → is_lawful (verdict_on width r frame) ≡ true → Within (2044 + width) r (fragments frame)
lawful_within width aligned frame whole good = short_frame width aligned frame whole refl 0
lawful_within width seeking frame whole good = short_frame width seeking frame whole refl 0
lawful_within width (gathering a) frame whole good =
    let h : Header = record { place = 1; byte = get_or frame 0 0; following = drop 1 frame } in
    let n : ℕ = count_of (get_or frame 0 0) in
    let inside : 0 < length frame = omega arith in
    let split : headers_from 1 0 frame ≡ h ∷ headers_from (1 + n + 1) 0 (drop (1 + n) frame) = next_header frame 0 inside in
    let first = lawful_first width (Some (length a)) h (headers_from (1 + n + 1) 0 (drop (1 + n) frame)) (ap (λ hs. is_lawful (judgment_of width (Some (length a)) hs).verdict) (sym split) ∙ good) in
    subst (λ hs. Within (2044 + width) (gathering a) (map fragment_of hs)) (sym split) (opens width a frame h (1 + n) whole refl first.0 refl)
