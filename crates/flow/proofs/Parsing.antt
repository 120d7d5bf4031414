-- Parsing what was laid: the fragments of a frame are those that were cut into it, and the frame is lawful.
use Rattle.std.proofs.Common.{◌≡◌, ℕ, zero, suc, ◌+◌, ◌-◌, ◌<◌, ◌≤◌, Bool, true, false, cond, not, ◌||◌, eqb, leb, ◌⊎◌, List, [], ◌∷◌, ◌++◌, map, length, take, replicate, None, Option, sym, refl, ap, ◌∙◌, ap₂, ⊎_elim, arith}
use Rattle.std.specs.List.{flat_map, AllByRecursion}
use Rattle.std.proofs.lemmas.List.{append-nil, append_assoc, map-append, length-append, length-replicate, take_at, drop_at}
use Rattle.std.proofs.lemmas.Bool.{cases_eq, cond-false, eq-eqb, ne_eqb, le-leb, lt-ltb, or_left, or_right}
use Rattle.framing.specs.Header.{count_of, last_of, byte_of, Header, headers_from}
use Rattle.framing.specs.Judging.{Question, ask, first_no, all_zero, none_open, stays_within, questions, padding_questions, notional_questions, body_questions, judgment_of, judgment, after_first, Judgment, lawful}
use Rattle.framing.specs.Fragments.{Fragment, body, fragment_of}
use Rattle.framing.proofs.Coming.{body_is}
use Rattle.framing.proofs.Walks.{past_body}
use Rattle.std.proofs.lemmas.Grind.{flat_map-append}
use Rattle.runlaw.proofs.Fates.{no_headers}
use Rattle.runlaw.proofs.Rows.{none_refused}
use Rattle.flow.specs.Carrying.{Part, part_of, parts_in}
use Rattle.flow.specs.Keeping.{laid, Sized}

-- 1. The bytes of a row of parts, and its headers.

count_again : (n : ℕ) (l : Bool) → n < 128 → count_of (byte_of n l) ≡ n
count_again n true low = omega arith
count_again n false low = omega arith

last_again : (n : ℕ) (l : Bool) → n < 128 → last_of (byte_of n l) ≡ l
last_again n true low = eq-eqb _ _ (omega arith)
last_again n false low = ne_eqb _ _ (λ e. omega arith)

-- the header of a part, with more bytes of the frame behind it
abbrev head_of : ℕ → Part → List ℕ → Header
head_of place q more = record { place = place; byte = byte_of (length q.bytes) q.ends; following = q.bytes ++ more }

abbrev heads : ℕ → List Part → List ℕ → List Header
heads place [] rest = []
heads place (q ∷ qs) rest = head_of place q (laid qs ++ rest) ∷ heads (place + 1 + length q.bytes) qs rest

headers_laid : (place : ℕ) (qs : List Part) (rest : List ℕ) → AllByRecursion Sized qs
    → headers_from place 0 (laid qs ++ rest) ≡ heads place qs rest ++ headers_from (place + length (laid qs)) 0 rest
headers_laid place [] rest sized = ap (λ (p : ℕ). headers_from p 0 rest) (omega arith)
headers_laid place (q ∷ qs) rest sized =
    let n : ℕ = length q.bytes in
    let low : n < 128 = omega (arith, sized.0.1) in
    let more : List ℕ = laid qs ++ rest in
    let long = length-append q.bytes (laid qs) in
    ap (λ (r : List ℕ). headers_from place 0 (byte_of n q.ends ∷ r)) (append_assoc q.bytes (laid qs) rest)
    ∙ ap (λ (k : ℕ). head_of place q more ∷ headers_from (place + 1) k (q.bytes ++ more)) (count_again n q.ends low)
    ∙ ap (λ (hs : List Header). head_of place q more ∷ hs)
    (past_body (place + 1) n (q.bytes ++ more)
    ∙ ap (λ (r : List ℕ). headers_from (place + 1 + n) 0 r) (drop_at q.bytes more n refl)
    ∙ headers_laid (place + 1 + n) qs rest sized.1
    ∙ ap (λ (p : ℕ). heads (place + 1 + n) qs rest ++ headers_from p 0 rest) (omega arith))

-- 2. Their fragments.

part_again : (place : ℕ) (q : Part) (more : List ℕ) → Sized q → fragment_of (head_of place q more) ≡ body place q.bytes q.ends
part_again place q more sized =
    let n : ℕ = length q.bytes in
    let low : n < 128 = omega (arith, sized.1) in
    let count = count_again n q.ends low in
    body_is place (byte_of n q.ends) (q.bytes ++ more) (λ e. omega (arith, sized.1, count)) (λ e. omega (arith, sized.0, count))
    ∙ ap₂ (λ (b : List ℕ) (l : Bool). body place b l)
    (ap (λ (k : ℕ). take k (q.bytes ++ more)) count ∙ take_at q.bytes more n refl)
    (last_again n q.ends low)

parts_again : (place : ℕ) (qs : List Part) (rest : List ℕ) → AllByRecursion Sized qs → flat_map part_of (map fragment_of (heads place qs rest)) ≡ qs
parts_again place [] rest sized = refl
parts_again place (q ∷ qs) rest sized =
    ap₂ (λ (f : Fragment) (r : List Part). part_of f ++ r) (part_again place q (laid qs ++ rest) sized.0)
    (parts_again (place + 1 + length q.bytes) qs rest sized.1)

abbrev pub parts_from : ℕ → List ℕ → List Part
parts_from place rest = flat_map part_of (map fragment_of (headers_from place 0 rest))

pub parts_laid : (qs : List Part) (rest : List ℕ) → AllByRecursion Sized qs → parts_in (laid qs ++ rest) ≡ qs ++ parts_from (1 + length (laid qs)) rest
parts_laid qs rest sized =
    let later = headers_from (1 + length (laid qs)) 0 rest in
    ap (λ (hs : List Header). flat_map part_of (map fragment_of hs)) (headers_laid 1 qs rest sized)
    ∙ ap (flat_map part_of) (map-append fragment_of (heads 1 qs rest) later)
    ∙ flat_map-append part_of (map fragment_of (heads 1 qs rest)) (map fragment_of later)
    ∙ ap (λ (r : List Part). r ++ parts_from (1 + length (laid qs)) rest) (parts_again 1 qs rest sized)

pub parts_laid_alone : (qs : List Part) → AllByRecursion Sized qs → parts_in (laid qs) ≡ qs
parts_laid_alone qs sized = ap parts_in (sym (append-nil (laid qs))) ∙ parts_laid qs [] sized ∙ append-nil qs

-- 3. Their judgment.

-- Each body ends inside the frame, ends a packet or the frame, and at the frame's beginning does not make a packet that
-- was begun too long.
abbrev pub Fitting : (width : ℕ) → Option ℕ → ℕ → List Part → Type 0
Fitting width gathered place [] = Unit {0}
Fitting width gathered place (q ∷ qs) =
    (place + length q.bytes ≤ 122)
    × ((q.ends ≡ true) ⊎ (place + length q.bytes ≡ 122))
    × (place ≡ 1 → stays_within width gathered (length q.bytes) ≡ true)
    × Fitting width gathered (place + 1 + length q.bytes) qs

unless_first : (place : ℕ) (b : Bool) → (place ≡ 1 → b ≡ true) → (not (eqb place 1) || b) ≡ true
unless_first place b first =
    ⊎_elim (λ (e : place ≡ 1). or_right (not (eqb place 1)) b (first e)) (λ (ne : place ≡ 1 → ⊥). or_left (not (eqb place 1)) b (ap not (ne_eqb place 1 ne)))
    (cases_eq place 1)

passes : (width : ℕ) (gathered : Option ℕ) (place : ℕ) (q : Part) (more : List ℕ) → Sized q
    → place + length q.bytes ≤ 122
    → (q.ends ≡ true) ⊎ (place + length q.bytes ≡ 122)
    → (place ≡ 1 → stays_within width gathered (length q.bytes) ≡ true)
    → first_no (questions width gathered (head_of place q more)) ≡ None
passes width gathered place q more sized inside end within =
    let h : Header = head_of place q more in
    let n : ℕ = length q.bytes in
    let low : n < 128 = omega (arith, sized.1) in
    let count = count_again n q.ends low in
    let last = last_again n q.ends low in
    let few : leb (count_of h.byte) 121 ≡ true = le-leb _ _ (omega (arith, sized.1, count)) in
    let not_padding : eqb (count_of h.byte) 127 ≡ false = ne_eqb _ _ (λ e. omega (arith, sized.1, count)) in
    let not_empty : eqb (count_of h.byte) 0 ≡ false = ne_eqb _ _ (λ e. omega (arith, sized.0, count)) in
    let kind : cond (eqb (count_of h.byte) 127) (padding_questions gathered h)
    (cond (eqb (count_of h.byte) 0) (notional_questions h) (body_questions width gathered h))
    ≡ body_questions width gathered h = cond-false _ _ _ not_padding ∙ cond-false _ _ _ not_empty in
    let marked : (last_of h.byte || eqb (place + count_of h.byte) 122) ≡ true =
    ⊎_elim (λ (e : q.ends ≡ true). or_left _ _ (last ∙ e)) (λ (e : place + n ≡ 122). or_right (last_of h.byte) _ (eq-eqb _ _ (omega (arith, count)))) end in
    ap (λ (qs : List Question). first_no (ask 11 (leb (count_of h.byte) 121 || eqb (count_of h.byte) 127) ∷ qs)) kind
    ∙ none_refused (ask 11 (leb (count_of h.byte) 121 || eqb (count_of h.byte) 127) ∷ body_questions width gathered h) (
      or_left _ _ few,
      (
        le-leb _ _ (omega (arith, count)),
        (marked, (unless_first place _ (λ e. ap (stays_within width gathered) count ∙ within e), tt)),
      ),
    )

judged_heads : (width : ℕ) (gathered : Option ℕ) (place : ℕ) (qs : List Part) (rest : List ℕ) (hs : List Header) → AllByRecursion Sized qs
    → Fitting width gathered place qs
    → (judgment_of width gathered (heads place qs rest ++ hs)).verdict ≡ (judgment_of width gathered hs).verdict
judged_heads width gathered place [] rest hs sized fit = refl
judged_heads width gathered place (q ∷ qs) rest hs sized fit =
    let h : Header = head_of place q (laid qs ++ rest) in
    let later : Judgment = judgment_of width gathered (heads (place + 1 + length q.bytes) qs rest ++ hs) in
    ap (λ (a : Option ℕ). (after_first a h later).verdict) (passes width gathered place q (laid qs ++ rest) sized.0 fit.0 fit.1 fit.2)
    ∙ judged_heads width gathered (place + 1 + length q.bytes) qs rest hs sized.1 fit.3

pub judged_laid : (width : ℕ) (gathered : Option ℕ) (qs : List Part) (rest : List ℕ) → AllByRecursion Sized qs → Fitting width gathered 1 qs
    → (judgment width gathered (laid qs ++ rest)).verdict
    ≡ (judgment_of width gathered (headers_from (1 + length (laid qs)) 0 rest)).verdict
judged_laid width gathered qs rest sized fit =
    ap (λ (hs : List Header). (judgment_of width gathered hs).verdict) (headers_laid 1 qs rest sized)
    ∙ judged_heads width gathered 1 qs rest (headers_from (1 + length (laid qs)) 0 rest) sized fit

-- 4. What stands at a frame's end: nothing, a notional packet, or padding.

pub notional_judged : (width : ℕ) (gathered : Option ℕ) (place : ℕ) → place ≡ 122
    → (judgment_of width gathered (headers_from place 0 (128 ∷ []))).verdict ≡ lawful
notional_judged width gathered place e = ap (λ (p : ℕ). (judgment_of width gathered (headers_from p 0 (128 ∷ []))).verdict) e

zeros_all : (n : ℕ) → all_zero (replicate n 0) ≡ true
zeros_all zero = refl
zeros_all (suc n) = zeros_all n

padding_headers : (place : ℕ) → 1 ≤ place → headers_from place 0 (127 ∷ replicate (122 - place) 0) ≡ record { place = place; byte = 127; following = replicate (122 - place) 0 } ∷ []
padding_headers place some =
    let short : length (replicate (122 - place) 0) ≤ 127 = simp length-replicate (omega arith) in
    ap (λ (hs : List Header). record { place = place; byte = 127; following = replicate (122 - place) 0 } ∷ hs)
    (no_headers (place + 1) 127 (replicate (122 - place) 0) short)

pub padding_no_part : (place : ℕ) → 1 ≤ place → parts_from place (127 ∷ replicate (122 - place) 0) ≡ []
padding_no_part place some = ap (λ (hs : List Header). flat_map part_of (map fragment_of hs)) (padding_headers place some)

pub padding_judged : (width : ℕ) (gathered : Option ℕ) (place : ℕ) → 1 ≤ place → place < 122 → (place ≡ 1 → gathered ≡ None)
    → (judgment_of width gathered (headers_from place 0 (127 ∷ replicate (122 - place) 0))).verdict ≡ lawful
padding_judged width gathered place some inside first =
    let h : Header = record { place = place; byte = 127; following = replicate (122 - place) 0 } in
    ap (λ (hs : List Header). (judgment_of width gathered hs).verdict) (padding_headers place some)
    ∙ ap (λ (a : Option ℕ). (after_first a h (judgment_of width gathered [])).verdict)
    (none_refused (ask 11 true ∷ padding_questions gathered h)
    (refl, (refl, (lt-ltb _ _ inside, (zeros_all (122 - place), (unless_first place (none_open gathered) (λ e. ap none_open (first e)), tt))))))
