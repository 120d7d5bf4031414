-- The packets of a row of parts.
use Rattle.std.proofs.Common.{◌≡◌, ℕ, ◌+◌, ◌<◌, ◌≤◌, Bool, true, false, cond, List, [], ◌∷◌, ◌++◌, length, Some, None, Option, sym, refl, ap, ◌∙◌, ap₂, arith}
use Rattle.std.specs.List.{AllByRecursion}
use Rattle.std.proofs.lemmas.List.{append-nil, append_assoc, length-append}
use Rattle.flow.specs.Keeping.{Short}
use Rattle.flow.specs.Carrying.{Part, so_far, begun_after_one, begun_after, ended_by_one, ended_by, not_ended, packets_of}

-- 1. Parts put together.

pub begun_append : (at : Option (List ℕ)) (xs ys : List Part) → begun_after at (xs ++ ys) ≡ begun_after (begun_after at xs) ys
begun_append at [] ys = refl
begun_append at (q ∷ xs) ys = begun_append (begun_after_one at q) xs ys

pub ended_append : (at : Option (List ℕ)) (xs ys : List Part) → ended_by at (xs ++ ys) ≡ ended_by at xs ++ ended_by (begun_after at xs) ys
ended_append at [] ys = refl
ended_append at (q ∷ xs) ys =
    let next = begun_after_one at q in
    ap (λ (r : List (List ℕ)). ended_by_one at q ++ r) (ended_append next xs ys)
    ∙ sym (append_assoc (ended_by_one at q) (ended_by next xs) (ended_by (begun_after next xs) ys))

pub packets_append : (at : Option (List ℕ)) (xs ys : List Part) (over : List ℕ)
    → packets_of at (xs ++ ys) over ≡ ended_by at xs ++ packets_of (begun_after at xs) ys over
packets_append at xs ys over =
    ap₂ (λ (e : List (List ℕ)) (b : Option (List ℕ)). e ++ not_ended b over) (ended_append at xs ys) (begun_append at xs ys)
    ∙ append_assoc (ended_by at xs) (ended_by (begun_after at xs) ys) (not_ended (begun_after (begun_after at xs) ys) over)

-- 2. One part more is cut off the bytes of a packet: the packets stay the same.

pub not_ended_some : (at : Option (List ℕ)) (bytes : List ℕ) → 0 < length bytes → not_ended at bytes ≡ (so_far at ++ bytes) ∷ []
not_ended_some None [] any = absurd (omega arith)
not_ended_some None (b ∷ bytes) any = refl
not_ended_some (Some begun) bytes any = refl

one_cut : (at : Option (List ℕ)) (q : Part) (rest : List ℕ) → (q.ends ≡ true → rest ≡ [])
    → packets_of at (q ∷ []) rest ≡ (so_far at ++ (q.bytes ++ rest)) ∷ []
one_cut at q rest end = go q.ends refl
  where
    go : (e : Bool) → q.ends ≡ e
        → (cond e ((so_far at ++ q.bytes) ∷ []) [] ++ []) ++ not_ended (cond e None (Some (so_far at ++ q.bytes))) rest
        ≡ (so_far at ++ (q.bytes ++ rest)) ∷ []
    go true e =
        let none = end e in
        ap (λ (r : List ℕ). ((so_far at ++ q.bytes) ∷ []) ++ not_ended None r) none
        ∙ ap (λ (r : List ℕ). (so_far at ++ r) ∷ []) (sym (append-nil q.bytes) ∙ ap (λ (r : List ℕ). q.bytes ++ r) (sym none))
    go false e = ap (λ (r : List ℕ). r ∷ []) (append_assoc (so_far at) q.bytes rest)

pub part_cut : (at : Option (List ℕ)) (row : List Part) (q : Part) (bytes rest : List ℕ) → q.bytes ++ rest ≡ bytes → 0 < length bytes
    → (q.ends ≡ true → rest ≡ []) → packets_of at (row ++ q ∷ []) rest ≡ packets_of at row bytes
part_cut at row q bytes rest whole any end =
    let next = begun_after at row in
    packets_append at row (q ∷ []) rest
    ∙ ap (λ (r : List (List ℕ)). ended_by at row ++ r)
    (one_cut next q rest end ∙ ap (λ (r : List ℕ). (so_far next ++ r) ∷ []) whole ∙ sym (not_ended_some next bytes any))

-- after a part that ends a packet none is begun
pub begun_ended : (at : Option (List ℕ)) (row : List Part) (q : Part) → q.ends ≡ true → begun_after at (row ++ q ∷ []) ≡ None
begun_ended at row q end =
    begun_append at row (q ∷ [])
    ∙ ap (λ (e : Bool). cond {A = Option (List ℕ)} e None (Some (so_far (begun_after at row) ++ q.bytes))) end

-- 3. No packet is longer than `limit`.

pub all_right : {X : Type 0} (P : X → Type 0) (xs ys : List X) → AllByRecursion P (xs ++ ys) → AllByRecursion P ys
all_right P [] ys all = all
all_right P (x ∷ xs) ys all = all_right P xs ys all.1

begun_short : (limit : ℕ) (begun : List ℕ) (qs : List Part) (over : List ℕ) → Short limit (packets_of (Some begun) qs over) → length begun ≤ limit
begun_short limit begun [] over short = let long = length-append begun over in omega (arith, short.0)
begun_short limit begun (q ∷ qs) over short = go q.ends (begun_short limit (begun ++ q.bytes) qs over) short
  where
    go : (e : Bool) → (Short limit (packets_of (Some (begun ++ q.bytes)) qs over) → length (begun ++ q.bytes) ≤ limit)
        → Short limit
        ((cond e ((begun ++ q.bytes) ∷ []) [] ++ ended_by (cond e None (Some (begun ++ q.bytes))) qs)
        ++ not_ended (begun_after (cond e None (Some (begun ++ q.bytes))) qs) over)
        → length begun ≤ limit
    go true later all = let long = length-append begun q.bytes in omega (arith, all.0)
    go false later all = let long = length-append begun q.bytes in omega (arith, later all)

-- a packet that is begun and the part that goes on with it
pub first_short : (limit : ℕ) (at : Option (List ℕ)) (q : Part) (qs : List Part) (over : List ℕ) → Short limit (packets_of at (q ∷ qs) over)
    → length (so_far at) + length q.bytes ≤ limit
first_short limit at q qs over short = go q.ends short
  where
    go : (e : Bool)
        → Short limit
        ((cond e ((so_far at ++ q.bytes) ∷ []) [] ++ ended_by (cond e None (Some (so_far at ++ q.bytes))) qs)
        ++ not_ended (begun_after (cond e None (Some (so_far at ++ q.bytes))) qs) over)
        → length (so_far at) + length q.bytes ≤ limit
    go true all = let long = length-append (so_far at) q.bytes in omega (arith, all.0)
    go false all = let long = length-append (so_far at) q.bytes in omega (arith, begun_short limit (so_far at ++ q.bytes) qs over all)
