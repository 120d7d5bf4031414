-- Laws of bits and of the bit map.
use Rattle.std.proofs.Common.{◌≡◌, ℕ, zero, suc, ◌+◌, ◌-◌, ◌*◌, ◌/◌, ◌%◌, ◌^◌, ◌<◌, ◌≤◌, Bool, true, false, cond, eqb, ◌⊎◌, List, [], ◌∷◌, ◌++◌, length, get_or, map, sum, take, drop, sym, refl, ap, ◌∙◌, ⊎_elim, pow-suc, div-one, arith}
use native.Mathlib.Nat.{zero-div}
use lib.Count.{ones, ones_step}
use lib.Seq.{drop-nil}
use Rattle.std.proofs.lemmas.Nat.{shr-shr}
use Rattle.std.proofs.lemmas.List.{append-nil, get_or_append_left, get_or-drop, get_or-take, length-append, length-take, drop_all, drop_at, drop-drop, drop_more}
use Rattle.std.proofs.lemmas.List.Sums.{sum_by-cons}
use Rattle.std.proofs.lemmas.Bool.{eq-eqb, ne_eqb, cases_eq}
use Rattle.std.proofs.lemmas.Bool.Decides.{nat_tests}
use Rattle.reel.specs.Bits.{bits_of, bits, bit_at, count_of_set_bits, all_clear}
use Rattle.reel.specs.Block.{Bytes}

pub length_bits_of : (k b : ℕ) → length (bits_of k b) ≡ k
unfolding bits_of
length_bits_of zero b = refl
length_bits_of (suc k) b = ap suc (length_bits_of k (b / 2))

pub length_bits : (map : List ℕ) → length (bits map) ≡ 8 * length map
unfolding bits
length_bits [] = refl
length_bits (b ∷ map) =
    let one = length_bits_of 8 b in let more = length_bits map in simp length-append (omega arith)

pub set_bits_append : (xs ys : List Bool) → count_of_set_bits (xs ++ ys) ≡ count_of_set_bits xs + count_of_set_bits ys
set_bits_append [] ys = omega arith
set_bits_append (x ∷ xs) ys = let more = set_bits_append xs ys in omega arith

-- a bit counts as much as the digit
pub digit : (n : ℕ) → cond (eqb (n % 2) 1) 1 0 ≡ n % 2
digit n =
    ⊎_elim
    (λ yes'. ap (λ (t : Bool). cond t 1 0) (eq-eqb (n % 2) 1 yes') ∙ sym yes')
    (λ no'. let ne : n % 2 ≡ 0 = omega arith in ap (λ (t : Bool). cond t 1 0) (ne_eqb (n % 2) 1 no') ∙ sym ne)
    (cases_eq (n % 2) 1)

-- the bits that are set are the ones of the number
pub ones_bits_of : (k b : ℕ) → b < 2 ^ k → count_of_set_bits (bits_of k b) ≡ ones b
unfolding bits_of ones
ones_bits_of zero b short = let none : b ≡ 0 = omega arith in sym (ap ones none)
ones_bits_of (suc k) b short =
    let twice = pow-suc 2 k in
    let half : b / 2 < 2 ^ k = omega arith in
    let more = ones_bits_of k (b / 2) half in
    let low = digit b in
    let all = ones_step b in
    omega arith

-- the bits that are set in a map are the ones of its bytes
pub ones_counted : (m : List ℕ) → Bytes m → count_of_set_bits (bits m) ≡ sum (map ones m)
unfolding bits
ones_counted [] are = refl
ones_counted (b ∷ m) are =
    let one = ones_bits_of 8 b are.0 in
    let more = ones_counted m are.1 in
    let all = sum_by-cons (λ (x : ℕ). x) (ones b) (map ones m) in
    set_bits_append (bits_of 8 b) (bits m) ∙ omega arith

pub set_bits_at_most : (xs : List Bool) → count_of_set_bits xs ≤ length xs
set_bits_at_most [] = omega arith
set_bits_at_most (true ∷ xs) = let more = set_bits_at_most xs in omega arith
set_bits_at_most (false ∷ xs) = let more = set_bits_at_most xs in omega arith

-- ---- clear bits

pub clear_bits_of : (k b : ℕ) → b < 2 ^ k → all_clear (bits_of k b) ≡ eqb b 0
unfolding bits_of
clear_bits_of zero b short = let none : b ≡ 0 = omega arith in sym (eq-eqb b 0 none)
clear_bits_of (suc k) b short =
    let twice = pow-suc 2 k in
    let half : b / 2 < 2 ^ k = omega arith in
    rw (clear_bits_of k (b / 2) half) (grind (arith, nat_tests))

-- the bits behind the first r are clear where a shift by r leaves nothing
pub clear_behind : (r k b : ℕ) → b < 2 ^ k → all_clear (drop r (bits_of k b)) ≡ eqb (b / 2 ^ r) 0
unfolding bits_of
clear_behind zero k b short = rw (div-one b) (clear_bits_of k b short)
clear_behind (suc r) zero b short = let none : b ≡ 0 = omega arith in rw none (sym (ap (λ (n : ℕ). eqb n 0) (zero-div (2 ^ suc r))))
clear_behind (suc r) (suc k) b short =
    let twice = pow-suc 2 k in
    let half : b / 2 < 2 ^ k = omega arith in
    let one : 1 + r ≡ suc r = omega arith in
    clear_behind r k (b / 2) half ∙ ap (λ (n : ℕ). eqb n 0) (shr-shr b 1 r ∙ ap (λ (j : ℕ). b / 2 ^ j) one)

-- the bits behind so many bytes are those of the bytes behind
pub drop_bits : (q r : ℕ) (map : List ℕ) → drop (8 * q + r) (bits map) ≡ drop r (bits (drop q map))
unfolding bits
drop_bits zero r map = let e : 8 * 0 + r ≡ r = omega arith in rw e
drop_bits (suc q) r [] = drop-nil (8 * suc q + r) ∙ sym (drop-nil r)
drop_bits (suc q) r (b ∷ map) =
    let e : 8 * suc q + r ≡ 8 + (8 * q + r) = omega arith in
    rw (e, ← drop-drop (8 * q + r) 8 (bits_of 8 b ++ bits map), drop_at (bits_of 8 b) (bits map) 8 (length_bits_of 8 b))
    (drop_bits q r map)

-- the spare bits of a map, which lie in its last byte
pub clear_spare : (map : List ℕ) (last n : ℕ) → length map ≡ last + 1 → 8 * last ≤ n → get_or map last 0 < 256
    → all_clear (drop n (bits map)) ≡ eqb (get_or map last 0 / 2 ^ (n - 8 * last)) 0
unfolding bits
clear_spare map last n long within byte =
    let e : n ≡ 8 * last + (n - 8 * last) = omega arith in
    let inside : last < length map = omega arith in
    ap (λ (k : ℕ). all_clear (drop k (bits map))) e
    ∙ ap all_clear (drop_bits last (n - 8 * last) map)
    ∙ ap (λ (m : List ℕ). all_clear (drop (n - 8 * last) (bits m))) (drop_more map last 0 inside ∙ ap (λ (m : List ℕ). get_or map last 0 ∷ m) (drop_all (last + 1) map (omega arith)))
    ∙ ap (λ (xs : List Bool). all_clear (drop (n - 8 * last) xs)) (append-nil (bits_of 8 (get_or map last 0)))
    ∙ clear_behind (n - 8 * last) 8 (get_or map last 0) byte

-- ---- one bit of a map

bit_of : (k b r : ℕ) → r < k → get_or (bits_of k b) r false ≡ eqb (b / 2 ^ r % 2) 1
unfolding bits_of
bit_of zero b r within = absurd (omega arith)
bit_of (suc k) b zero within = ap (λ (n : ℕ). eqb (n % 2) 1) (sym (div-one b))
bit_of (suc k) b (suc r) within =
    let one : 1 + r ≡ suc r = omega arith in
    bit_of k (b / 2) r (omega arith) ∙ ap (λ (n : ℕ). eqb (n % 2) 1) (shr-shr b 1 r ∙ ap (λ (j : ℕ). b / 2 ^ j) one)

-- bit r, from 0, of byte q, from 0
bit_at_place : (map : List ℕ) (q r : ℕ) → q < length map → r < 8
    → get_or (bits map) (8 * q + r) false ≡ eqb (get_or map q 0 / 2 ^ r % 2) 1
unfolding bits
bit_at_place map q r inside small =
    let zero' : 8 * q + 0 ≡ 8 * q = omega arith in
    let long = length_bits_of 8 (get_or map q 0) in
    let short : r < length (bits_of 8 (get_or map q 0)) = omega arith in
    sym (get_or-drop (8 * q) (bits map) r false)
    ∙ ap (λ (xs : List Bool). get_or xs r false)
    (ap (λ (n : ℕ). drop n (bits map)) (sym zero') ∙ drop_bits q 0 map ∙ ap bits (drop_more map q 0 inside))
    ∙ get_or_append_left (bits_of 8 (get_or map q 0)) (bits (drop (q + 1) map)) false r short
    ∙ bit_of 8 (get_or map q 0) r small

-- the first of the bits that are left of a map's first n
pub next_bit : (map : List ℕ) (n i : ℕ) → i < n → i / 8 < length map
    → drop i (take n (bits map)) ≡ bit_at map i ∷ drop (i + 1) (take n (bits map))
next_bit map n i below inside =
    let long = length_bits map in
    let within : i < length (take n (bits map)) = simp length-take (omega arith) in
    let place : i ≡ 8 * (i / 8) + i % 8 = omega arith in
    let bit = get_or-take n (bits map) i false below ∙ ap (λ (k : ℕ). get_or (bits map) k false) place ∙ bit_at_place map (i / 8) (i % 8) inside (omega arith) in
    drop_more (take n (bits map)) i false within ∙ ap (λ (b : Bool). b ∷ drop (i + 1) (take n (bits map))) bit

pub no_bit : (map : List ℕ) (n i : ℕ) → (n ≤ i) ⊎ (length map ≤ i / 8) → drop i (take n (bits map)) ≡ []
no_bit map n i past =
    let long = length_bits map in
    drop_all i (take n (bits map)) (⊎_elim (λ (h : n ≤ i). simp length-take (omega arith)) (λ (h : length map ≤ i / 8). simp length-take (omega arith)) past)
