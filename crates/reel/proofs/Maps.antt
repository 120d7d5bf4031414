-- Writing a bit map and reading it undo each other.
use Rattle.std.proofs.Common.{◌≡◌, ℕ, zero, suc, ◌+◌, ◌-◌, ◌*◌, ◌/◌, ◌%◌, ◌^◌, ◌<◌, ◌≤◌, Bool, true, false, eqb, List, [], ◌∷◌, ◌++◌, length, take, drop, replicate, sym, refl, ap, ◌∙◌, ap₂, ⊎_elim, append_assoc, pow-suc, arith}
use native.Mathlib.Nat.{sub-zero}
use Rattle.std.proofs.lemmas.Nat.{pow_pos}
use Rattle.std.proofs.lemmas.List.{append-nil, length-take, length-drop, drop_all, drop_at, replicate-append-replicate, take_all, take-append-drop, take_at}
use Rattle.std.proofs.lemmas.Bool.{cases_lt, eq-eqb, ne_eqb}
use Rattle.reel.specs.Bits.{bits_of, value_of, bits, map_of, all_clear}
use Rattle.reel.specs.Block.{Bytes}
use Rattle.reel.proofs.Bits.{digit, length_bits_of, length_bits}

-- ---- one byte

value_bits : (k b : ℕ) → b < 2 ^ k → value_of (bits_of k b) ≡ b
unfolding bits_of value_of
value_bits zero b short = omega arith
value_bits (suc k) b short =
    let twice = pow-suc 2 k in
    let half : b / 2 < 2 ^ k = omega arith in
    let more = value_bits k (b / 2) half in
    let low = digit b in
    omega arith

value_below : (k : ℕ) (xs : List Bool) → length xs ≤ k → value_of xs < 2 ^ k
unfolding value_of
value_below k [] short = pow_pos k
value_below zero (x ∷ xs) short = absurd (omega arith)
value_below (suc k) (true ∷ xs) short = let more = value_below k xs (omega arith) in let twice = pow-suc 2 k in omega arith
value_below (suc k) (false ∷ xs) short = let more = value_below k xs (omega arith) in let twice = pow-suc 2 k in omega arith

bits_value : (k : ℕ) (xs : List Bool) → length xs ≤ k → bits_of k (value_of xs) ≡ xs ++ replicate (k - length xs) false
unfolding bits_of value_of
bits_value zero [] short = refl
bits_value zero (x ∷ xs) short = absurd (omega arith)
bits_value (suc k) [] short =
    let more = bits_value k [] (omega arith) in
    rw sub-zero (ap (λ (ys : List Bool). false ∷ ys) (more ∙ rw sub-zero))
bits_value (suc k) (true ∷ xs) short =
    let more = bits_value k xs (omega arith) in
    let v = value_of xs in
    let low : eqb ((1 + 2 * v) % 2) 1 ≡ true = eq-eqb _ _ (omega arith) in
    let high : (1 + 2 * v) / 2 ≡ v = omega arith in
    let pad : suc k - suc (length xs) ≡ k - length xs = omega arith in
    rw pad (ap₂ (λ (b : Bool) (ys : List Bool). b ∷ ys) low (ap (bits_of k) high ∙ more))
bits_value (suc k) (false ∷ xs) short =
    let more = bits_value k xs (omega arith) in
    let v = value_of xs in
    let low : eqb ((0 + 2 * v) % 2) 1 ≡ false = ne_eqb _ _ (λ e. omega arith) in
    let high : (0 + 2 * v) / 2 ≡ v = omega arith in
    let pad : suc k - suc (length xs) ≡ k - length xs = omega arith in
    rw pad (ap₂ (λ (b : Bool) (ys : List Bool). b ∷ ys) low (ap (bits_of k) high ∙ more))

-- ---- the map

pub length_map_of : (k : ℕ) (xs : List Bool) → length (map_of k xs) ≡ k
unfolding map_of
length_map_of zero xs = refl
length_map_of (suc k) xs = ap suc (length_map_of k (drop 8 xs))

pub bytes_map_of : (k : ℕ) (xs : List Bool) → Bytes (map_of k xs)
unfolding map_of
bytes_map_of zero xs = tt
bytes_map_of (suc k) xs = (value_below 8 (take 8 xs) (simp length-take (omega arith)), bytes_map_of k (drop 8 xs))

-- the bits of a written map are those it was written for, and then clear ones
pub bits_map_of : (k : ℕ) (xs : List Bool) → length xs ≤ 8 * k → bits (map_of k xs) ≡ xs ++ replicate (8 * k - length xs) false
unfolding map_of bits
bits_map_of zero [] short = refl
bits_map_of zero (x ∷ xs) short = absurd (omega arith)
bits_map_of (suc k) xs short =
    let rest : length (drop 8 xs) ≤ 8 * k = simp length-drop (omega arith) in
    let one = bits_value 8 (take 8 xs) (simp length-take (omega arith)) in
    let more = bits_map_of k (drop 8 xs) rest in
    ap₂ (λ (ys zs : List Bool). ys ++ zs) one more ∙ ⊎_elim (short_end k xs) (λ (long : 8 ≤ length xs). long_end k xs long short) (cases_lt (length xs) 8)
  where
    short_end : (k : ℕ) (xs : List Bool) → length xs < 8
        → (take 8 xs ++ replicate (8 - length (take 8 xs)) false) ++ (drop 8 xs ++ replicate (8 * k - length (drop 8 xs)) false) ≡ xs ++ replicate (8 * suc k - length xs) false
    short_end k xs few =
        let all = take_all 8 xs (omega arith) in
        let none = drop_all 8 xs (omega arith) in
        let sum : 8 - length xs + 8 * k ≡ 8 * suc k - length xs = omega arith in
        rw (all, none)
        (append_assoc xs (replicate (8 - length xs) false) (replicate (8 * k - 0) false)
        ∙ ap (λ (ys : List Bool). xs ++ ys) (rw sub-zero (replicate-append-replicate (8 - length xs) (8 * k) false ∙ ap (λ (n : ℕ). replicate n false) sum)))

    long_end : (k : ℕ) (xs : List Bool) → 8 ≤ length xs → length xs ≤ 8 * suc k
        → (take 8 xs ++ replicate (8 - length (take 8 xs)) false) ++ (drop 8 xs ++ replicate (8 * k - length (drop 8 xs)) false) ≡ xs ++ replicate (8 * suc k - length xs) false
    long_end k xs long short =
        let none : 8 - length (take 8 xs) ≡ 0 = simp length-take (omega arith) in
        let pad : 8 * k - length (drop 8 xs) ≡ 8 * suc k - length xs = simp length-drop (omega arith) in
        rw (none, pad)
        (ap (λ (ys : List Bool). ys ++ (drop 8 xs ++ replicate (8 * suc k - length xs) false)) (append-nil (take 8 xs))
        ∙ sym (append_assoc (take 8 xs) (drop 8 xs) (replicate (8 * suc k - length xs) false))
        ∙ ap (λ (ys : List Bool). ys ++ replicate (8 * suc k - length xs) false) (take-append-drop 8 xs))

-- a map has no other bytes than its bits tell
same_byte : (b c : ℕ) → b < 256 → c < 256 → bits_of 8 b ≡ bits_of 8 c → b ≡ c
same_byte b c byte byte' e = sym (value_bits 8 b byte) ∙ ap value_of e ∙ value_bits 8 c byte'

same_map : (m n : List ℕ) → Bytes m → Bytes n → bits m ≡ bits n → m ≡ n
unfolding bits
same_map [] [] p q e = refl
same_map [] (c ∷ n) p q e =
    let long = length_bits (c ∷ n) in let none : ◌≡◌ {A = ℕ} 0 (8 * suc (length n)) = ap length e ∙ long in absurd (omega arith)
same_map (b ∷ m) [] p q e =
    let long = length_bits (b ∷ m) in let none : ◌≡◌ {A = ℕ} (8 * suc (length m)) 0 = sym long ∙ ap length e in absurd (omega arith)
same_map (b ∷ m) (c ∷ n) p q e =
    let first : bits_of 8 b ≡ bits_of 8 c =
    sym (take_at (bits_of 8 b) (bits m) 8 (length_bits_of 8 b)) ∙ ap (λ (xs : List Bool). take 8 xs) e ∙ take_at (bits_of 8 c) (bits n) 8 (length_bits_of 8 c) in
    let rest : bits m ≡ bits n =
    sym (drop_at (bits_of 8 b) (bits m) 8 (length_bits_of 8 b)) ∙ ap (λ (xs : List Bool). drop 8 xs) e ∙ drop_at (bits_of 8 c) (bits n) 8 (length_bits_of 8 c) in
    ap₂ (λ (x : ℕ) (xs : List ℕ). x ∷ xs) (same_byte b c p.0 q.0 first) (same_map m n p.1 q.1 rest)

clear_are : (xs : List Bool) → all_clear xs ≡ true → xs ≡ replicate (length xs) false
clear_are [] e = refl
clear_are (true ∷ xs) e = let z : ◌≡◌ {A = ℕ} 0 1 = cc in absurd (omega arith)
clear_are (false ∷ xs) e = ap (λ (ys : List Bool). false ∷ ys) (clear_are xs e)

-- a map whose spare bits are clear is what is written for the other bits
pub map_of_bits : (m : List ℕ) (n : ℕ) → Bytes m → all_clear (drop n (bits m)) ≡ true → map_of (length m) (take n (bits m)) ≡ m
map_of_bits m n bytes clear =
    let long = length_bits m in
    let fits : length (take n (bits m)) ≤ 8 * length m = simp length-take (omega arith) in
    let pad : 8 * length m - length (take n (bits m)) ≡ length (drop n (bits m)) = simp (length-take, length-drop) (omega arith) in
    same_map (map_of (length m) (take n (bits m))) m (bytes_map_of (length m) (take n (bits m))) bytes
    (bits_map_of (length m) (take n (bits m)) fits
    ∙ ap (λ (k : ℕ). take n (bits m) ++ replicate k false) pad
    ∙ ap (λ (xs : List Bool). take n (bits m) ++ xs) (sym (clear_are (drop n (bits m)) clear))
    ∙ take-append-drop n (bits m))
