-- Numbers and bytes as they are spelt.
use Rattle.std.proofs.Common.{◌≡◌, ℕ, ◌+◌, ◌-◌, ◌*◌, ◌/◌, ◌^◌, ◌<◌, ◌≤◌, zero, suc, min, List, [], ◌∷◌, ◌++◌, length, get_or, take, drop, Some, None, Option, ◌%◌, sym, refl, ap, ◌∙◌, append_assoc, arith}
use Rattle.std.proofs.lemmas.Bool.Decides.{nat_tests}
use Rattle.std.specs.List.{slice_index}
use Rattle.std.proofs.lemmas.List.{drop_more, take_more, take_all}
use Rattle.std.specs.Simd.{first_chunks}
use Rattle.spelling.specs.Decimal.{capped, count_of_digits, spell_on, with_digit}
use Rattle.spelling.specs.Hex.{behind, byte_of, digit_of, value_of_digit, hex_pair, hexed, in_front, in_word, unhexed, ReadBack}

-- two numbers that the machine holds alike lead to the same
pub spell_capped : (a b : ℕ) (ds : List ℕ) → min a (2 ^ 64 - 1) ≡ min b (2 ^ 64 - 1)
    → capped (spell_on (Some a) ds) ≡ capped (spell_on (Some b) ds)
spell_capped a b [] e = ap Some e
spell_capped a b (d ∷ ds) e =
    elim (count_of_digits d) as (λ o. capped (spell_on (with_digit (Some a) o) ds) ≡ capped (spell_on (with_digit (Some b) o) ds))
    [ None ↦ refl | Some v ↦ spell_capped (10 * a + v) (10 * b + v) ds (omega (arith, e)) ]

-- no number comes of what is none
pub spell_none : (ds : List ℕ) → spell_on None ds ≡ None
spell_none [] = refl
spell_none (d ∷ ds) = spell_none ds

-- one more digit
pub spell_more : (t i v n : ℕ) (ds : List ℕ) → i < length ds → Some v ≡ count_of_digits (get_or ds i 0)
    → n ≡ min (min (t * 10) (2 ^ 64 - 1) + v) (2 ^ 64 - 1)
    → capped (spell_on (Some n) (drop (i + 1) ds)) ≡ capped (spell_on (Some t) (drop i ds))
spell_more t i v n ds h e m =
    spell_capped n (10 * t + v) (drop (i + 1) ds) (omega (arith, m))
    ∙ ap (λ (o : Option ℕ). capped (spell_on (with_digit (Some t) o) (drop (i + 1) ds))) e
    ∙ ap (λ (s : List ℕ). capped (spell_on (Some t) s)) (sym (drop_more ds i 0 h))

-- a byte that is no digit
pub spell_stop : (t i : ℕ) (ds : List ℕ) → i < length ds → None ≡ count_of_digits (get_or ds i 0) → None ≡ capped (spell_on (Some t) (drop i ds))
spell_stop t i ds h e =
    ap capped (sym (spell_none (drop (i + 1) ds)))
    ∙ ap (λ (o : Option ℕ). capped (spell_on (with_digit (Some t) o) (drop (i + 1) ds))) e
    ∙ ap (λ (s : List ℕ). capped (spell_on (Some t) s)) (sym (drop_more ds i 0 h))

-- bytes behind others, and these behind the first
pub behind_behind : (xs : List ℕ) (b : ℕ) (o : Option (List ℕ)) → behind (xs ++ b ∷ []) o ≡ behind xs (in_front (Some b) o)
behind_behind xs b None = refl
behind_behind xs b (Some ys) = ap Some (append_assoc xs (b ∷ []) ys)

-- the bytes that pairs of digits spell
abbrev pub pairs_unhexed : List (List ℕ) → Option (List ℕ)
pairs_unhexed [] = Some []
pairs_unhexed (p ∷ ps) = in_front (byte_of (value_of_digit (get_or p 0 0)) (value_of_digit (get_or p 1 0))) (pairs_unhexed ps)

none_behind : (o : Option ℕ) → in_front o None ≡ None
none_behind None = refl
none_behind (Some b) = refl

-- digits, two a byte, spell what their pairs do
pub in_pairs : (k : ℕ) (ds : List ℕ) → length ds ≡ 2 * k → unhexed ds ≡ pairs_unhexed (first_chunks 2 k ds)
in_pairs zero [] e = refl
in_pairs zero (d ∷ ds) e = absurd (omega (arith, e))
in_pairs (suc k) [] e = absurd (omega (arith, e))
in_pairs (suc k) (d ∷ []) e = absurd (omega (arith, e))
in_pairs (suc k) (d ∷ f ∷ ds) e = ap (in_front (byte_of (value_of_digit d) (value_of_digit f))) (in_pairs k ds (omega (arith, e)))

-- a digit too many
pub hex_odd : (k : ℕ) (ds : List ℕ) → length ds ≡ 2 * k + 1 → unhexed ds ≡ None
hex_odd k [] e = absurd (omega (arith, e))
hex_odd k (d ∷ []) e = refl
hex_odd zero (d ∷ f ∷ ds) e = absurd (omega (arith, e))
hex_odd (suc k) (d ∷ f ∷ ds) e =
    ap (in_front (byte_of (value_of_digit d) (value_of_digit f))) (hex_odd k ds (omega (arith, e)))
    ∙ none_behind (byte_of (value_of_digit d) (value_of_digit f))

-- bytes behind none
pub behind_nothing : (o : Option (List ℕ)) → behind [] o ≡ o
behind_nothing None = refl
behind_nothing (Some bytes) = refl

-- two more digits
pub hex_more : (xs : List ℕ) (ps : List (List ℕ)) (i b : ℕ) → i < length ps
    → Some b ≡ byte_of (value_of_digit (get_or (get_or ps i []) 0 0)) (value_of_digit (get_or (get_or ps i []) 1 0))
    → behind (xs ++ b ∷ []) (pairs_unhexed (drop (i + 1) ps)) ≡ behind xs (pairs_unhexed (drop i ps))
hex_more xs ps i b h e =
    let more = pairs_unhexed (drop (i + 1) ps) in
    behind_behind xs b more
    ∙ ap (λ (o : Option ℕ). behind xs (in_front o more)) e
    ∙ ap (λ (qs : List (List ℕ)). behind xs (pairs_unhexed qs)) (sym (drop_more ps i [] h))

-- two bytes that are no digits
pub hex_stop : (xs : List ℕ) (ps : List (List ℕ)) (i : ℕ) → i < length ps
    → None ≡ byte_of (value_of_digit (get_or (get_or ps i []) 0 0)) (value_of_digit (get_or (get_or ps i []) 1 0))
    → behind xs (pairs_unhexed (drop i ps)) ≡ None
hex_stop xs ps i h e =
    ap (λ (qs : List (List ℕ)). behind xs (pairs_unhexed qs)) (drop_more ps i [] h)
    ∙ ap (λ (o : Option ℕ). behind xs (in_front o (pairs_unhexed (drop (i + 1) ps)))) (sym e)

-- digits of bytes behind others
hexed_append : (xs ys : List ℕ) → hexed (xs ++ ys) ≡ hexed xs ++ hexed ys
hexed_append [] ys = refl
hexed_append (x ∷ xs) ys = ap (λ (s : List ℕ). digit_of (x / 16) ∷ digit_of x ∷ s) (hexed_append xs ys)

-- one byte more in digits
pub hexed_more : (xs : List ℕ) (i : ℕ) → i < length xs → hexed (take i xs) ++ hex_pair (get_or xs i 0) ≡ hexed (take (i + 1) xs)
hexed_more xs i h = sym (ap hexed (take_more xs i 0 h) ∙ hexed_append (take i xs) (get_or xs i 0 ∷ []))

pub hexed_all : (xs : List ℕ) (i : ℕ) → (length xs ≡ 0 → ⊥) → length xs ≤ i → hexed (take i xs) ≡ in_word xs
hexed_all [] i e h = absurd (e refl)
hexed_all (x ∷ xs) i e h = ap hexed (take_all i (x ∷ xs) h)

-- a number below 16 is read from the digit that is written for it
digit_back : (n : ℕ) → value_of_digit (digit_of n) ≡ Some (n % 16)
digit_back n = grind (arith, nat_tests)

pair_back : (b : ℕ) → b < 256 → byte_of (value_of_digit (digit_of (b / 16))) (value_of_digit (digit_of b)) ≡ Some b
pair_back b h =
    ap (λ (o : Option ℕ). byte_of o (value_of_digit (digit_of b))) (digit_back (b / 16))
    ∙ ap (byte_of (Some (b / 16 % 16))) (digit_back b)
    ∙ ap Some (omega arith)

digits_back : (bytes : List ℕ) → ((k : ℕ) → k < length bytes → slice_index bytes k < 256) → unhexed (hexed bytes) ≡ Some bytes
digits_back [] small = refl
digits_back (b ∷ bs) small =
    ap (λ (o : Option ℕ). in_front o (unhexed (hexed bs))) (pair_back b (small 0 (omega arith)))
    ∙ ap (in_front (Some b)) (digits_back bs (λ k h. small (suc k) (omega (arith, h))))

-- What is written in hex digits is read back.
pub read_back : ReadBack
read_back [] small = refl
read_back (b ∷ bs) small = digits_back (b ∷ bs) small
