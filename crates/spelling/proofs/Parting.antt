-- Lines and words.
use Rattle.std.proofs.Common.{◌≡◌, ℕ, ◌+◌, Bool, true, false, cond, ◌&&◌, eqb, List, [], ◌∷◌, length, take, drop, Some, None, Option, MatchOption, Bor, sym, refl, ap, ◌∙◌, subst, arith, one-add}
use Rattle.std.proofs.lemmas.List.{drop-drop}
use Rattle.std.proofs.lemmas.List.Recursion.{is_position_or_len}
use Rattle.std.specs.Cmp.Lexicographic.{pointwise}
use Rattle.std.specs.List.{position_or_len, prefix_len}
use Rattle.std.specs.Option.{unwrap_or}
use Rattle.spelling.specs.Words.{up_to, unspaced, begun, lengthened, words}

-- spaces in front part no words
pub words_unspaced : (xs : List ℕ) → words (unspaced xs) ≡ words xs
words_unspaced [] = refl
words_unspaced (b ∷ bs) = go (words_unspaced bs) (eqb b 32) refl
  where
    go : words (unspaced bs) ≡ words bs → (t : Bool) → eqb b 32 ≡ t → words (cond t (unspaced bs) (b ∷ bs)) ≡ words (b ∷ bs)
    go ih true e = ih ∙ sym (ap (λ (t : Bool). cond t (words bs) (begun b bs (words bs))) e)
    go ih false e = refl

-- a word goes up to the next space
pub begun_word : (b : ℕ) (bs : List ℕ) → begun b bs (words bs) ≡ (b ∷ up_to 32 bs) ∷ words (drop (length (up_to 32 bs)) bs)
begun_word b [] = refl
begun_word b (c ∷ cs) = go (begun_word c cs) (eqb c 32) refl
  where
    go : begun c cs (words cs) ≡ (c ∷ up_to 32 cs) ∷ words (drop (length (up_to 32 cs)) cs)
        → (t : Bool) → eqb c 32 ≡ t
        → cond t ((b ∷ []) ∷ words (c ∷ cs)) (lengthened b (cond t (words cs) (begun c cs (words cs))))
        ≡ (b ∷ cond t [] (c ∷ up_to 32 cs)) ∷ words (drop (length (cond t [] (c ∷ up_to 32 cs))) (c ∷ cs))
    go ih true e = refl
    go ih false e = ap (lengthened b) ih

-- where the spaces in front are left out and no byte comes before the next, there is no word
pub word_none : (xs : List ℕ) → length (up_to 32 (unspaced xs)) ≡ 0 → words (unspaced xs) ≡ []
word_none [] h = refl
word_none (b ∷ bs) h = go (word_none bs) (eqb b 32) refl h
  where
    go : (length (up_to 32 (unspaced bs)) ≡ 0 → words (unspaced bs) ≡ []) → (t : Bool) → eqb b 32 ≡ t
        → length (up_to 32 (cond t (unspaced bs) (b ∷ bs))) ≡ 0 → words (cond t (unspaced bs) (b ∷ bs)) ≡ []
    go ih true e z = ih z
    go ih false e z =
        let z' : length (b ∷ up_to 32 bs) ≡ 0 = subst (λ (t : Bool). length (cond t [] (b ∷ up_to 32 bs)) ≡ 0) e z in
        absurd (omega (arith, z'))

-- else the first word goes up to the next space
pub word_first : (xs : List ℕ) → (length (up_to 32 (unspaced xs)) ≡ 0 → ⊥)
    → words (unspaced xs) ≡ up_to 32 (unspaced xs) ∷ words (drop (length (up_to 32 (unspaced xs))) (unspaced xs))
word_first [] h = absurd (h refl)
word_first (b ∷ bs) h = go (word_first bs) (eqb b 32) refl h
  where
    go : ((length (up_to 32 (unspaced bs)) ≡ 0 → ⊥)
        → words (unspaced bs) ≡ up_to 32 (unspaced bs) ∷ words (drop (length (up_to 32 (unspaced bs))) (unspaced bs)))
        → (t : Bool) → eqb b 32 ≡ t
        → (length (up_to 32 (cond t (unspaced bs) (b ∷ bs))) ≡ 0 → ⊥)
        → words (cond t (unspaced bs) (b ∷ bs))
        ≡ up_to 32 (cond t (unspaced bs) (b ∷ bs))
        ∷ words (drop (length (up_to 32 (cond t (unspaced bs) (b ∷ bs)))) (cond t (unspaced bs) (b ∷ bs)))
    go ih true e z = ih z
    go ih false e z =
        subst
        (λ (t : Bool). cond t (words bs) (begun b bs (words bs))
        ≡ cond t [] (b ∷ up_to 32 bs) ∷ words (drop (length (cond t [] (b ∷ up_to 32 bs))) (b ∷ bs)))
        (sym e) (begun_word b bs)

-- the same of a text that is known to be without its spaces in front
pub no_word : (xs rest : List ℕ) → rest ≡ unspaced xs → length (up_to 32 rest) ≡ 0 → (words xs ≡ []) × (words rest ≡ [])
no_word xs rest e h =
    let none = word_none xs (subst (λ (s : List ℕ). length (up_to 32 s) ≡ 0) e h) in
    (sym (words_unspaced xs) ∙ none, ap words e ∙ none)

pub one_word : (xs rest : List ℕ) → rest ≡ unspaced xs → (length (up_to 32 rest) ≡ 0 → ⊥)
    → words xs ≡ up_to 32 rest ∷ words (drop (length (up_to 32 rest)) rest)
one_word xs rest e h =
    subst (λ (s : List ℕ). words xs ≡ up_to 32 s ∷ words (drop (length (up_to 32 s)) s)) (sym e)
    (sym (words_unspaced xs) ∙ word_first xs (λ z. h (ap (λ (s : List ℕ). length (up_to 32 s)) e ∙ z)))

-- what stands before the first stop is a front
pub up_to_front : (stop : ℕ) (xs : List ℕ) → take (length (up_to stop xs)) xs ≡ up_to stop xs
up_to_front stop [] = refl
up_to_front stop (b ∷ bs) = go (up_to_front stop bs) (eqb b stop)
  where
    go : take (length (up_to stop bs)) bs ≡ up_to stop bs → (t : Bool)
        → take (length (cond t [] (b ∷ up_to stop bs))) (b ∷ bs) ≡ cond t [] (b ∷ up_to stop bs)
    go ih true = refl
    go ih false = ap (λ (s : List ℕ). b ∷ s) ih

-- how many bytes stand before the first stop
pub up_to_len : (stop : ℕ) (xs : List ℕ) → length (up_to stop xs) ≡ position_or_len (λ b. eqb b stop) xs
up_to_len stop = is_position_or_len (λ xs. length (up_to stop xs)) (λ b. eqb b stop) refl (λ b bs. go b bs (eqb b stop))
  where
    go : (b : ℕ) (bs : List ℕ) (t : Bool) → length (cond t [] (b ∷ up_to stop bs)) ≡ cond t 0 (1 + length (up_to stop bs))
    go b bs true = refl
    go b bs false = omega arith

-- what is left behind the spaces in front
pub unspaced_rest : (xs : List ℕ) → drop (prefix_len (λ b. eqb b 32) xs) xs ≡ unspaced xs
unspaced_rest [] = refl
unspaced_rest (b ∷ bs) = go (unspaced_rest bs) (eqb b 32)
  where
    go : drop (prefix_len (λ b. eqb b 32) bs) bs ≡ unspaced bs → (t : Bool)
        → drop (cond t (1 + prefix_len (λ b. eqb b 32) bs) 0) (b ∷ bs) ≡ cond t (unspaced bs) (b ∷ bs)
    go ih true = rw one-add ih
    go ih false = refl

-- the first word and what is left, as a program cuts them
pub word_found : (xs rest : List ℕ) (end : ℕ) → rest ≡ unspaced xs → end ≡ length (up_to 32 rest) → (end ≡ 0 → ⊥)
    → words xs ≡ take end rest ∷ words (drop end rest)
word_found xs rest end e v h =
    let word : up_to 32 rest ≡ take end rest = sym (up_to_front 32 rest) ∙ ap (λ (k : ℕ). take k rest) (sym v) in
    let left : drop (length (up_to 32 rest)) rest ≡ drop end rest = ap (λ (k : ℕ). drop k rest) (sym v) in
    one_word xs rest e (λ z. h (v ∙ z)) ∙ (λ i. word i ∷ words (left i))

-- Behind a line stands its line feed, or nothing: where no line feed begins the rest, the rest is empty.
no_feed : (xs : List ℕ) → pointwise eqb (take 1 (drop (length (up_to 10 xs)) xs)) (10 ∷ []) ≡ false → drop (length (up_to 10 xs)) xs ≡ []
no_feed [] h = refl
no_feed (b ∷ bs) h = go (no_feed bs) (eqb b 10) refl h
  where
    go : (pointwise eqb (take 1 (drop (length (up_to 10 bs)) bs)) (10 ∷ []) ≡ false → drop (length (up_to 10 bs)) bs ≡ [])
        → (t : Bool) → eqb b 10 ≡ t
        → pointwise eqb (take 1 (drop (length (cond t [] (b ∷ up_to 10 bs))) (b ∷ bs))) (10 ∷ []) ≡ false
        → drop (length (cond t [] (b ∷ up_to 10 bs))) (b ∷ bs) ≡ []
    go ih true e z = let two : pointwise eqb (b ∷ []) (10 ∷ []) ≡ true = ap (λ (t : Bool). t && true) e in cc
    go ih false e z = ih z

-- what is left when the line feed is taken off what stands behind a line
pub behind_line : (xs : List ℕ) (rest : Bor (List ℕ)) (left : Option (Bor (List ℕ))) → rest.now ≡ drop (length (up_to 10 xs)) xs
    → MatchOption left (pointwise eqb (take 1 rest.now) (10 ∷ []) ≡ false)
    (λ x. (pointwise eqb (take 1 rest.now) (10 ∷ []) ≡ true) × (x.now ≡ drop 1 rest.now) × (length x.now + 1 ≡ length rest.now))
    → (unwrap_or left rest).now ≡ drop (length (up_to 10 xs) + 1) xs
behind_line xs rest None e h =
    let none = no_feed xs (subst (λ (s : List ℕ). pointwise eqb (take 1 s) (10 ∷ []) ≡ false) e h) in
    e ∙ none ∙ sym (ap (drop 1) none) ∙ drop-drop 1 (length (up_to 10 xs)) xs
behind_line xs rest (Some x) e h = h.1 ∙ ap (drop 1) e ∙ drop-drop 1 (length (up_to 10 xs)) xs
