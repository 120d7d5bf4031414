-- Questions put in turn: where all are answered yes, and what an answer tells of them.
use Rattle.std.proofs.Common.{◌≡◌, ℕ, Bool, true, false, cond, List, [], ◌∷◌, ◌++◌, Ok, Err, Result, refl}
use Rattle.service.specs.Asking.{Question, ask, AllYes}

one_yes : (b : Bool) (n : ℕ) (rest : Result (Unit {0}) ℕ) → cond b rest (Err n) ≡ Ok tt → (b ≡ true) × (rest ≡ Ok tt)
one_yes true n rest e = (refl, e)
one_yes false n rest e = cc e

pub yes_first : (q : Question) (qs : List Question) → AllYes (q ∷ qs) → (q.1 ≡ true) × AllYes qs
yes_first q qs e = one_yes q.1 q.0 (ask qs (tt {0})) e

pub yes_more : (q : Question) (qs : List Question) → q.1 ≡ true → AllYes qs → AllYes (q ∷ qs)
yes_more q qs first e = rw first e

pub yes_parts : (qs rs : List Question) → AllYes (qs ++ rs) → AllYes qs × AllYes rs
yes_parts [] rs e = (refl, e)
yes_parts (q ∷ qs) rs e =
    let first = yes_first q (qs ++ rs) e in
    let rest = yes_parts qs rs first.1 in
    (yes_more q qs first.0 rest.0, rest.1)

-- where the questions qs are answered yes, those after them decide
pub asked : {A : Type 0} (qs rs : List Question) (a : A) → AllYes qs → ask (qs ++ rs) a ≡ ask rs a
asked [] rs a e = refl
asked (q ∷ qs) rs a e = let first = yes_first q qs e in rw first.0 (asked qs rs a first.1)

-- and where none comes after them, there is no refusal
pub asked_all : {A : Type 0} (qs : List Question) (a : A) → AllYes qs → ask qs a ≡ Ok a
asked_all [] a e = refl
asked_all (q ∷ qs) a e = let first = yes_first q qs e in rw first.0 (asked_all qs a first.1)

one_answered : {A : Type 0} (b : Bool) (n : ℕ) (more : Result A ℕ) (rest : Result (Unit {0}) ℕ) (x y : A)
    → (more ≡ Ok y → (rest ≡ Ok tt) × (x ≡ y)) → cond b more (Err n) ≡ Ok y → (cond b rest (Err n) ≡ Ok tt) × (x ≡ y)
one_answered true n more rest x y f e = f e
one_answered false n more rest x y f e = cc e

-- an answer that is no refusal says that the questions were answered yes
pub answered : {A : Type 0} (qs : List Question) (a b : A) → ask qs a ≡ Ok b → AllYes qs × (a ≡ b)
answered [] a b e = (refl, cc)
answered (q ∷ qs) a b e = one_answered q.1 q.0 (ask qs a) (ask qs (tt {0})) a b (answered qs a b) e
