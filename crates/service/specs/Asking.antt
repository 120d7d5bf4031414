-- Questions with their numbers, put in turn. Assumes nothing.
use Rattle.std.specs.Prelude.{◌≡◌, ℕ, Bool, cond, List, [], ◌∷◌, Ok, Err, Result}

-- a number, and whether its question is answered yes
abbrev pub Question : Type 0
Question = ℕ × Bool

-- the first question answered no refuses with its number; where none is, a is the answer
abbrev pub ask : {A : Type 0} → List Question → A → Result A ℕ
ask [] a = Ok a
ask (q ∷ qs) a = cond q.1 (ask qs a) (Err q.0)

-- every question is answered yes
abbrev pub AllYes : List Question → Type 0
AllYes qs = ask qs (tt {0}) ≡ Ok (tt {0})
