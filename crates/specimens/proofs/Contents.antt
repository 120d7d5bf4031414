-- What holds of each list that is spelled out, byte by byte, holds of every list of that length.
use Rattle.std.proofs.Common.{◌≡◌, ℕ, ◌<◌, true, eqb, List, map, length, get_or, sym, refl, subst}
use Rattle.std.specs.List.{range_with_len}
use Rattle.std.proofs.lemmas.List.FromFn.{fill_by_all}
use Rattle.std.proofs.lemmas.Bool.{eq-eqb}

-- the first n bytes of a row
abbrev pub spelled : (n : ℕ) → (ℕ → ℕ) → List ℕ
spelled n byte = map byte (range_with_len 0 n)

pub of_every : (P : List ℕ → Type 0) (n : ℕ) → ((byte : ℕ → ℕ) → P (spelled n byte)) → (s : List ℕ) → length s ≡ n → P s
of_every P n holds s size =
    let row : ℕ → ℕ = λ k. get_or s k 0 in
    let at : (k : ℕ) → k < n → get_or s k 0 ≡ row k = λ k below. refl in
    subst P (sym (fill_by_all row s n 0 size at)) (holds row)

pub of_every_two :
    (P : List ℕ → List ℕ → Type 0) (m n : ℕ) → ((a b : ℕ → ℕ) → P (spelled m a) (spelled n b))
    → (s t : List ℕ) → length s ≡ m → length t ≡ n → P s t
of_every_two P m n holds s t sized size =
    of_every (λ (x : List ℕ). P s x) n (λ b. of_every (λ (x : List ℕ). P x (spelled n b)) m (λ a. holds a b) s sized) t size

-- a token that the flow gave has its id
pub own : (id : ℕ) → eqb id id ≡ true
own id = eq-eqb id id refl
