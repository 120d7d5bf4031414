use Rattle.std.specs.Prelude.{◌≡◌, Bool, List, [], ◌∷◌, length, refl}
use Rattle.std.proofs.Common.{arith}

pub empty : (m : List Bool) → length m ≡ 0 → m ≡ []
empty [] l = refl
empty (b ∷ m) l = let no_way : ⊥ = omega arith in absurd no_way
