-- A value that may be absent, whose own words are known, in words.
use Rattle.std.proofs.Common.{◌≡◌, List, ℕ, Some, None, Option, ap, refl}
use Rattle.std.specs.Fmt.{option_append}
use Rattle.spelling.specs.Optional.{optional_output, optional_words}

pub optional_known : {T : Type 0} (output : T → Option (List ℕ)) (words : T → List ℕ) → ((x : T) → output x ≡ Some (words x))
    → (before : List ℕ) (value : Option T) (absent : List ℕ)
    → optional_output output before value absent ≡ Some (optional_words words before value absent)
optional_known output words known before None absent = refl
optional_known output words known before (Some x) absent = ap (option_append (Some before)) (known x)
