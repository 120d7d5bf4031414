-- What it means that a checksum detects every change within one stretch. Assumes nothing.
use Rattle.std.specs.Prelude.{◌≡◌, ℕ, ◌<◌, ◌≢◌, List, ◌++◌}
use Rattle.checksum.specs.Stretch.{bits, ChangedInOneStretch}

-- The law. A string s with its value became the string t with the value v, changed within one stretch of at most
-- `reach` bits: then v is not the value of t. The bits run through the string and then through the value.
abbrev pub Detects : ℕ → (List ℕ → List ℕ) → Type 0
Detects reach value =
    (s t v : List ℕ) → ChangedInOneStretch reach (bits (s ++ value s)) (bits (t ++ v)) → value t ≢ v

-- the value of each string fits every other string
abbrev pub FitsEverything : (List ℕ → List ℕ) → Type 0
FitsEverything value = (s t : List ℕ) → value t ≡ value s

-- a checksum that fits everything keeps the law at no reach above 0
abbrev pub FitsEverythingDetectsNothing : Type 0
FitsEverythingDetectsNothing =
    (value : List ℕ → List ℕ) → FitsEverything value → (reach : ℕ) → 0 < reach → Detects reach value → ⊥
