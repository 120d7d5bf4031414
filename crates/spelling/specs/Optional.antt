-- A value that may be absent, in words.
use Rattle.std.specs.Prelude.{ℕ, List, ◌++◌, Some, None, Option}
use Rattle.std.specs.Fmt.{option_append}

-- What is printed: a text and then the value, or what stands where there is none. Where the value's own output is not
-- known, nothing is known of it.
abbrev pub optional_output : {T : Type 0} → (T → Option (List ℕ)) → List ℕ → Option T → List ℕ → Option (List ℕ)
optional_output output before None absent = Some absent
optional_output output before (Some x) absent = option_append (Some before) (output x)

-- the same, of a value whose words are known
abbrev pub optional_words : {T : Type 0} → (T → List ℕ) → List ℕ → Option T → List ℕ → List ℕ
optional_words words before None absent = absent
optional_words words before (Some x) absent = before ++ words x
