-- A word names the command or the option that is found by it.
use Rattle.std.proofs.Common.{◌≡◌, ◌≢◌, ℕ, Bool, true, false, cond, Decides, List, [], ◌∷◌, Some, None, Option, MatchOption, codes, inl, sym, refl, rules}
use Rattle.std.specs.List.{find, AllByRecursion}
use Rattle.std.specs.Str.{bytes_eq}
use Rattle.std.proofs.lemmas.Bool.{true≢false}
use Rattle.std.proofs.lemmas.Slice.Eq.{bytes_eq-Decides}
use Rattle.console.specs.declared.verb.Verb.{Verb}
use Rattle.console.specs.declared.verb.Verb.TheVariants.{Catalogue, Extract, Map, Verify, Frames, Header, Play}
use Rattle.console.specs.declared.verb.Switch.{Switch}
use Rattle.console.specs.declared.verb.Switch.TheVariants.{Fasb, Checksum, Service, Json, Out, Progress, Help, Version}
use Rattle.console.specs.Verbs.{verb_word, switch_word, VerbNamed, SwitchNamed}

-- what a search by word finds among things that have words
pub found : {T : Type 0} (word_of : T → List ℕ) (word : List ℕ) (things : List T)
    → MatchOption (find (λ x. bytes_eq (word_of x) word) things) (AllByRecursion (λ x. word ≢ word_of x) things) (λ x. word ≡ word_of x)
found word_of word [] = tt
found {T} word_of word (x ∷ things) =
    go (bytes_eq (word_of x) word) (search (rules, bytes_eq-Decides)) (find (λ y. bytes_eq (word_of y) word) things) (found word_of word things)
  where
    go : (b : Bool) → Decides b (word_of x ≡ word) → (r : Option T)
        → MatchOption r (AllByRecursion (λ y. word ≢ word_of y) things) (λ y. word ≡ word_of y)
        → MatchOption (cond b (Some x) r) (AllByRecursion (λ y. word ≢ word_of y) (x ∷ things)) (λ y. word ≡ word_of y)
    go true is r rest = sym (is.0 refl)
    go false is None rest = (λ (e : word ≡ word_of x). absurd (true≢false (sym (is.1 (sym e)))), rest)
    go false is (Some y) rest = rest

-- ---- the commands

abbrev pub verbs : List Verb
verbs = Catalogue ∷ Extract ∷ Map ∷ Verify ∷ Frames ∷ Header ∷ Play ∷ []

named_from : (word : List ℕ) (r : Option Verb) → MatchOption r (AllByRecursion (λ x. word ≢ verb_word x) verbs) (λ x. word ≡ verb_word x) → VerbNamed word r
named_from word None others = λ verb. elim verb as (λ v. word ≢ verb_word v) [
  | Catalogue ↦ others.0
  | Extract ↦ others.1.0
  | Map ↦ others.1.1.0
  | Verify ↦ others.1.1.1.0
  | Frames ↦ others.1.1.1.1.0
  | Header ↦ others.1.1.1.1.1.0
  | Play ↦ others.1.1.1.1.1.1.0
]
named_from word (Some verb) is = is

pub verb_found : (word : List ℕ) → VerbNamed word (find (λ verb. bytes_eq (verb_word verb) word) verbs)
verb_found word = named_from word (find (λ verb. bytes_eq (verb_word verb) word) verbs) (found verb_word word verbs)

-- ---- the options

abbrev pub switches : List Switch
switches = Fasb ∷ Checksum ∷ Service ∷ Json ∷ Out ∷ Progress ∷ Help ∷ Version ∷ []

option_from : (word : List ℕ) (r : Option Switch) → word ≢ codes "-h"
    → MatchOption r (AllByRecursion (λ x. word ≢ switch_word x) switches) (λ x. word ≡ switch_word x) → SwitchNamed word r
option_from word None long others = (
  λ switch. elim switch as (λ s. word ≢ switch_word s) [
    | Fasb ↦ others.0
    | Checksum ↦ others.1.0
    | Service ↦ others.1.1.0
    | Json ↦ others.1.1.1.0
    | Out ↦ others.1.1.1.1.0
    | Progress ↦ others.1.1.1.1.1.0
    | Help ↦ others.1.1.1.1.1.1.0
    | Version ↦ others.1.1.1.1.1.1.1.0
  ],
  long,
)
option_from word (Some switch) long is = inl is

pub switch_found : (word : List ℕ) → word ≢ codes "-h" → SwitchNamed word (find (λ switch. bytes_eq (switch_word switch) word) switches)
switch_found word long =
    option_from word (find (λ switch. bytes_eq (switch_word switch) word) switches) long (found switch_word word switches)
