-- Why the readings of a flow come to an end: one that does not answer nothing leaves less to be told.
use Rattle.std.proofs.Common.{◌≡◌, ℕ, ◌<◌, Bool, List, ◌∷◌, ◌++◌, length, Some, None, Option, Ok, Err, Result, IfOk, ◌≢◌, refl, ap, ap₂, ◌∙◌, arith}
use Rattle.framing.specs.declared.slot.Slot.{Slot}
use Rattle.receiver.specs.Answering.{answer_to, nothing}
use Rattle.receiver.specs.Reading.{Reader, Told, listed, owed}
use Rattle.receiver.specs.Readings.{said}
use Rattle.receiver.specs.Views.{view}
use Rattle.receiver.specs.declared.answer.Reading.{Reading}
use Rattle.receiver.specs.declared.answer.Reading.TheVariants.{Sound, Damaged, Foreign, Short, Lost, Torn, Mark, Nothing}
use Rattle.receiver.specs.declared.answer.BufferTooShort.{BufferTooShort}
use Rattle.receiver.specs.declared.terms.Terms.{Terms}
use Rattle.receiver.proofs.Folds.{takes_first}
use Rattle.flow.specs.Calls.{ReadingAnswer, outcome}
use Rattle.flow.specs.declared.flow.Flow.{Flow}

-- what says nothing is the answer nothing
nothing_said : (a : Reading) (buffer : List ℕ) → said a buffer ≡ nothing → a ≡ Nothing
nothing_said (Sound len) buffer e = let z : ◌≡◌ {A = ℕ} 0 1 = cc in absurd (omega arith)
nothing_said (Damaged len) buffer e = let z : ◌≡◌ {A = ℕ} 0 1 = cc in absurd (omega arith)
nothing_said (Foreign number len) buffer e = let z : ◌≡◌ {A = ℕ} 0 1 = cc in absurd (omega arith)
nothing_said Short buffer e = let z : ◌≡◌ {A = ℕ} 0 1 = cc in absurd (omega arith)
nothing_said (Lost frame dropped) buffer e = let z : ◌≡◌ {A = ℕ} 0 1 = cc in absurd (omega arith)
nothing_said (Torn frame dropped torn) buffer e = let z : ◌≡◌ {A = ℕ} 0 1 = cc in absurd (omega arith)
nothing_said (Mark dropped) buffer e = let z : ◌≡◌ {A = ℕ} 0 1 = cc in absurd (omega arith)
nothing_said Nothing buffer e = refl

-- what is still to be told, by the rules
abbrev pub untold : {C K S : Type 0} (slots : C → List Slot) (width : ℕ) → Flow C K S → ℕ
untold slots width f = length (owed f.terms.fasb width (view f.reader) (slots f.channel))

module _
    {C K S : Type 0} (slots : C → List Slot) (space : C → ℕ) (tied : C → Type 0)
    (width : ℕ) (value : List ℕ → List ℕ) (verdict : S → List ℕ → Option ℕ)
  where
    -- where something was told, less is to be told
    falls : (a : Reading) (before after : List ℕ) (old new : Flow C K S) → ReadingAnswer slots space tied width value verdict before after (Ok a) old new
        → (a ≡ Nothing → ⊥) → (told : Option Told) → (outcome slots width old).told ≡ told
        → untold slots width new < untold slots width old
    falls a before after old new exact not None is =
        absurd (not (nothing_said a after (exact.says ∙ ap (answer_to width value (verdict old.terms.service)) is)))
    falls a before after old new exact not (Some t) is =
        let rest : List Told = owed old.terms.fasb width (outcome slots width old).reader (slots new.channel) in
        let first : owed old.terms.fasb width (view old.reader) (slots old.channel) ≡ t ∷ rest =
        takes_first old.terms.fasb width (view old.reader) (slots old.channel) (slots new.channel) exact.takes
        ∙ ap (λ (o : Option Told). listed o ++ rest) is in
        let long = ap length first in
        let here : untold slots width new ≡ length rest =
        ap₂ (λ (b : Bool) (r : Reader). length (owed b width r (slots new.channel))) (ap (λ (t : Terms K S). t.fasb) exact.steady.terms) exact.leaves in
        omega arith

    -- a reading that was accepted, and that does not answer nothing, leaves less to be told
    pub answers_less : (answer : Result Reading BufferTooShort) (before after : List ℕ) (old new : Flow C K S)
        → ReadingAnswer slots space tied width value verdict before after answer old new
        → IfOk answer (λ a. a ≢ Nothing → untold slots width new < untold slots width old)
    answers_less (Ok a) before after old new exact = λ not. falls a before after old new exact not (outcome slots width old).told refl
    answers_less (Err e) before after old new exact = tt
