-- Readings one after another.
use Rattle.std.proofs.Common.{◌≡◌, ℕ, ◌<◌, List, [], ◌∷◌, ◌++◌, length, replicate, Some, None, Ok, Err, Option, Result, sym, refl, ap, ◌∙◌, subst, arith}
use Rattle.std.proofs.lemmas.List.{length-replicate}
use Rattle.framing.specs.declared.slot.Slot.{Slot}
use Rattle.receiver.specs.Readings.{buffer_question}
use Rattle.receiver.specs.declared.answer.Reading.{Reading}
use Rattle.receiver.specs.declared.answer.Reading.TheVariants.{Nothing}
use Rattle.receiver.specs.declared.answer.BufferTooShort.{BufferTooShort}
use Rattle.flow.specs.Calls.{ReadingAnswer}
use Rattle.flow.specs.declared.flow.Flow.{Flow}
use Rattle.flow.proofs.Ending.{untold, answers_less}
use Rattle.script.specs.declared.reply.Answered.{Answered}
use Rattle.script.specs.declared.session.Session.{Session}
use Rattle.script.specs.Answers.{NotNothing}
use Rattle.script.specs.Steps.{ReadInto, ReadsOn}

module _
    {C K S : Type 0} (slots : C → List Slot) (space : C → ℕ) (made : List ℕ → Slot → Type 0) (tied : C → Type 0)
    (width : ℕ) (value : List ℕ → List ℕ) (verdict : S → List ℕ → Option ℕ)
  where
    -- and so a reading into a buffer that is long enough, and that does not answer nothing, leaves less to be told
    answered_less : (answer : Result Reading BufferTooShort) (before after : List ℕ) (old new : Flow C K S) → length before ≡ 2044
        → ReadingAnswer slots space tied width value verdict before after answer old new → (answer ≡ Ok Nothing → ⊥) → untold slots width new < untold slots width old
    answered_less (Ok r) before after old new size exact not = answers_less slots space tied width value verdict (Ok r) before after old new exact (λ e. not (ap Ok e))
    answered_less (Err e) before after old new size exact not =
        let no : ◌≡◌ {A = Option ℕ} (Some 8) None = exact.asked ∙ ap buffer_question size in
        let z : ◌≡◌ {A = ℕ} 0 1 = cc in
        absurd (omega arith)

    pub tells_one : (a : Answered) (old new : Session C K S) → ReadInto slots space made tied width value verdict (replicate 2044 0) a old new
        → NotNothing a → untold slots width new.flow < untold slots width old.flow
    tells_one a old new read some =
        answered_less a.answer (replicate 2044 0) read.after old.flow new.flow (length-replicate {A = ℕ} 2044 0) read.exact some

    -- one more reading
    pub reads_more : (answers : List Answered) (a : Answered) (old mid new : Session C K S) → ReadsOn slots space made tied width value verdict answers old mid
        → ReadInto slots space made tied width value verdict (replicate 2044 0) a mid new → ReadsOn slots space made tied width value verdict (answers ++ a ∷ []) old new
    reads_more [] a old mid new same read =
        (new, subst (λ (s : Session C K S). ReadInto slots space made tied width value verdict (replicate 2044 0) a s new) same read, refl)
    reads_more (b ∷ answers) a old mid new reads read = (reads.0, reads.1, reads_more answers a reads.0 mid new reads.2 read)

    -- one more reading of a drain, where `items` is the list with its answer
    pub drains_more : (answers items : List Answered) (a : Answered) (buffer : List ℕ) (old mid new : Session C K S) → items ≡ answers ++ a ∷ []
        → buffer ≡ replicate 2044 0 → ReadsOn slots space made tied width value verdict answers old mid → ReadInto slots space made tied width value verdict buffer a mid new → ReadsOn slots space made tied width value verdict items old new
    drains_more answers items a buffer old mid new items-are zeros reads read =
        subst (λ (l : List Answered). ReadsOn slots space made tied width value verdict l old new) (sym items-are)
        (reads_more answers a old mid new reads (subst (λ (b : List ℕ). ReadInto slots space made tied width value verdict b a mid new) zeros read))
