-- A reel is the row of its blocks, and can be read in one way only.
use Rattle.std.proofs.Common.{◌≡◌, ℕ, zero, suc, ◌+◌, ◌-◌, ◌<◌, ◌≤◌, ◌⊎◌, List, [], ◌∷◌, ◌++◌, length, get_or, drop, Some, None, Ok, Err, Option, Result, sym, refl, ap, ◌∙◌, subst, ap₂, inl, inr, ⊎_elim, append_assoc, arith, w8, Fits as Byte}
use Rattle.std.specs.List.{AllByRecursion}
use Rattle.std.proofs.ByRecursion.{All-drop, All-from_get_or}
use Rattle.std.proofs.lemmas.List.{append-nil, drop_at, length-append, length-drop, nil_from_length}
use Rattle.std.proofs.lemmas.Bool.{cases_lt}
use Rattle.reel.specs.declared.fault.ReelFault.{ReelFault}
use Rattle.reel.specs.Block.{Superframe, Bytes, Fits, block_of, block_size, superframe, refusal}
use Rattle.reel.specs.Checking.{told, Means}
use Rattle.reel.specs.Laws.{behind}
use Rattle.reel.specs.Parts.{number}
use Rattle.reel.specs.Reel.{Reading, before, reading_from, reading, reel_of}
use Rattle.reel.proofs.Questions.{lawful, within}
use Rattle.reel.proofs.Readings.{reading_none, reading_block, reading_stops}
use Rattle.reel.proofs.Writing.{read_fits, read_written, written_lawful, written_read, written_size}

-- what is written is read as it was written, and then what follows is read
pub written_reading : (place : ℕ) (ss : List Superframe) (rest : List ℕ) → AllByRecursion Fits ss
    → reading_from 0 place (reel_of ss ++ rest) ≡ behind ss (reading_from 0 (place + length (reel_of ss)) rest)
written_reading place [] rest fits = let e : place + 0 ≡ place = omega arith in ap (λ (p : ℕ). reading_from 0 p rest) (sym e)
written_reading place (s ∷ ss) rest fits =
    let later = reel_of ss ++ rest in
    let bytes = block_of s ++ later in
    let joint : (block_of s ++ reel_of ss) ++ rest ≡ bytes = append_assoc (block_of s) (reel_of ss) rest in
    let some : 0 < length bytes = omega arith in
    let size = written_size s later fits.0 in
    let far : place + length (block_of s) + length (reel_of ss) ≡ place + length (block_of s ++ reel_of ss) = simp length-append (omega arith) in
    ap (reading_from 0 place) joint
    ∙ reading_block place bytes some (written_lawful s later fits.0)
    ∙ ap₂ before (written_read s later fits.0)
    (ap (λ (n : ℕ). reading_from 0 (place + n) (drop n bytes)) size
    ∙ ap (reading_from 0 (place + length (block_of s))) (drop_at (block_of s) later (length (block_of s)) refl)
    ∙ written_reading (place + length (block_of s)) ss rest fits.1
    ∙ ap (λ (p : ℕ). behind ss (reading_from 0 p rest)) far)

-- What reading tells of the bytes: the blocks of its superframes stand at their beginning, and behind them is nothing, or a block that
-- answers a question with no.
pub record Told (place : ℕ) (bytes : List ℕ) (r : Reading) : Type 0 where
  pub fits : AllByRecursion Fits r.superframes
  pub rest : List ℕ
  pub whole : bytes ≡ reel_of r.superframes ++ rest
  pub stops : (r.stop ≡ None × rest ≡ []) ⊎ ((q : ℕ) × (0 < length rest) × (refusal rest ≡ Some q) × (r.stop ≡ Some (q, place + length (reel_of r.superframes))))

told_none : (place : ℕ) (bytes : List ℕ) → length bytes ≡ 0 → Told place bytes (reading_from 0 place bytes)
told_none place bytes none =
    subst (Told place bytes) (sym (reading_none place bytes none))
    (record { fits = tt; rest = []; whole = nil_from_length bytes none; stops = inl (refl, refl) })

told_stop : (place q : ℕ) (bytes : List ℕ) → 0 < length bytes → refusal bytes ≡ Some q → Told place bytes (reading_from 0 place bytes)
told_stop place q bytes some no' =
    let e : place ≡ place + 0 = omega arith in
    subst (Told place bytes) (sym (reading_stops place q bytes some no'))
    (record { fits = tt; rest = bytes; whole = refl; stops = inr (q, some, no', ap (λ (p : ℕ). Some (q, p)) e) })

told_block : (place : ℕ) (bytes : List ℕ) → 0 < length bytes → Bytes bytes → refusal bytes ≡ None
    → Told (place + block_size bytes) (drop (block_size bytes) bytes) (reading_from 0 (place + block_size bytes) (drop (block_size bytes) bytes))
    → Told place bytes (reading_from 0 place bytes)
told_block place bytes some are yes' later =
    let r = reading_from 0 (place + block_size bytes) (drop (block_size bytes) bytes) in
    let s = superframe bytes in
    let again = read_written bytes are yes' in
    let within' = (within bytes (lawful bytes yes')).whole in
    let long : length (block_of s) + (length bytes - block_size bytes) ≡ length bytes =
    ap (λ (n : ℕ). length (block_of s) + n) (sym (length-drop (block_size bytes) bytes)) ∙ sym (length-append (block_of s) (drop (block_size bytes) bytes)) ∙ ap length again in
    let far : place + block_size bytes + length (reel_of r.superframes) ≡ place + length (block_of s ++ reel_of r.superframes) = omega (arith, length-append (block_of s) (reel_of r.superframes)) in
    subst (Told place bytes) (sym (reading_block place bytes some yes'))
    (record {
      fits = (read_fits bytes are yes', later.fits);
      rest = later.rest;
      whole = sym again ∙ ap (λ (xs : List ℕ). block_of s ++ xs) later.whole ∙ sym (append_assoc (block_of s) (reel_of r.superframes) later.rest);
      stops = ⊎_elim
          (λ (end : (r.stop ≡ None) × (later.rest ≡ [])). inl end)
          (λ (end : (q : ℕ) × (0 < length later.rest) × (refusal later.rest ≡ Some q) × (r.stop ≡ Some (q, place + block_size bytes + length (reel_of r.superframes)))).
          inr (end.0, end.1, end.2, end.3 ∙ ap (λ (p : ℕ). Some (end.0, p)) far))
          later.stops;
    })

told_within : (most place : ℕ) (bytes : List ℕ) → length bytes ≤ most → Bytes bytes → Told place bytes (reading_from 0 place bytes)
told_within zero place bytes short are = told_none place bytes (omega arith)
told_within (suc most) place bytes short are =
    ⊎_elim
    (λ (some : 0 < length bytes). go (told_within most (place + block_size bytes) (drop (block_size bytes) bytes)) some (refusal bytes) refl)
    (λ (none : length bytes ≤ 0). told_none place bytes (omega arith))
    (cases_lt 0 (length bytes))
  where
    go : (length (drop (block_size bytes) bytes) ≤ most → Bytes (drop (block_size bytes) bytes) → Told (place + block_size bytes) (drop (block_size bytes) bytes) (reading_from 0 (place + block_size bytes) (drop (block_size bytes) bytes)))
        → 0 < length bytes → (o : Option ℕ) → refusal bytes ≡ o → Told place bytes (reading_from 0 place bytes)
    go later some None e =
        told_block place bytes some are e (later (simp length-drop (omega arith)) (All-drop (λ b. b < 256) (block_size bytes) bytes are))
    go later some (Some q) e = told_stop place q bytes some e

pub told_all : (place : ℕ) (bytes : List ℕ) → Bytes bytes → Told place bytes (reading_from 0 place bytes)
told_all place bytes are = told_within (length bytes) place bytes (omega arith) are

-- ---- what follows

-- what a slice of bytes holds is bytes
pub bytes_of : (xs : List ℕ) → ((i : ℕ) → Byte w8 (get_or xs i 0)) → Bytes xs
bytes_of xs typed = All-from_get_or (λ b. b < 256) xs 0 (λ i _. (typed i).fits)

-- the answer of a check, in the words of the format
pub answer_means : {T : Type 0} (reel : List ℕ) (r : Result T ReelFault) → Bytes reel → told r ≡ (reading reel).stop → Means reel r
answer_means reel (Ok x) are e =
    let t = told_all 1 reel are in
    ⊎_elim
    (λ (end : ((reading reel).stop ≡ None) × (t.rest ≡ [])).
    ((reading reel).superframes, t.fits, t.whole ∙ ap (λ (xs : List ℕ). reel_of (reading reel).superframes ++ xs) end.1 ∙ append-nil (reel_of (reading reel).superframes)))
    (λ (end : (q : ℕ) × (0 < length t.rest) × (refusal t.rest ≡ Some q) × ((reading reel).stop ≡ Some (q, 1 + length (reel_of (reading reel).superframes)))).
    let both = e ∙ end.3 in let z : ◌≡◌ {A = ℕ} 0 1 = cc in absurd (omega arith))
    t.stops
answer_means reel (Err f) are e =
    let t = told_all 1 reel are in
    ⊎_elim
    (λ (end : ((reading reel).stop ≡ None) × (t.rest ≡ [])). let both = e ∙ end.0 in let z : ◌≡◌ {A = ℕ} 0 1 = cc in absurd (omega arith))
    (λ (end : (q : ℕ) × (0 < length t.rest) × (refusal t.rest ≡ Some q) × ((reading reel).stop ≡ Some (q, 1 + length (reel_of (reading reel).superframes)))).
    let both = e ∙ end.3 in
    let same : ◌≡◌ {A = ℕ × ℕ} (number f.fault, f.at) (end.0, 1 + length (reel_of (reading reel).superframes)) = cc in
    let first = ap (λ (p : ℕ × ℕ). p.0) same in
    let second = ap (λ (p : ℕ × ℕ). p.1) same in (
      (reading reel).superframes,
      t.rest,
      t.fits,
      t.whole,
      omega arith,
      end.1,
      end.2 ∙ ap Some (sym first),
    ))
    t.stops

-- one reading only
pub one_reading : (ss ts : List Superframe) → AllByRecursion Fits ss → AllByRecursion Fits ts → reel_of ss ≡ reel_of ts → ss ≡ ts
one_reading ss ts fits fits' e =
    sym (gives ss fits) ∙ ap (λ (reel : List ℕ). (reading (reel ++ [])).superframes) e ∙ gives ts fits'
  where
    gives : (us : List Superframe) → AllByRecursion Fits us → (reading (reel_of us ++ [])).superframes ≡ us
    gives us ok =
        ap (λ (r : Reading). r.superframes) (written_reading 1 us [] ok ∙ ap (behind us) (reading_none (1 + length (reel_of us)) [] refl)) ∙ append-nil us
