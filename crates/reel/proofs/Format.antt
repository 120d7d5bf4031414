-- The laws of the format and its worked examples, put together.
use Rattle.std.proofs.Common.{◌≡◌, ℕ, ◌+◌, ◌<◌, List, [], ◌++◌, length, take, drop, Some, None, sym, refl, ap, ◌∙◌, ⊎_elim, arith}
use Rattle.std.specs.List.{AllByRecursion}
use Rattle.std.proofs.lemmas.List.{append-nil, drop_at, length-append, length-drop, take_at}
use Rattle.reel.specs.Bits.{bits_of, bits}
use Rattle.reel.specs.Block.{Superframe, Bytes, Fits, block_of, block_size, superframe, refusal}
use Rattle.reel.specs.Laws.{WrittenRead, ReadWritten, FormatLaws, Examples}
use Rattle.reel.specs.Reel.{reading_from, reading, reel_of}
use Rattle.reel.proofs.Bits.{ones_counted}
use Rattle.reel.proofs.Questions.{lawful, within}
use Rattle.reel.proofs.Reels.{one_reading, told_all, written_reading}
use Rattle.reel.proofs.Writing.{read_fits, read_written, written_bytes, written_lawful, written_read, written_size}

a_written_block : (s : Superframe) (rest : List ℕ) → Fits s → WrittenRead s rest
a_written_block s rest fits =
    record {
      lawful = written_lawful s rest fits;
      same = written_read s rest fits;
      passed =
          ap (λ (n : ℕ). drop n (block_of s ++ rest)) (written_size s rest fits) ∙ drop_at (block_of s) rest (length (block_of s)) refl;
    }

a_read_block : (b : List ℕ) → Bytes b → refusal b ≡ None → ReadWritten b
a_read_block b are fine =
    let s = superframe b in
    let again = read_written b are fine in
    let whole = (within b (lawful b fine)).whole in
    let long : length (block_of s) ≡ block_size b =
    omega (arith, length-append (block_of s) (drop (block_size b) b), length-drop (block_size b) b, ap length again) in
    record {
      fits = read_fits b are fine;
      same = sym (take_at (block_of s) (drop (block_size b) b) (block_size b) long) ∙ ap (λ (xs : List ℕ). take (block_size b) xs) again;
    }

a_lawful_row : (reel : List ℕ) → Bytes reel → (reading reel).stop ≡ None
    → AllByRecursion Fits (reading reel).superframes × (reel ≡ reel_of (reading reel).superframes)
a_lawful_row reel are end =
    let t = told_all 1 reel are in
    let ss = (reading reel).superframes in (
      t.fits,
      t.whole
          ∙ ap (λ (xs : List ℕ). reel_of ss ++ xs)
          (⊎_elim
          (λ (e : ((reading reel).stop ≡ None) × (t.rest ≡ [])). e.1)
          (λ (e : (q : ℕ) × (0 < length t.rest) × (refusal t.rest ≡ Some q) × ((reading reel).stop ≡ Some (q, 1 + length (reel_of ss)))).
          let both = sym end ∙ e.3 in let z : ◌≡◌ {A = ℕ} 0 1 = cc in absurd (omega arith))
          t.stops)
          ∙ append-nil (reel_of ss),
    )

pub format_laws : FormatLaws
format_laws =
    record {
      bytes = written_bytes;
      written_read = a_written_block;
      read_written = a_read_block;
      counted = ones_counted;
      lawful_row = a_lawful_row;
      row_read = written_reading 1;
      one_reading = one_reading;
    }

pub examples : Examples
unfolding reading_from bits bits_of
examples = record { empty = refl; spare = refl }
