-- What stands before a faulty block.
use Rattle.std.proofs.Common.{◌≡◌, ℕ, ◌+◌, ◌-◌, List, [], length, take, Some, None, Option, inl, inr, sym, refl, ap, ◌∙◌, subst, arith}
use Rattle.std.proofs.lemmas.List.{append-nil, take_at}
use Rattle.reel.specs.declared.counting.Contents.{Contents}
use Rattle.reel.specs.Block.{Superframe, Bytes}
use Rattle.reel.specs.Counting.{Counts}
use Rattle.reel.specs.Laws.{behind}
use Rattle.reel.specs.Reel.{Reading, reading, reel_of, ended}
use Rattle.reel.proofs.Readings.{reading_none}
use Rattle.reel.proofs.Reels.{told_all, written_reading}
use Rattle.console.specs.Examining.{Counted}

place_of : Option (ℕ × ℕ) → ℕ
place_of None = 0
place_of (Some stop) = stop.1

-- it is lawful, and holds what reading gave
pub before_fault : (reel : List ℕ) (q at : ℕ) (contents : Contents) → Bytes reel → (reading reel).stop ≡ Some (q, at)
    → Counts (reading reel).superframes contents → Counted (take (at - 1) reel) contents
unfolding place_of
before_fault reel q at contents are stop counts =
    let t = told_all 1 reel are in
    let ss = (reading reel).superframes in
    let front : take (at - 1) reel ≡ reel_of ss =
    elim t.stops [
      | inl w ↦ cc
      | inr w ↦
          let e : at ≡ 1 + length (reel_of ss) = ap place_of (sym stop ∙ w.3) in
          ap (take (at - 1)) t.whole ∙ take_at (reel_of ss) t.rest (at - 1) (omega arith)
    ] in
    let read : reading (take (at - 1) reel) ≡ behind ss ended =
    ap reading (front ∙ sym (append-nil (reel_of ss)))
    ∙ written_reading 1 ss [] t.fits
    ∙ ap (behind ss) (reading_none (1 + length (reel_of ss)) [] refl) in (
      ap (λ (r : Reading). r.stop) read,
      subst (λ (xs : List Superframe). Counts xs contents) (sym (ap (λ (r : Reading). r.superframes) read ∙ append-nil ss)) counts,
    )
