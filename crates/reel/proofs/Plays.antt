-- Laws of a reel as a channel.
use Rattle.std.proofs.Common.{◌≡◌, ℕ, List, [], ◌∷◌, ◌++◌, map, length, Some, None, refl, ap, ap₂}
use Rattle.framing.specs.declared.slot.Slot.{Slot}
use Rattle.framing.specs.declared.slot.Slot.TheVariants.{Gap, Mark}
use Rattle.std.specs.List.{AllByRecursion}
use Rattle.std.proofs.lemmas.Bool.{cond-true, eq-eqb}
use Rattle.reel.specs.Block.{Superframe, Bytes, Frames, Fits}
use Rattle.reel.specs.Playing.{slot_of, part_of, reel_slots, part_slots}
use Rattle.reel.specs.Reel.{reading}
use Rattle.reel.proofs.Reels.{told_all}

-- whole frames are given as frames
whole_frames : (s : Superframe) → Frames s → map part_of s ≡ map slot_of s
whole_frames [] h = refl
whole_frames (None ∷ s) h = ap (λ (xs : List Slot). Gap ∷ xs) (whole_frames s h.1)
whole_frames (Some f ∷ s) h =
    ap₂ (λ (x : Slot) (xs : List Slot). x ∷ xs) (cond-true _ _ _ (eq-eqb (length f) 122 h.0.0)) (whole_frames s h.1)

whole_superframes : (ss : List Superframe) → AllByRecursion Fits ss → part_slots ss ≡ reel_slots ss
whole_superframes [] h = refl
whole_superframes (s ∷ ss) h =
    ap₂ (λ (xs ys : List Slot). (xs ++ Mark ∷ []) ++ ys) (whole_frames s h.0.frames) (whole_superframes ss h.1)

-- a reel has whole frames only
pub whole_reel : (reel : List ℕ) → Bytes reel → part_slots (reading reel).superframes ≡ reel_slots (reading reel).superframes
whole_reel reel are = whole_superframes (reading reel).superframes (told_all 1 reel are).fits
