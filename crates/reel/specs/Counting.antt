-- What a reel holds, counted.
use Rattle.std.specs.Prelude.{◌≡◌, ℕ, ◌+◌, ◌-◌, List, [], ◌∷◌, length, Some, None}
use Rattle.reel.specs.declared.counting.Contents.{Contents}
use Rattle.reel.specs.Block.{Superframe}

-- how many frames of a superframe are there, and how many were lost
abbrev pub frame_count : Superframe → ℕ
frame_count [] = 0
frame_count (Some f ∷ s) = 1 + frame_count s
frame_count (None ∷ s) = frame_count s

abbrev pub gap_count : Superframe → ℕ
gap_count [] = 0
gap_count (Some f ∷ s) = gap_count s
gap_count (None ∷ s) = 1 + gap_count s

-- the sum over all superframes
abbrev pub total : (Superframe → ℕ) → List Superframe → ℕ
total f [] = 0
total f (s ∷ ss) = f s + total f ss

-- a count with one superframe more, which has so many frames, and with its gaps so many slots
abbrev pub one_more : Contents → ℕ → ℕ → Contents
one_more c slots frames = record { superframes = c.superframes + 1; frames = c.frames + frames; gaps = c.gaps + (slots - frames) }

-- what these superframes hold, counted
pub record Counts (ss : List Superframe) (c : Contents) : Type 0 where
  pub superframes : c.superframes ≡ length ss
  pub frames : c.frames ≡ total frame_count ss
  pub gaps : c.gaps ≡ total gap_count ss
