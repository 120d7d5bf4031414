-- A reel: a row of blocks, one for each superframe.
use Rattle.std.specs.Prelude.{ℕ, zero, suc, ◌+◌, ◌-◌, List, [], ◌∷◌, Some, None, Option}
use Rattle.std.specs.List.{flat_map}
use Rattle.reel.specs.Block.{Superframe, block_of, block_size, superframe, refusal}

-- writing: the blocks, one after the other
abbrev pub reel_of : List Superframe → List ℕ
reel_of = flat_map block_of

-- What reading a reel gives: the superframes of its lawful blocks up to the first question answered no, and where reading stopped: nothing at the
-- reel's end, else the number of that question and the place of its block's first byte, counted from 1.
pub record Reading : Type 0 where
  pub superframes : List Superframe
  pub stop : Option (ℕ × ℕ)

-- at the reel's end
abbrev pub ended : Reading
ended = record { superframes = []; stop = None }

-- where the block at this place answers the question of this number with no
abbrev pub stopped : ℕ → ℕ → Reading
stopped number place = record { superframes = []; stop = Some (number, place) }

-- a superframe, and then the rest
abbrev pub before : Superframe → Reading → Reading
before s rest = record { superframes = s ∷ rest.superframes; stop = rest.stop }

-- a block at a place, which is refused or not, and what reading gives behind it
abbrev pub onward : Option ℕ → ℕ → Superframe → Reading → Reading
onward None place s rest = before s rest
onward (Some number) place s rest = stopped number place

-- Reading byte by byte: the first number says how many bytes of the block in hand are still to be passed over, the second is the
-- place of the next byte.
unfoldable pub reading_from : ℕ → ℕ → List ℕ → Reading
reading_from over place [] = ended
reading_from (suc over) place (b ∷ bytes) = reading_from over (place + 1) bytes
reading_from zero place (b ∷ bytes) =
    onward (refusal (b ∷ bytes)) place (superframe (b ∷ bytes)) (reading_from (block_size (b ∷ bytes) - 1) (place + 1) bytes)

abbrev pub reading : List ℕ → Reading
reading reel = reading_from 0 1 reel
