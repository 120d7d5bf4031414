-- What checking a reel answers.
use Rattle.std.specs.Prelude.{◌≡◌, ℕ, ◌+◌, ◌<◌, List, ◌++◌, length, Some, None, Ok, Err, Option, Result}
use Rattle.std.specs.List.{AllByRecursion}
use Rattle.reel.specs.declared.fault.ReelFault.{ReelFault}
use Rattle.reel.specs.Block.{Superframe, Fits, refusal}
use Rattle.reel.specs.Parts.{number, told_as}
use Rattle.reel.specs.Reel.{reel_of}

-- the number of the question answered no and the place of its block, or nothing
abbrev pub told : {T : Type 0} → Result T ReelFault → Option (ℕ × ℕ)
told (Ok _) = None
told (Err f) = Some (told_as f)

-- The same in the words of the format. Lawful: the reel is the blocks of some superframes, one after the other, and nothing else. Refused: it
-- begins with such blocks, and behind them, at the place that is told, stands something that answers the question of that number with no.
abbrev pub Means : {T : Type 0} → List ℕ → Result T ReelFault → Type 0
Means reel (Ok _) = (ss : List Superframe) × AllByRecursion Fits ss × (reel ≡ reel_of ss)
Means reel (Err f) =
    (ss : List Superframe)
    × (rest : List ℕ)
    × AllByRecursion Fits ss
    × (reel ≡ reel_of ss ++ rest)
    × (f.at ≡ length (reel_of ss) + 1)
    × (0 < length rest)
    × (refusal rest ≡ Some (number f.fault))
