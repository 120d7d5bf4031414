-- Walking over the blocks of a reel.
use Rattle.std.specs.Prelude.{◌≡◌, ℕ, ◌+◌, ◌<◌, List, [], ◌++◌, length, drop, Some, None, Ok, Err, Option, Result}
use Rattle.reel.specs.declared.block.Block.{Block}
use Rattle.reel.specs.declared.blocks.Blocks.{Blocks}
use Rattle.reel.specs.declared.fault.ReelFault.{ReelFault}
use Rattle.reel.specs.Block.{Fits, block_of, block_size, refusal}
use Rattle.reel.specs.Parts.{number, held, Parts}
use Rattle.reel.specs.Reel.{Reading, ended, before, stopped, reading_from}

-- the bytes that are still ahead
abbrev pub ahead : Blocks → List ℕ
ahead s = drop s.passed s.reel.now

-- the walk, with so many bytes passed
abbrev pub moved : Blocks → ℕ → Blocks
moved s n = record { reel = s.reel; passed = n }

-- one step: nothing at the reel's end; else the block in front of what is ahead, which is passed, or why it is not lawful, and then nothing is ahead
abbrev pub Next : Blocks → Option (Result Block ReelFault) → Blocks → Type 0
Next s None t = (ahead s ≡ []) × (t ≡ s)
Next s (Some (Ok b)) t =
    (0 < length (ahead s))
    × (refusal (ahead s) ≡ None)
    × Parts (ahead s) (s.passed + 1) b
    × (t ≡ moved s (s.passed + block_size (ahead s)))
Next s (Some (Err f)) t =
    (0 < length (ahead s))
    × (refusal (ahead s) ≡ Some (number f.fault))
    × (f.at ≡ s.passed + 1)
    × (t ≡ moved s (length s.reel.now))

-- what reading gives of the bytes that are still ahead
abbrev pub to_read : Blocks → Reading
to_read s = reading_from 0 (s.passed + 1) (ahead s)

-- What a step says of the reel. Where a block came, it holds 1 to 200 frames and gaps, what was ahead is the bytes that are written for these,
-- and then what is ahead now.
abbrev pub Reads : Blocks → Option (Result Block ReelFault) → Blocks → Type 0
Reads s None t = to_read s ≡ ended
Reads s (Some (Ok b)) t =
    Fits (held b) × (ahead s ≡ block_of (held b) ++ ahead t) × (to_read s ≡ before (held b) (to_read t))
Reads s (Some (Err f)) t = to_read s ≡ stopped (number f.fault) f.at
