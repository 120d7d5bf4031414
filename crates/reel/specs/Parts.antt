-- What the calls that read a block answer.
use Rattle.std.specs.Prelude.{◌≡◌, ℕ, List, ◌++◌, take, drop, Some, None, Ok, Err, Result}
use Rattle.reel.specs.declared.block.Block.{Block}
use Rattle.reel.specs.declared.fault.BlockFault.{BlockFault}
use Rattle.reel.specs.declared.fault.BlockFault.TheVariants.{SuperframeSize, Map, Frames}
use Rattle.reel.specs.declared.fault.ReelFault.{ReelFault}
use Rattle.reel.specs.Bits.{bits}
use Rattle.reel.specs.Block.{Superframe, Fits, block_of, dealt, size, map_part, frames_part, block_size, superframe, refusal}

-- the number of each question
abbrev pub number : BlockFault → ℕ
number SuperframeSize = 21
number Map = 22
number Frames = 23

-- a fault, told by the number of its question and the place of its block
abbrev pub told_as : ReelFault → ℕ × ℕ
told_as f = (number f.fault, f.at)

-- what a block holds
abbrev pub held : Block → Superframe
held b = dealt (take b.size (bits b.map.now)) b.frames.now

-- the block in front of these bytes, the first of which has this place
pub record Parts (bytes : List ℕ) (place : ℕ) (b : Block) : Type 0 where
  pub at : b.at ≡ place
  pub size : b.size ≡ size bytes
  pub map : b.map.now ≡ map_part bytes
  pub frames : b.frames.now ≡ frames_part bytes

-- the bytes begin with what is written for the superframe that is read from them
pub record Written (bytes : List ℕ) : Type 0 where
  pub fits : Fits (superframe bytes)
  pub again : bytes ≡ block_of (superframe bytes) ++ drop (block_size bytes) bytes

-- the answer where one block is read
abbrev pub Read : List ℕ → ℕ → Result Block BlockFault → Type 0
Read bytes place (Ok b) = (refusal bytes ≡ None) × Parts bytes place b × Written bytes
Read bytes place (Err fault) = refusal bytes ≡ Some (number fault)
