-- The faults of a block in words.
use Rattle.std.specs.Prelude.{ℕ, List, codes}
use Rattle.reel.specs.declared.fault.BlockFault.{BlockFault}
use Rattle.reel.specs.declared.fault.BlockFault.TheVariants.{SuperframeSize, Map, Frames}

abbrev pub fault_words : BlockFault → List ℕ
fault_words SuperframeSize = codes "does the superframe have from 1 to 200 frames?"
fault_words Map = codes "is the bit map all there, with its spare bits clear?"
fault_words Frames = codes "are the frames all there that the bit map names?"
