-- The laws of the reel format, and its worked examples.
use Rattle.std.specs.Prelude.{◌≡◌, ℕ, ◌+◌, List, [], ◌∷◌, ◌++◌, map, length, take, drop, Some, None, sum, count_ones}
use Rattle.std.specs.List.{AllByRecursion}
use Rattle.reel.specs.Bits.{bits, count_of_set_bits}
use Rattle.reel.specs.Block.{Superframe, Bytes, Fits, block_of, block_size, superframe, refusal}
use Rattle.reel.specs.Reel.{Reading, reading_from, reading, reel_of}

-- A block that was written, whatever follows it: no question is answered no, reading gives the superframe that was written, and passes just the block.
pub record WrittenRead (s : Superframe) (rest : List ℕ) : Type 0 where
  pub lawful : refusal (block_of s ++ rest) ≡ None
  pub same : superframe (block_of s ++ rest) ≡ s
  pub passed : drop (block_size (block_of s ++ rest)) (block_of s ++ rest) ≡ rest

-- A block that was read: a superframe that a block can hold, and the block written for it is the very bytes.
pub record ReadWritten (bytes : List ℕ) : Type 0 where
  pub fits : Fits (superframe bytes)
  pub same : block_of (superframe bytes) ≡ take (block_size bytes) bytes

-- superframes, and then what else was read
abbrev pub behind : List Superframe → Reading → Reading
behind ss rest = record { superframes = ss ++ rest.superframes; stop = rest.stop }

pub record FormatLaws : Type 0 where
  -- writing makes bytes
  pub bytes : (s : Superframe) → Fits s → Bytes (block_of s)
  -- writing and reading a block undo each other
  pub written_read : (s : Superframe) (rest : List ℕ) → Fits s → WrittenRead s rest
  pub read_written : (b : List ℕ) → Bytes b → refusal b ≡ None → ReadWritten b
  -- the frames of a block are as many as the ones of its map's bytes
  pub counted : (m : List ℕ) → Bytes m → count_of_set_bits (bits m) ≡ sum (map count_ones m)
  -- a reel that is read to its end is the row of its blocks
  pub lawful_row : (reel : List ℕ) → Bytes reel → (reading reel).stop ≡ None
      → AllByRecursion Fits (reading reel).superframes × (reel ≡ reel_of (reading reel).superframes)
  -- a row of blocks gives its superframes, and then what stands behind them is read
  pub row_read : (ss : List Superframe) (rest : List ℕ) → AllByRecursion Fits ss
      → reading (reel_of ss ++ rest) ≡ behind ss (reading_from 0 (1 + length (reel_of ss)) rest)
  -- a reel has one reading only
  pub one_reading : (ss ts : List Superframe) → AllByRecursion Fits ss → AllByRecursion Fits ts → reel_of ss ≡ reel_of ts → ss ≡ ts

-- the empty reel is lawful; 0x02 0x04, a superframe of two with a bit for a third, is refused by 22 at its first byte
pub record Examples : Type 0 where
  pub empty : (reading []).stop ≡ None
  pub spare : (reading (0x02 ∷ 0x04 ∷ [])).stop ≡ Some (22, 1)
