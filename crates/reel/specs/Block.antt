-- One block of a reel: what it holds, the bytes it is written in, and how the bytes are read.
use Rattle.std.specs.Prelude.{◌≡◌, ℕ, ◌+◌, ◌*◌, ◌<◌, ◌≤◌, Bool, true, false, cond, ◌&&◌, List, [], ◌∷◌, ◌++◌, map, length, take, drop, is_some, IfSome, Some, None, Option, nat_le, slice_index}
use Rattle.std.specs.List.{AllByRecursion}
use Rattle.reel.specs.Bits.{bits, map_of, size_of_map, count_of_set_bits, all_clear}

-- ---- what a block holds

-- A superframe: for each of its frames, in order, the frame's bytes, or nothing where the frame was lost and left a gap.
abbrev pub Superframe : Type 0
Superframe = List (Option (List ℕ))

-- bytes, and not larger numbers
abbrev pub Bytes : List ℕ → Type 0
Bytes = AllByRecursion (λ b. b < 256)

-- a frame is 122 bytes
abbrev pub IsFrame : List ℕ → Type 0
IsFrame f = (length f ≡ 122) × Bytes f

-- what is there of a superframe is frames
abbrev pub Frames : Superframe → Type 0
Frames = AllByRecursion (λ slot. IfSome slot IsFrame)

-- a superframe that a block can hold: 1 to 200 frames and gaps
pub record Fits (s : Superframe) : Type 0 where
  pub some : 1 ≤ length s
  pub most : length s ≤ 200
  pub frames : Frames s

-- ---- writing

-- the frames that are there, one after the other
abbrev pub frame_bytes : Superframe → List ℕ
frame_bytes [] = []
frame_bytes (None ∷ s) = frame_bytes s
frame_bytes (Some f ∷ s) = f ++ frame_bytes s

-- the bytes of a block: how many frames and gaps, the bit map with a bit set for each frame that is there, the frames
abbrev pub block_of : Superframe → List ℕ
block_of s = length s ∷ (map_of (size_of_map (length s)) (map is_some s) ++ frame_bytes s)

-- ---- reading, of bytes that begin with a block

-- how many frames and gaps
abbrev pub size : List ℕ → ℕ
size bytes = slice_index bytes 0

-- the bit map
abbrev pub map_part : List ℕ → List ℕ
map_part bytes = take (size_of_map (size bytes)) (drop 1 bytes)

-- how many bytes the frames take: 122 for each bit of the map that is set
abbrev pub frames_size : List ℕ → ℕ
frames_size bytes = 122 * count_of_set_bits (bits (map_part bytes))

-- what follows the bit map
abbrev pub behind_map : List ℕ → List ℕ
behind_map bytes = drop (size_of_map (size bytes)) (drop 1 bytes)

-- the frames
abbrev pub frames_part : List ℕ → List ℕ
frames_part bytes = take (frames_size bytes) (behind_map bytes)

-- the whole length of the block
abbrev pub block_size : List ℕ → ℕ
block_size bytes = 1 + size_of_map (size bytes) + frames_size bytes

-- a frame for each bit that is set, from the bytes in turn; a gap for each that is clear
abbrev pub dealt : List Bool → List ℕ → Superframe
dealt [] bytes = []
dealt (true ∷ xs) bytes = Some (take 122 bytes) ∷ dealt xs (drop 122 bytes)
dealt (false ∷ xs) bytes = None ∷ dealt xs bytes

-- what the block holds
abbrev pub superframe : List ℕ → Superframe
superframe bytes = dealt (take (size bytes) (bits (map_part bytes))) (frames_part bytes)

-- ---- the questions put to a block

-- is the number of frames and gaps from 1 to 200?
abbrev pub has_size : List ℕ → Bool
has_size bytes = nat_le 1 (size bytes) && nat_le (size bytes) 200

-- is the bit map all there, its spare bits clear?
abbrev pub has_map : List ℕ → Bool
has_map bytes =
    nat_le (size_of_map (size bytes)) (length (drop 1 bytes)) && all_clear (drop (size bytes) (bits (map_part bytes)))

-- are the frames all there?
abbrev pub has_frames : List ℕ → Bool
has_frames bytes = nat_le (frames_size bytes) (length (behind_map bytes))

-- the questions in their order, each with its number
abbrev pub questions : List ℕ → List (ℕ × Bool)
questions bytes = (21, has_size bytes) ∷ (22, has_map bytes) ∷ (23, has_frames bytes) ∷ []

-- the first question answered no
abbrev pub first_no : List (ℕ × Bool) → Option ℕ
first_no [] = None
first_no (q ∷ qs) = cond q.1 (first_no qs) (Some q.0)

-- the number of the first question that the block answers with no
abbrev pub refusal : List ℕ → Option ℕ
refusal bytes = first_no (questions bytes)
