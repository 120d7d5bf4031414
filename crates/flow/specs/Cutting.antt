-- Cutting bytes into frames, and filling frames with padding.
use Rattle.std.specs.Prelude.{ℕ, zero, suc, ◌+◌, ◌-◌, min, cond, List, [], ◌∷◌, ◌++◌, length, take, drop, ◌==◌, nat_lt}
use Rattle.framing.specs.Fragments.{body, notional, padding, rendered}

-- 1. One fragment.

-- How many bytes the next body has: the least of the bytes left in the frame after the header, the bytes left to cut,
-- and 121. `begun` are the bytes of the unfinished frame.
abbrev pub size : (begun bytes : List ℕ) → ℕ
size begun bytes = min (121 - length begun) (min (length bytes) 121)

-- The unfinished frame with the next fragment. Its last mark is set exactly where no byte is left to cut.
abbrev pub grown : (begun bytes : List ℕ) → List ℕ
grown begun bytes =
    begun ++ rendered (body (length begun + 1) (take (size begun bytes) bytes) (size begun bytes == length bytes))

-- What is left to cut behind it.
abbrev pub uncut : (begun bytes : List ℕ) → List ℕ
uncut begun bytes = drop (size begun bytes) bytes

-- A full frame as it is put: where a packet's end leaves exactly one byte of it, that byte is a notional packet.
abbrev pub closed : List ℕ → List ℕ
closed bytes = cond (length bytes == 121) (bytes ++ rendered (notional 122)) bytes

-- 2. All bytes of a packet.

-- What a cutting comes to: the frames that it filled, in order; the unfinished frame; the frames left, the unfinished one
-- among them; and the bytes that did not fit.
pub record Cut : Type 0 where
  pub full : List (List ℕ)
  pub unfinished : List ℕ
  pub left : ℕ
  pub over : List ℕ

-- the same, behind frames that were filled before
abbrev pub behind : List (List ℕ) → Cut → Cut
behind frames c = record { full = frames ++ c.full; unfinished = c.unfinished; left = c.left; over = c.over }

-- nothing is cut: no frame is left, or no byte
abbrev pub uncutted : ℕ → (begun bytes : List ℕ) → Cut
uncutted left begun bytes = record { full = []; unfinished = begun; left = left; over = bytes }

-- The bytes are cut into what is left of a superframe: the unfinished frame and the frames behind it. A frame with fewer
-- than two bytes free is full.
unfoldable pub cut : (left : ℕ) (begun bytes : List ℕ) → Cut
cut zero begun bytes = uncutted 0 begun bytes
cut (suc later) begun [] = uncutted (suc later) begun []
cut (suc later) begun (b ∷ bytes) =
    cond (nat_lt (length (grown begun (b ∷ bytes))) 121)
    (uncutted (suc later) (grown begun (b ∷ bytes)) [])
    (behind (closed (grown begun (b ∷ bytes)) ∷ []) (cut later [] (uncut begun (b ∷ bytes))))

-- 3. Padding.

-- a frame whose rest is padding
abbrev pub padded : List ℕ → List ℕ
padded begun = begun ++ rendered (padding (length begun + 1))

-- the frames left of a superframe, filled with padding
unfoldable pub paddings : (left : ℕ) (begun : List ℕ) → List (List ℕ)
paddings zero begun = []
paddings (suc later) begun = padded begun ∷ paddings later []
