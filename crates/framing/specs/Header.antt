-- The header byte of a fragment, and the headers of a frame.
use Rattle.std.specs.Prelude.{ℕ, zero, suc, ◌+◌, ◌/◌, ◌%◌, Bool, cond, List, [], ◌∷◌, ◌==◌}

-- Bits 1 to 7 of a header byte are the count.
abbrev pub count_of : ℕ → ℕ
count_of h = h % 128

-- Bit 8 is the last mark: it is set on the final fragment of a packet.
abbrev pub last_of : ℕ → Bool
last_of h = h / 128 == 1

-- The header byte with this count, below 128, and this last mark.
abbrev pub byte_of : ℕ → Bool → ℕ
byte_of n l = cond l (128 + n) n

-- A header where it stands: its place in the frame, counted from 1; its byte; and all bytes of the frame behind it.
pub record Header : Type 0 where
  pub place : ℕ
  pub byte : ℕ
  pub following : List ℕ

-- The headers of the bytes that begin at a place: the first of them, and then likewise those of the rest. `body` is the
-- number of bytes, at the front, that still belong to the body before. (Behind padding there are no more headers: its
-- count of 127 is more than a frame has bytes.)
abbrev pub headers_from : (place body : ℕ) → List ℕ → List Header
headers_from place body [] = []
headers_from place (suc body) (b ∷ rest) = headers_from (place + 1) body rest
headers_from place zero (h ∷ rest) =
    record { place = place; byte = h; following = rest } ∷ headers_from (place + 1) (count_of h) rest

abbrev pub headers : List ℕ → List Header
headers frame = headers_from 1 0 frame
