-- The questions that a call puts, in order: the first one answered no refuses with its number.
use Rattle.std.specs.Prelude.{ℕ, ◌+◌, ◌-◌, ◌*◌, Bool, cond, not, ◌&&◌, List, [], ◌∷◌, length, is_some, Option, ◌==◌, nat_le}
use Rattle.framing.specs.Judging.{Question, ask}
use Rattle.flow.specs.Writing.{State}

-- How many body bytes are free in the rest of a superframe: those behind one header in the unfinished frame, and 121 in
-- each frame behind it.
abbrev pub free : (left : ℕ) (begun : List ℕ) → ℕ
free left begun = cond (left == 0) 0 (121 - length begun + 121 * (left - 1))

-- An opening for n frames. 1: is no superframe open? 2: is n from 1 to 200? 3: is the channel's room at least n + 1?
abbrev pub opening_questions : (n : ℕ) → State → (room : ℕ) → List Question
opening_questions n s room =
    ask 1 (not s.opened) ∷ ask 2 (nat_le 1 n && nat_le n 200) ∷ ask 3 (nat_le (n + 1) room) ∷ []

-- 4: is a superframe open here, and does the token have this flow's id?
abbrev pub token_question : (token id : ℕ) → State → Question
token_question token id s = ask 4 (s.opened && token == id)

-- An offer of a packet. 5: is the length 1 to 2,044? 6: does the service admit it? (`verdict` is its number where it does
-- not.) 7: where packets may not cross superframes, do packet and checksum fit in the rest of this one? Where they may,
-- is one body byte free?
abbrev pub offer_questions :
    (token id : ℕ) (fasb : Bool) (width : ℕ) (verdict : Option ℕ) (packet : List ℕ) → State → List Question
offer_questions token id fasb width verdict packet s =
    token_question token id s
    ∷ ask 5 (nat_le 1 (length packet) && nat_le (length packet) 2044)
    ∷ ask 6 (not (is_some verdict))
    ∷ ask 7 (nat_le (cond fasb 1 (length packet + width)) (free s.left s.begun))
    ∷ []

abbrev pub closing_questions : (token id : ℕ) → State → List Question
closing_questions token id s = token_question token id s ∷ []
