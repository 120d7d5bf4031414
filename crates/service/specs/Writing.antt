-- Writing a sync header and a payload: the questions in their order, then the length. Assumes nothing.
use Rattle.std.specs.Prelude.{◌≡◌, ℕ, ◌+◌, ◌≤◌, List, [], ◌∷◌, ◌++◌, length, take, drop, Ok, Err, Result, nat_le}
use Rattle.service.specs.Asking.{Question, ask}
use Rattle.service.specs.Encoding.{encoding, field_questions}
use Rattle.service.specs.Map.{map_of, map_questions}
use Rattle.service.specs.Reading.{reading}
use Rattle.service.specs.Spelling.{Bytes}
use Rattle.service.specs.declared.header.SyncHeader.{SyncHeader}

-- 32, 33: the questions on the map
-- 34: is there at least one byte of payload?
-- 35: the question on the fields
-- 36: is the buffer, of n bytes, long enough?
abbrev pub writing_questions : SyncHeader → List ℕ → ℕ → List Question
writing_questions h payload n =
    map_questions (map_of h)
    ++ ((34, nat_le 1 (length payload)) ∷ (field_questions h ++ ((36, nat_le (length (encoding h payload)) n) ∷ [])))

-- the length written, or the number of the refusal
abbrev pub writing : SyncHeader → List ℕ → ℕ → Result ℕ ℕ
writing h payload n = ask (writing_questions h payload n) (length (encoding h payload))

-- the buffer afterwards: as it was on a refusal, else the encoding and then its old rest
abbrev pub written : {E : Type 0} → Result ℕ E → SyncHeader → List ℕ → List ℕ → List ℕ
written (Ok n) h payload old = encoding h payload ++ drop (length (encoding h payload)) old
written (Err e) h payload old = old

-- bytes written into a buffer behind its first `at`, up to `end`
pub record Put (at : ℕ) (bytes old : List ℕ) (end : ℕ) (new : List ℕ) : Type 0 where
  pub ends : end ≡ at + length bytes
  pub bytes_are : new ≡ take at old ++ (bytes ++ drop end old)

-- What a packet s was read as is written as s again, where the buffer has room: the answer is its length, and the buffer
-- is s and then its old rest.
abbrev pub Rewrites : SyncHeader → List ℕ → List ℕ → Result ℕ ℕ → List ℕ → Type 0
Rewrites h payload old r new =
    (s : List ℕ) → Bytes s → reading s ≡ Ok (h, payload) → length s ≤ length old
    → (r ≡ Ok (length s)) × (new ≡ s ++ drop (length s) old)
