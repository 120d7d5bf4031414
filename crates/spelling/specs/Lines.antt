-- The lines of a script.
use Rattle.std.specs.Prelude.{◌≡◌, ℕ, ◌+◌, ◌-◌, ◌<◌, cond, List, [], length, take, drop, ◌==◌, slice_index, Option, MatchOption}
use Rattle.std.specs.Borrow.{Bor}
use Rattle.spelling.specs.Words.{up_to}

-- A line taken off a text: it goes up to the next line feed or the end, and the rest begins behind that, and is
-- shorter. Nothing is taken off an empty text, and none is left of it.
abbrev pub LineTaken : List ℕ → Option (Bor (List ℕ)) → List ℕ → Type 0
LineTaken text taken rest =
    MatchOption taken ((text ≡ []) × (rest ≡ []))
    (λ line.
    (line.now ≡ up_to 10 text) × (rest ≡ drop (length (up_to 10 text) + 1) text) × (length rest < length text))

-- a line without the carriage return at its end, if there is one
abbrev pub chopped : List ℕ → List ℕ
chopped line = cond (slice_index line (length line - 1) == 13) (take (length line - 1) line) line
