-- Lines, and words parted by spaces.
use Rattle.std.specs.Prelude.{ℕ, cond, List, [], ◌∷◌, ◌==◌}

-- what stands before the first byte that is `stop`
abbrev pub up_to : ℕ → List ℕ → List ℕ
up_to stop [] = []
up_to stop (b ∷ bs) = cond (b == stop) [] (b ∷ up_to stop bs)

-- what is left without the spaces in front
abbrev pub unspaced : List ℕ → List ℕ
unspaced [] = []
unspaced (b ∷ bs) = cond (b == 32) (unspaced bs) (b ∷ bs)

-- a byte in front of the first word
abbrev pub lengthened : ℕ → List (List ℕ) → List (List ℕ)
lengthened b [] = (b ∷ []) ∷ []
lengthened b (w ∷ ws) = (b ∷ w) ∷ ws

-- a byte that is no space, in front of a text with these words: it begins a word of its own before a space or the end
abbrev pub begun : ℕ → List ℕ → List (List ℕ) → List (List ℕ)
begun b [] ws = (b ∷ []) ∷ ws
begun b (c ∷ cs) ws = cond (c == 32) ((b ∷ []) ∷ ws) (lengthened b ws)

-- the words of a text, parted by spaces
abbrev pub words : List ℕ → List (List ℕ)
words [] = []
words (b ∷ bs) = cond (b == 32) (words bs) (begun b bs (words bs))
