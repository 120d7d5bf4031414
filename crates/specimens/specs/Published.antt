-- What it means that published values are right. Assumes nothing.
use Rattle.std.specs.Prelude.{◌≡◌, List, [], ◌∷◌}
use Rattle.checksum.specs.Crc16.{crc16}
use Rattle.specimens.specs.declared.vectors.Vector.{Vector}

-- Each value is that of its message, by the shift register. By the list's own shape, and not by the library's `All`, which is by
-- index: so antt unfolds it to one equality for each vector, and computes them one by one.
abbrev pub AllRight : List Vector → Type 0
AllRight [] = Unit {0}
AllRight (v ∷ vs) = (crc16 v.message.now ≡ v.expected) × AllRight vs
