-- The words for the checksums, and what each of them is.
use Rattle.std.specs.Prelude.{◌≡◌, ℕ, List, [], codes, Some, None, Option}
use Rattle.checksum.specs.Crc16.{crc16}
use Rattle.checksum.specs.declared.choice.ChecksumChoice.{ChecksumChoice}
use Rattle.checksum.specs.declared.choice.ChecksumChoice.TheVariants.{Without, Crc16}

abbrev pub word_of_checksum : ChecksumChoice → List ℕ
word_of_checksum Without = codes "none"
word_of_checksum Crc16 = codes "crc16"

-- what a word names: the checksum whose word it is, and nothing where it is the word of none
abbrev pub NamesChecksum : List ℕ → Option ChecksumChoice → Type 0
NamesChecksum word (Some checksum) = word ≡ word_of_checksum checksum
NamesChecksum word None = (checksum : ChecksumChoice) → ¬ (word ≡ word_of_checksum checksum)

-- how many bytes its values have
abbrev pub width_by : ChecksumChoice → ℕ
width_by Without = 0
width_by Crc16 = 2

-- its value for each string
abbrev pub value_by : ChecksumChoice → List ℕ → List ℕ
value_by Without message = []
value_by Crc16 message = crc16 message
