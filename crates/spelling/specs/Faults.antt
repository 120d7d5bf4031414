-- Why a line of a script is answered with an error, in words.
use Rattle.std.specs.Prelude.{ℕ, List, codes}
use Rattle.spelling.specs.declared.fault.LineFault.{LineFault}
use Rattle.spelling.specs.declared.fault.LineFault.TheVariants.{UnknownCommand, MissingWord, ExtraWord, UnknownWord, NotBytes, NotANumber, NumberTooLarge, NoFlow, NoToken, RingTooLarge, NoMemory}

abbrev pub fault_words : LineFault → List ℕ
fault_words UnknownCommand = codes "there is no such command"
fault_words MissingWord = codes "a word is missing"
fault_words ExtraWord = codes "there is a word too many"
fault_words UnknownWord = codes "a word is none of those that may stand there"
fault_words NotBytes = codes "bytes are hex digits, two a byte, or - for none"
fault_words NotANumber = codes "a number is decimal digits"
fault_words NumberTooLarge = codes "a number is too large for what it tells"
fault_words NoFlow = codes "this needs a flow, and none is set up"
fault_words NoToken = codes "this needs an open superframe, and none is open"
fault_words RingTooLarge = codes "a ring has at most 1073741824 bytes"
fault_words NoMemory = codes "there is no memory for this"
