use Rattle.std.proofs.Common.{take}
use Rattle.std.specs.Fmt.{IsPlainFormatter, HasWritten}
use Rattle.spelling.specs.Hex.{hexed}
use Rattle.spelling.proofs.hex.HexDisplay.fmt.Given as goal

-- the digits of the bytes so far have been written
abbrev pub invariant-loop-byte : goal.invariant-loop-byte
invariant-loop-byte g l = IsPlainFormatter l.initial.f → HasWritten g.W.Write.write_str_gives l.initial.f (hexed (take l.byte-index l.bytes)) l.f
