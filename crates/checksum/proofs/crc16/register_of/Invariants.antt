use Rattle.std.proofs.Common.{◌≡◌, length, drop}
use Rattle.checksum.specs.Stretch.{bits}
use Rattle.checksum.specs.Crc16.{feed, register}
use Rattle.checksum.proofs.crc16.register_of.Given as goal

-- the rest of the message takes the register to where the whole message takes it
abbrev pub invariant-loop-block : goal.invariant-loop-block
invariant-loop-block l = feed l.state (bits l.rest) ≡ register l.message

abbrev pub decreases-loop-block : goal.decreases-loop-block
decreases-loop-block l = length l.rest

abbrev pub invariant-loop-byte : goal.invariant-loop-byte
invariant-loop-byte l = feed l.state (bits (drop l.byte-index l.byte-items)) ≡ register l.message
