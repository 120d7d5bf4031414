-- The header that the code has in hand.
use Rattle.framing.specs.Header.{Header}
use Rattle.framing.specs.declared.judging.Placed.{Placed}

abbrev pub placed : Placed → Header
placed p = record { place = p.place; byte = p.byte; following = p.following.now }
