-- The numbers of the refusals.
use Rattle.std.specs.Prelude.{ℕ, Some, None, Ok, Err, Option, Result}
use Rattle.flow.specs.declared.faults.OpenFault.{OpenFault}
use Rattle.flow.specs.declared.faults.OpenFault.TheVariants.{AlreadyOpen, FrameCount, NoRoom}
use Rattle.flow.specs.declared.faults.OfferFault.{OfferFault}
use Rattle.flow.specs.declared.faults.OfferFault.TheVariants.{NotOpenHere, Length, NotServed, NoSpace}
use Rattle.flow.specs.declared.faults.CloseFault.{CloseFault}
use Rattle.flow.specs.declared.faults.CloseFault.TheVariants.{WrongToken}

abbrev pub open_number : OpenFault → ℕ
open_number AlreadyOpen = 1
open_number FrameCount = 2
open_number NoRoom = 3

abbrev pub offer_number : OfferFault → ℕ
offer_number NotOpenHere = 4
offer_number Length = 5
offer_number (NotServed e) = 6
offer_number NoSpace = 7

-- the service's own number inside a refusal
abbrev pub inside : OfferFault → Option ℕ
inside NotOpenHere = None
inside Length = None
inside (NotServed e) = Some e.number
inside NoSpace = None

abbrev pub close_number : CloseFault → ℕ
close_number (WrongToken t) = 4

-- the number by which a call was refused, if it was
abbrev pub refusal : {A E : Type 0} → (E → ℕ) → Result A E → Option ℕ
refusal number (Ok _) = None
refusal number (Err e) = Some (number e)
