-- The faults of a sync header, each with the number of its question. Assumes nothing.
use Rattle.std.specs.Prelude.{◌≡◌, ℕ, Ok, Err, Result}
use Rattle.service.specs.declared.header.HeaderFault.{HeaderFault}
use Rattle.service.specs.declared.header.HeaderFault.TheVariants.{Empty, ReservedBits, FrameIdPresence, FlagForKind, NoPayload, FrameIdRange, BufferLength}

abbrev pub fault_number : HeaderFault → ℕ
fault_number Empty = 30
fault_number ReservedBits = 31
fault_number FrameIdPresence = 32
fault_number FlagForKind = 33
fault_number NoPayload = 34
fault_number FrameIdRange = 35
fault_number BufferLength = 36

-- an answer, with the fault as its number
abbrev pub refusing : {A : Type 0} → Result A HeaderFault → Result A ℕ
refusing (Ok a) = Ok a
refusing (Err e) = Err (fault_number e)

-- What a number is the number of: the fault, and nothing where it is the number of none.
abbrev pub Numbered : {E : Type 0} → ℕ → Result HeaderFault E → Type 0
Numbered n (Ok fault) = n ≡ fault_number fault
Numbered n (Err _) = (fault : HeaderFault) → ¬ (n ≡ fault_number fault)
