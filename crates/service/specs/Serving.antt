-- What a service answers. Assumes nothing.
use Rattle.std.specs.Prelude.{ℕ, Some, None, Ok, Err, Option, Result}
use Rattle.service.specs.declared.service.NotAdmitted.{NotAdmitted}

-- nothing where the packet is admitted, else the number
abbrev pub verdict_of : Result (Unit {0}) NotAdmitted → Option ℕ
verdict_of (Ok _) = None
verdict_of (Err e) = Some e.number

-- the number in an answer that is a refusal
abbrev pub refusal_in : {A : Type 0} → Result A ℕ → Option ℕ
refusal_in (Ok _) = None
refusal_in (Err n) = Some n
