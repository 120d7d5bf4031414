-- The state of a writer, part by part.
use Rattle.std.proofs.Common.{◌≡◌}
use Rattle.flow.specs.Writing.{State}

pub same_state :
    (s t : State) → s.opened ≡ t.opened → s.left ≡ t.left → s.begun ≡ t.begun → s.over ≡ t.over → s ≡ t
same_state s t opened left begun over = λ i. record { opened = opened i; left = left i; begun = begun i; over = over i }
