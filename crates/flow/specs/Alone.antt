-- One packet in a superframe of its own.
use Rattle.std.specs.Prelude.{◌≡◌, ℕ, List, [], ◌∷◌, ◌++◌, Ok, Err, Result}
use Rattle.flow.specs.declared.alone.SendFault.{SendFault}
use Rattle.flow.specs.declared.alone.SendFault.TheVariants.{Opening, Offer, Closing}
use Rattle.flow.specs.declared.flow.Flow.{Flow}
use Rattle.flow.specs.Runs.{opens, offers, closes, run}
use Rattle.flow.specs.Writing.{state_of}

-- Where the packet is refused, the superframe is closed without it; where the opening is, nothing changes.
abbrev pub SentAlone : {C K S : Type 0} (value : List ℕ → List ℕ) (n : ℕ) (packet : List ℕ) → Result (Unit {0}) SendFault → (old new : Flow C K S) → Type 0
SentAlone value n packet (Ok _) old new =
    state_of new.writer ≡ (run (state_of old.writer) (opens n ∷ offers (packet ++ value packet) ∷ closes ∷ [])).state
SentAlone value n packet (Err (Offer e)) old new = state_of new.writer ≡ (run (state_of old.writer) (opens n ∷ closes ∷ [])).state
SentAlone value n packet (Err (Opening e)) old new = new ≡ old
SentAlone value n packet (Err (Closing e)) old new = ⊥
