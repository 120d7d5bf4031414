-- How much readings still have to tell.
use Rattle.std.specs.Prelude.{ℕ, List, length}
use Rattle.framing.specs.declared.slot.Slot.{Slot}
use Rattle.receiver.specs.Reading.{owed}
use Rattle.receiver.specs.Views.{view}
use Rattle.receiver.specs.declared.receiver.Receiver.{Receiver}
use Rattle.flow.specs.declared.flow.Flow.{Flow}

-- of a receiver over these slots, under a checksum of this width
abbrev pub untold_of_receiver : {C K S : Type 0} (slots : C → List Slot) (width : ℕ) → Receiver C K S → ℕ
untold_of_receiver slots width r = length (owed r.terms.fasb width (view r.reader) (slots r.channel))

-- of a flow
abbrev pub untold_of_flow : {C K S : Type 0} (slots : C → List Slot) (width : ℕ) → Flow C K S → ℕ
untold_of_flow slots width f = length (owed f.terms.fasb width (view f.reader) (slots f.channel))
