use Rattle.std.proofs.Common.{◌≡◌, ℕ, ◌≤◌, List, length, refl, arith}
use Rattle.framing.specs.Fragments.{fragments_from}
use Rattle.receiver.specs.Views.{hand_in, Rests}
use Rattle.receiver.specs.declared.state.State.{State}
use Rattle.receiver.specs.declared.state.State.TheVariants.{Aligned, Gathering, Seeking}
use Rattle.receiver.proofs.Steps.{nothing_past}
use Rattle.receiver.proofs.reader.Reader.hand_at.Goals as goal

read_out : (s : State) (frame : List ℕ) → length frame ≤ 122 → ((n : ℕ) → s ≡ Aligned n → ⊥) → Rests s 122 × (fragments_from frame 122 ≡ hand_in s frame)
read_out (Aligned n) frame short other = absurd (other n refl)
read_out Gathering frame short other = (tt, nothing_past frame 122 short)
read_out Seeking frame short other = (tt, nothing_past frame 122 short)

pub returns-in_default : goal.returns-in_default
returns-in_default c =
    let both = read_out c.args.self.now.state c.args.self.now.frame.bytes (omega arith) c.in_default.not-Aligned in
    record { rests = both.0; unread = both.1 }
