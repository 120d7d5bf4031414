use Rattle.framing.specs.Fragments.{Bytes}
use Rattle.framing.proofs.Rendered.{frame_again}
use Rattle.framing.proofs.fragments.Fragments.of.Goals as goal

pub returns-clause-again : goal.returns-clause-again
returns-clause-again c =
    let fit : Bytes c.args.bytes.now = λ k below. (c.type_inv.bytes k).fits in
    let made = c.in_ok-try_from.ensures in
    frame_again c.args.bytes.now fit made.0 (rw made.1 at c.in_ok-judge.ensures)
