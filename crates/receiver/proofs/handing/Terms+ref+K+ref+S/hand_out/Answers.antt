use Rattle.std.proofs.Common.{List, ℕ, length, drop, ◌∙◌}
use Rattle.service.specs.Serving.{verdict_of}
use Rattle.receiver.proofs.Handed.{due_for, says}
use Rattle.receiver.proofs.handing.Terms+ref+K+ref+S.hand_out.Goals as goal

pub returns-clause-answers : goal.returns-clause-answers
returns-clause-answers g c =
    let p : List ℕ = c.split_at.result.0.now in
    let t = c.fits-fits.result in
    let o = verdict_of c.admit.result in
    says c.named.result t o p c.copy_from_slice.new.self (drop (length p) c.args.buffer.now) c.named.ensures c.copy_from_slice.ensures.after
    ∙ due_for g.K.Checksum.width g.K.Checksum.value (g.S.Service.verdict c.args.self.service.now) c.args.received.now p c.split_at.result.1.now t o
    (rw (← c.value_len-width.ensures) c.if-received-width.false) (rw (← c.value_len-width.ensures) c.split_at.ensures.front) (rw (← c.value_len-width.ensures) c.split_at.ensures.back) c.fits-fits.ensures.exactly c.admit.ensures
