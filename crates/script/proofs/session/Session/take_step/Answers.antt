use Rattle.std.proofs.Common.{refl}
use Rattle.script.proofs.Tokens.{offers_whole, closes_whole}
use Rattle.script.proofs.session.Session.take_step.Goals as goal

pub returns-in-Offer : goal.returns-in-Offer
returns-in-Offer g c =
    rw (c.in-Offer.is, ← c.as_slice.ensures.value) (c.offer.ensures, offers_whole _ _ _ _ _ _ _ c.args.self.now.hand _ _ _ _ c.offer.ensures)

pub returns-in-Close : goal.returns-in-Close
returns-in-Close g c = rw c.in-Close.is (c.close.ensures, closes_whole _ _ _ _ _ _ _ c.args.self.now.hand _ _ _ c.close.ensures)

pub returns-in_ok-buffer-in-Read : goal.returns-in_ok-buffer-in-Read
returns-in_ok-buffer-in-Read g c =
    rw c.in-Read.is (record { answered = c.read.result; reply_is = refl; read = rw (← c.in_ok-buffer-in-Read.ensures) c.read.ensures }, tt)
