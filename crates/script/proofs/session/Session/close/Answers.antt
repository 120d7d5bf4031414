use Rattle.std.proofs.Common.{Some, None, sym, refl, ◌∙◌}
use Rattle.script.proofs.Tokens.{closes_from}
use Rattle.script.proofs.session.Session.close.Goals as goal

pub returns-in_default : goal.returns-in_default
returns-in_default g c =
    closes_from _ _ _ _ _ _ _ c.args.self.now.hand None _ _ _ (sym c.in_default.ensures.value)
    (record { reply_is = refl; same = (refl, c.take.ensures.after ∙ c.in_default.ensures.value) })

pub returns : goal.returns
returns g c =
    closes_from _ _ _ _ _ _ _ c.args.self.now.hand (Some c.in-Some.token) _ _ _ (sym c.in-Some.ensures.value)
    (record { reply_is = refl; exact = c.in-Ok.ensures.answer; hand_is = c.take.ensures.after })
