use Rattle.std.proofs.Common.{Some, None, sym, refl, ap, ◌∙◌}
use Rattle.script.proofs.Tokens.{offers_from}
use Rattle.script.proofs.session.Session.offer.Goals as goal

pub returns-in_default : goal.returns-in_default
returns-in_default g c =
    offers_from _ _ _ _ _ _ _ c.args.self.now.hand None _ _ _ _ (sym c.in_default.ensures.value)
    (record { reply_is = refl; same = (refl, c.take.ensures.after ∙ c.in_default.ensures.value) })

pub returns : goal.returns
returns g c =
    offers_from _ _ _ _ _ _ _ c.args.self.now.hand (Some c.in-Some.token) _ _ _ _ (sym c.in-Some.ensures.value)
    (record {
      answer = c.offer-answer.result.1;
      reply_is = refl;
      exact = c.offer-answer.ensures.answer;
      hand_is = c.take_up.ensures ∙ ap Some c.offer-answer.ensures.token;
    })
