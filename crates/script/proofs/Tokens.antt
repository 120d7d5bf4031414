-- Offers and closings, by what is in hand.
use Rattle.std.proofs.Common.{◌≡◌, ℕ, List, Some, None, Option, sym, ◌∙◌, subst}
use Rattle.framing.specs.declared.slot.Slot.{Slot}
use Rattle.flow.specs.declared.token.SuperframeToken.{SuperframeToken}
use Rattle.script.specs.declared.reply.Reply.{Reply}
use Rattle.script.specs.declared.session.Session.{Session}
use Rattle.script.specs.Answers.{Whole}
use Rattle.script.specs.Steps.{OffersFrom, ClosesFrom, Ended}

module _
    {C K S : Type 0} (slots : C → List Slot) (space : C → ℕ) (made : List ℕ → Slot → Type 0) (tied : C → Type 0)
    (width : ℕ) (value : List ℕ → List ℕ) (verdict : S → List ℕ → Option ℕ)
  where
    pub offers_from : (hand hand' : Option SuperframeToken) (packet : List ℕ) (reply : Reply) (old new : Session C K S) → hand ≡ hand'
        → OffersFrom slots space made tied width value verdict hand' packet reply old new → OffersFrom slots space made tied width value verdict hand packet reply old new
    offers_from hand hand' packet reply old new is done =
        subst (λ (h : Option SuperframeToken). OffersFrom slots space made tied width value verdict h packet reply old new) (sym is) done

    pub closes_from : (hand hand' : Option SuperframeToken) (reply : Reply) (old new : Session C K S) → hand ≡ hand'
        → ClosesFrom slots space made tied width value verdict hand' reply old new → ClosesFrom slots space made tied width value verdict hand reply old new
    closes_from hand hand' reply old new is done =
        subst (λ (h : Option SuperframeToken). ClosesFrom slots space made tied width value verdict h reply old new) (sym is) done

    -- neither is a drain
    pub offers_whole : (hand : Option SuperframeToken) (packet : List ℕ) (reply : Reply) (old new : Session C K S)
        → OffersFrom slots space made tied width value verdict hand packet reply old new → Whole reply
    offers_whole None packet reply old new done = subst Whole (sym done.reply_is) tt
    offers_whole (Some token) packet reply old new done = subst Whole (sym done.reply_is) tt

    pub closes_whole : (hand : Option SuperframeToken) (reply : Reply) (old new : Session C K S)
        → ClosesFrom slots space made tied width value verdict hand reply old new → Whole reply
    closes_whole None reply old new done = subst Whole (sym done.reply_is) tt
    closes_whole (Some token) reply old new done = subst Whole (sym done.reply_is) tt

    -- a closing leaves no token in hand
    pub empties : (hand : Option SuperframeToken) (reply : Reply) (old new : Session C K S) → old.hand ≡ hand
        → ClosesFrom slots space made tied width value verdict hand reply old new → new.hand ≡ None
    empties None reply old new is done = done.same.1 ∙ is
    empties (Some token) reply old new is done = done.hand_is

    pub ended : (hand : Option SuperframeToken) (reply : Reply) (old new : Session C K S)
        → ClosesFrom slots space made tied width value verdict hand reply old new → Ended slots space made tied width value verdict hand old.flow new.flow
    ended None reply old new done = done.same.0
    ended (Some token) reply old new done = done.exact
