-- A history with one event more.
use Rattle.std.proofs.Common.{◌≡◌, List, [], ◌∷◌, ◌++◌, ap, ◌∙◌}
use Rattle.std.specs.List.{flat_map}
use Rattle.std.proofs.lemmas.List.{append-nil, same_from_push}
use Rattle.runlaw.specs.History.{Call, Reply, Event, History, EndsWith}
use Rattle.std.proofs.lemmas.Grind.{flat_map-append}

-- all that events give, of whatever kind: what was sent, taken, accepted, answered
pub one_more : {B : Type 0} (f : Event → List B) (h : History) (e : Event) → flat_map f (h ++ (e ∷ [])) ≡ flat_map f h ++ f e
one_more f h e = flat_map-append f h (e ∷ []) ∙ ap (λ r. flat_map f h ++ r) (append-nil (f e))

-- what the last event is
pub ends_with_last : (c : Call) (r : Reply) (h : History) (e : Event) → EndsWith c r (h ++ (e ∷ [])) → (e.call ≡ c) × (e.reply ≡ r)
ends_with_last c r h e x =
    let both = same_from_push h x.earlier e x.last x.whole in
    (ap (λ (y : Event). y.call) both.1 ∙ x.call_is, ap (λ (y : Event). y.reply) both.1 ∙ x.reply_is)
