-- Scripts, step by step and as a whole.
use Rattle.std.proofs.Common.{◌≡◌, ℕ, ◌+◌, ◌<◌, List, [], ◌∷◌, ◌++◌, map, length, get_or, take, Some, None, vec_items, Option, Result, sym, refl, ap, ◌∙◌, subst}
use Rattle.std.specs.declared.alloc.AllocError.{AllocError}
use Rattle.std.proofs.lemmas.List.{take_more, length-append}
use Rattle.framing.specs.declared.slot.Slot.{Slot}
use Rattle.checksum.specs.Detection.{Detects}
use Rattle.channel.specs.Sending.{became}
use Rattle.receiver.specs.declared.terms.Terms.{Terms}
use Rattle.runlaw.specs.History.{all_sent}
use Rattle.flow.specs.declared.flow.Flow.{Flow}
use Rattle.flow.specs.declared.token.SuperframeToken.{SuperframeToken}
use Rattle.flow.specs.Calls.{SetUp, Steady}
use Rattle.flow.proofs.Happens.{happened_new}
use Rattle.script.specs.declared.reply.Answered.{Answered}
use Rattle.script.specs.declared.reply.Reply.{Reply}
use Rattle.script.specs.declared.session.Session.{Session}
use Rattle.script.specs.declared.step.Step.{Step}
use Rattle.script.specs.declared.step.Step.TheVariants.{Open, Offer, Close, Drain}
use Rattle.script.specs.Scripts.{Follows, Comes, TookSteps, Ran, RanScript}
use Rattle.script.specs.declared.running.Outcome.{Outcome}
use Rattle.script.specs.Steps.{OffersFrom, ClosesFrom, ReadsOn, Does}
use Rattle.script.proofs.Histories.{script_events}
use Rattle.script.proofs.Lawfully.{goes_made, goes_slots, goes_history, goes_law}

-- one step more of the list
one_more_step : (steps : List Step) (i : ℕ) (step : Step) → i < length steps → step ≡ get_or steps i step → take (i + 1) steps ≡ take i steps ++ step ∷ []
one_more_step steps i step there is = take_more steps i step there ∙ ap (λ (s : Step). take i steps ++ s ∷ []) (sym is)

module _ {C K S : Type 0} where
  steady_none : (old new : Flow C K S) → new ≡ old → Steady old new
  steady_none old new same =
      record {
        terms = ap (λ (f : Flow C K S). f.terms) same;
        id = ap (λ (f : Flow C K S). f.id) same;
      }

  steady_both : (old mid new : Flow C K S) → Steady old mid → Steady mid new → Steady old new
  steady_both old mid new a b =
      record {
        terms = b.terms ∙ a.terms;
        id = b.id ∙ a.id;
      }

module _
    {C K S : Type 0} (slots : C → List Slot) (space : C → ℕ) (made : List ℕ → Slot → Type 0) (tied : C → Type 0)
    (width : ℕ) (value : List ℕ → List ℕ) (verdict : S → List ℕ → Option ℕ)
  where
    -- 1. One more step.

    follows_more : (steps : List Step) (replies : List Reply) (step : Step) (reply : Reply) (old mid new : Session C K S) → Follows slots space made tied width value verdict steps replies old mid
        → Does slots space made tied width value verdict step reply mid new → Follows slots space made tied width value verdict (steps ++ step ∷ []) (replies ++ reply ∷ []) old new
    follows_more [] [] step reply old mid new same does =
        (new, subst (λ (s : Session C K S). Does slots space made tied width value verdict step reply s new) same does, refl)
    follows_more [] (r ∷ replies) step reply old mid new follows does = absurd follows
    follows_more (s ∷ steps) [] step reply old mid new follows does = absurd follows
    follows_more (s ∷ steps) (r ∷ replies) step reply old mid new follows does =
        (follows.0, follows.1, follows_more steps replies step reply follows.0 mid new follows.2 does)

    pub follows_on : (steps : List Step) (i : ℕ) (replies : List Reply) (step : Step) (reply : Reply) (old mid new : Session C K S) → i < length steps → step ≡ get_or steps i step
        → Follows slots space made tied width value verdict (take i steps) replies old mid → Does slots space made tied width value verdict step reply mid new → Follows slots space made tied width value verdict (take (i + 1) steps) (replies ++ reply ∷ []) old new
    follows_on steps i replies step reply old mid new there is follows does =
        subst (λ (l : List Step). Follows slots space made tied width value verdict l (replies ++ reply ∷ []) old new) (sym (one_more_step steps i step there is))
        (follows_more (take i steps) replies step reply old mid new follows does)

    -- the same, where the replies so far are one for each step, and the run comes so far
    pub one_more_taken : (steps : List Step) (i : ℕ) (replies : List Reply) (step : Step) (reply : Reply) (done : Result (Unit {0}) AllocError) (old mid new : Session C K S)
        → i < length steps → step ≡ get_or steps i step → length replies ≡ i → Follows slots space made tied width value verdict (take i steps) replies old mid
        → Does slots space made tied width value verdict step reply mid new → Comes done steps (replies ++ reply ∷ []) → TookSteps slots space made tied width value verdict steps (replies ++ reply ∷ []) done old new
    one_more_taken steps i replies step reply done old mid new there is long follows does comes =
        let longer : i + 1 ≡ length (replies ++ reply ∷ []) = sym (length-append replies (reply ∷ []) ∙ ap (λ (n : ℕ). n + 1) long) in
        record {
          comes = comes;
          follows =
              subst (λ (n : ℕ). Follows slots space made tied width value verdict (take n steps) (replies ++ reply ∷ []) old new) longer
              (follows_on steps i replies step reply old mid new there is follows does);
        }

    -- 2. What no step changes.

    offers_steady : (hand : Option SuperframeToken) (packet : List ℕ) (reply : Reply) (old new : Session C K S) → OffersFrom slots space made tied width value verdict hand packet reply old new → Steady old.flow new.flow
    offers_steady None packet reply old new does = steady_none old.flow new.flow does.same.0
    offers_steady (Some token) packet reply old new does = does.exact.steady

    closes_steady : (hand : Option SuperframeToken) (reply : Reply) (old new : Session C K S) → ClosesFrom slots space made tied width value verdict hand reply old new → Steady old.flow new.flow
    closes_steady None reply old new does = steady_none old.flow new.flow does.same.0
    closes_steady (Some token) reply old new does = does.exact.steady

    reads_steady : (answers : List Answered) (old new : Session C K S) → ReadsOn slots space made tied width value verdict answers old new → Steady old.flow new.flow
    reads_steady [] old new same = steady_none old.flow new.flow (ap (λ (s : Session C K S). s.flow) same)
    reads_steady (a ∷ answers) old new reads =
        steady_both old.flow reads.0.flow new.flow reads.1.exact.steady (reads_steady answers reads.0 new reads.2)

    does_steady : (step : Step) (reply : Reply) (old new : Session C K S) → Does slots space made tied width value verdict step reply old new → Steady old.flow new.flow
    does_steady (Open n) reply old new does = does.exact.steady
    does_steady (Offer packet) reply old new does = offers_steady old.hand (vec_items packet) reply old new does
    does_steady Close reply old new does = closes_steady old.hand reply old new does
    does_steady (Step.Read size) reply old new does = does.read.exact.steady
    does_steady Drain reply old new does = reads_steady (vec_items does.answers) old new does.reads
    does_steady Step.Room reply old new does = steady_none old.flow new.flow does.same.0
    does_steady Step.Waits reply old new does = steady_none old.flow new.flow does.same.0

    pub follows_steady : (steps : List Step) (replies : List Reply) (old new : Session C K S) → Follows slots space made tied width value verdict steps replies old new → Steady old.flow new.flow
    follows_steady [] [] old new same = steady_none old.flow new.flow (ap (λ (s : Session C K S). s.flow) same)
    follows_steady [] (r ∷ replies) old new follows = absurd follows
    follows_steady (s ∷ steps) [] old new follows = absurd follows
    follows_steady (s ∷ steps) (r ∷ replies) old new follows =
        steady_both old.flow follows.0.flow new.flow (does_steady s r old follows.0 follows.1) (follows_steady steps replies follows.0 new follows.2)

    -- 3. The history and its law.

    module _ (reach : ℕ) (sized : (x : List ℕ) → length (value x) ≡ width) (detects : Detects reach value) where
      pub ran : (channel : C) (terms : Terms K S) (id : ℕ) (steps : List Step) (replies : List Reply) (start new : Session C K S)
          → SetUp space tied channel terms id start.flow → Follows slots space made tied width value verdict steps replies start new → tied channel
          → Ran slots space made tied width value verdict reach channel terms.fasb steps replies start.flow new.flow
      ran channel terms id steps replies start new set_up follows ties =
          let old = start.flow in
          let has = script_events slots space made tied width value verdict reach sized detects steps replies start new follows (set_up.ties ties) in
          let begins = λ (empty : slots channel ≡ []).
          happened_new slots space made tied width reach value verdict sized detects channel terms id old set_up empty ties in
          record {
            events = has.events;
            tells = has.tells;
            by_the_rules = has.goes;
            made_so = goes_made slots space made tied width value verdict has.events old new.flow has.goes;
            slots_are =
                ap (λ (c : C). slots c ++ map became (all_sent has.events)) (sym set_up.channel_is)
                ∙ goes_slots slots space made tied width value verdict has.events old new.flow has.goes;
            law = λ empty first rest whole.
                goes_law slots space made tied width value verdict reach sized detects has.events [] old new.flow terms.fasb (ap (λ (t : Terms K S). t.fasb) set_up.terms_is) has.goes (begins empty).0
                (begins empty).1 first rest whole;
            history = λ empty. goes_history slots space made tied width value verdict reach sized detects has.events [] old new.flow has.goes (begins empty).0;
          }

      pub ran_script : (channel : C) (terms : Terms K S) (id : ℕ) (steps : List Step) (out : Outcome C K S) (start : Session C K S)
          → SetUp space tied channel terms id start.flow → start.hand ≡ None
          → TookSteps slots space made tied width value verdict steps (vec_items out.replies) out.done start out.session
          → RanScript slots space made tied width value verdict reach channel terms id steps out
      ran_script channel terms id steps out start set_up hand taken =
          let done = take (length (vec_items out.replies)) steps in
          let steady = follows_steady done (vec_items out.replies) start out.session taken.follows in
          record {
            start = start;
            set_up = set_up;
            hand_empty = hand;
            comes = taken.comes;
            follows = taken.follows;
            runs = ran channel terms id done (vec_items out.replies) start out.session set_up taken.follows;
            terms_is = steady.terms ∙ set_up.terms_is;
            id_is = steady.id ∙ set_up.id_is;
            in_hand = out.session.open_in_hand;
          }
