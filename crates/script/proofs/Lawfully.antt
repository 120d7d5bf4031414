-- What events one after another sent and took, and that the run law holds of each first part of them.
use Rattle.std.proofs.Common.{◌≡◌, ℕ, Bool, List, [], ◌∷◌, ◌++◌, map, length, Option, sym, ap, ◌∙◌, subst, arith}
use Rattle.std.proofs.lemmas.List.{append-nil, append_assoc, map-append}
use Rattle.framing.specs.declared.slot.Slot.{Slot}
use Rattle.channel.specs.Sending.{became, AllMade}
use Rattle.channel.proofs.Sends.{all_made_join}
use Rattle.checksum.specs.Detection.{Detects}
use Rattle.receiver.specs.declared.terms.Terms.{Terms}
use Rattle.runlaw.specs.History.{Event, History, all_sent, all_taken}
use Rattle.runlaw.specs.Law.{RunLaw}
use Rattle.flow.specs.declared.flow.Flow.{Flow}
use Rattle.flow.specs.Calls.{Steady}
use Rattle.flow.specs.Happening.{HistoryOf}
use Rattle.flow.proofs.Happens.{next_opening, next_offer, next_closing, next_reading}
use Rattle.script.specs.Events.{ByTheRules, by_opening, by_offer, by_closing, by_reading, Goes}

same_first : (a b : Event) (x y : History) → a ∷ x ≡ b ∷ y → a ≡ b
same_first a b x y e = cc

same_rest : (a b : Event) (x y : History) → a ∷ x ≡ b ∷ y → x ≡ y
same_rest a b x y e = cc

module _
    {C K S : Type 0} (slots : C → List Slot) (space : C → ℕ) (made : List ℕ → Slot → Type 0) (tied : C → Type 0)
    (width : ℕ) (value : List ℕ → List ℕ) (verdict : S → List ℕ → Option ℕ)
  where
    -- 1. What was sent and taken.

    rules_made : (e : Event) (old new : Flow C K S) → ByTheRules slots space made tied width value verdict e old new → AllMade made e.sent
    rules_made e old new (by_opening n answer exact tells) = tells.made_so
    rules_made e old new (by_offer token p answer exact tells) = tells.made_so
    rules_made e old new (by_closing token answer exact tells) = tells.made_so
    rules_made e old new (by_reading before after answer exact tells) = tells.made_so

    rules_slots : (e : Event) (old new : Flow C K S) → ByTheRules slots space made tied width value verdict e old new
        → slots old.channel ++ map became e.sent ≡ e.taken ++ slots new.channel
    rules_slots e old new (by_opening n answer exact tells) = tells.slots_are
    rules_slots e old new (by_offer token p answer exact tells) = tells.slots_are
    rules_slots e old new (by_closing token answer exact tells) = tells.slots_are
    rules_slots e old new (by_reading before after answer exact tells) = tells.slots_are

    rules_steady : (e : Event) (old new : Flow C K S) → ByTheRules slots space made tied width value verdict e old new → Steady old new
    rules_steady e old new (by_opening n answer exact tells) = exact.steady
    rules_steady e old new (by_offer token p answer exact tells) = exact.steady
    rules_steady e old new (by_closing token answer exact tells) = exact.steady
    rules_steady e old new (by_reading before after answer exact tells) = exact.steady

    pub goes_made : (h : History) (old new : Flow C K S) → Goes slots space made tied width value verdict h old new → AllMade made (all_sent h)
    goes_made [] old new same = tt
    goes_made (e ∷ h) old new goes =
        all_made_join made e.sent (all_sent h) (rules_made e old goes.0 goes.1) (goes_made h goes.0 new goes.2)

    pub goes_slots : (h : History) (old new : Flow C K S) → Goes slots space made tied width value verdict h old new
        → slots old.channel ++ map became (all_sent h) ≡ all_taken h ++ slots new.channel
    goes_slots [] old new same = append-nil (slots old.channel) ∙ ap (λ (f : Flow C K S). slots f.channel) (sym same)
    goes_slots (e ∷ h) old new goes =
        let mid = goes.0 in
        ap (λ (l : List Slot). slots old.channel ++ l) (map-append became e.sent (all_sent h))
        ∙ sym (append_assoc (slots old.channel) (map became e.sent) (map became (all_sent h)))
        ∙ ap (λ (l : List Slot). l ++ map became (all_sent h)) (rules_slots e old mid goes.1)
        ∙ append_assoc e.taken (slots mid.channel) (map became (all_sent h))
        ∙ ap (λ (l : List Slot). e.taken ++ l) (goes_slots h mid new goes.2)
        ∙ sym (append_assoc e.taken (all_taken h) (slots new.channel))

    -- 2. The law.

    module _ (reach : ℕ) (sized : (x : List ℕ) → length (value x) ≡ width) (detects : Detects reach value) where
      next : (e : Event) (old new : Flow C K S) → ByTheRules slots space made tied width value verdict e old new → (h : History) → HistoryOf slots space made tied width value verdict h old
          → HistoryOf slots space made tied width value verdict (h ++ (e ∷ [])) new × RunLaw old.terms.fasb width reach value (h ++ (e ∷ []))
      next e old new (by_opening n answer exact tells) h was = next_opening slots space made tied width reach value verdict sized detects n answer old new exact h was e tells
      next e old new (by_offer token p answer exact tells) h was = next_offer slots space made tied width reach value verdict sized detects token p answer old new exact h was e tells
      next e old new (by_closing token answer exact tells) h was = next_closing slots space made tied width reach value verdict sized detects token answer old new exact h was e tells
      next e old new (by_reading before after answer exact tells) h was = next_reading slots space made tied width reach value verdict sized detects before after answer old new exact h was e tells

      -- a history that goes on, event by event
      pub goes_history : (h k : History) (old new : Flow C K S) → Goes slots space made tied width value verdict h old new → HistoryOf slots space made tied width value verdict k old → HistoryOf slots space made tied width value verdict (k ++ h) new
      goes_history [] k old new same was =
          subst (λ (l : History). HistoryOf slots space made tied width value verdict l new) (sym (append-nil k)) (subst (HistoryOf slots space made tied width value verdict k) (sym same) was)
      goes_history (e ∷ h) k old new goes was =
          subst (λ (l : History). HistoryOf slots space made tied width value verdict l new) (append_assoc k (e ∷ []) h)
          (goes_history h (k ++ (e ∷ [])) goes.0 new goes.2 (next e old goes.0 goes.1 k was).0)

      pub goes_law : (h k : History) (old new : Flow C K S) (fasb : Bool) → old.terms.fasb ≡ fasb → Goes slots space made tied width value verdict h old new → HistoryOf slots space made tied width value verdict k old → RunLaw fasb width reach value k
          → (first rest : History) → h ≡ first ++ rest → RunLaw fasb width reach value (k ++ first)
      goes_law h k old new fasb mode goes was law [] rest whole = subst (RunLaw fasb width reach value) (sym (append-nil k)) law
      goes_law [] k old new fasb mode goes was law (f ∷ first) rest whole = let z : ◌≡◌ {A = ℕ} 0 1 = cc in absurd (omega arith)
      goes_law (e ∷ h) k old new fasb mode goes was law (f ∷ first) rest whole =
          let mid = goes.0 in
          let then = next e old mid goes.1 k was in
          let mode' : mid.terms.fasb ≡ fasb = ap (λ (t : Terms K S). t.fasb) (rules_steady e old mid goes.1).terms ∙ mode in
          let later =
          goes_law h (k ++ (e ∷ [])) mid new fasb mode' goes.2 then.0 (subst (λ (b : Bool). RunLaw b width reach value (k ++ (e ∷ []))) mode then.1) first rest
          (same_rest e f h (first ++ rest) whole) in
          subst (λ (x : Event). RunLaw fasb width reach value (k ++ (x ∷ first))) (same_first e f h (first ++ rest) whole)
          (subst (RunLaw fasb width reach value) (append_assoc k (e ∷ []) first) later)
