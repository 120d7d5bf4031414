-- The events of steps: each step has them, and each is the exact step of the rules.
use Rattle.std.proofs.Common.{◌≡◌, ℕ, List, [], ◌∷◌, ◌++◌, map, length, take, replicate, Some, None, Ok, Err, vec_items, Option, Result, Vec, sym, refl, ap, ◌∙◌, subst, ap₂, arith}
use Rattle.std.specs.List.{AllByRecursion}
use Rattle.std.specs.declared.alloc.Global.{Global}
use Rattle.std.proofs.lemmas.List.{take-take}
use Rattle.framing.specs.declared.slot.Slot.{Slot}
use Rattle.checksum.specs.Detection.{Detects}
use Rattle.receiver.specs.declared.answer.Reading.{Reading}
use Rattle.receiver.specs.declared.answer.Reading.TheVariants.{Sound, Damaged, Foreign, Short, Lost, Torn, Mark, Nothing}
use Rattle.receiver.specs.declared.answer.BufferTooShort.{BufferTooShort}
use Rattle.receiver.specs.Answering as answering
use Rattle.runlaw.specs.History as history
use Rattle.runlaw.specs.History.{Event, History, reading, answers}
use Rattle.flow.specs.declared.faults.OpenFault.{OpenFault}
use Rattle.flow.specs.declared.flow.Flow.{Flow}
use Rattle.flow.specs.declared.token.SuperframeToken.{SuperframeToken}
use Rattle.flow.specs.Calls.{Tied}
use Rattle.flow.specs.Happening.{opening_reply, reading_reply}
use Rattle.flow.proofs.Happens.{event_opening, event_offer, event_closing, event_reading}
use Rattle.script.specs.declared.reply.Answered.{Answered}
use Rattle.script.specs.declared.reply.Reply.{Reply}
use Rattle.script.specs.declared.session.Session.{Session}
use Rattle.script.specs.declared.step.Step.{Step}
use Rattle.script.specs.declared.step.Step.TheVariants.{Open, Offer, Close, Drain}
use Rattle.script.specs.Answers.{opening_answer, handed_out}
use Rattle.script.specs.Events.{Makes, answer_told, told, EventsOf, Tells, ByTheRules, by_opening, by_offer, by_closing, by_reading, Goes}
use Rattle.script.specs.Scripts.{Follows}
use Rattle.script.specs.Steps.{OffersFrom, ClosesFrom, ReadInto, ReadsOn, Does}

-- 1. Replies, in the words of histories.

opening_told : (answer : Result SuperframeToken OpenFault) → told (opening_answer answer) ≡ opening_reply answer ∷ []
opening_told (Ok token) = refl
opening_told (Err e) = refl

-- of the buffer only the packet that was handed out is told
reading_kept : (answer : Result Reading BufferTooShort) (after : List ℕ) → reading_reply answer (take (handed_out answer) after) ≡ reading_reply answer after
reading_kept (Ok (Sound len)) after = ap (λ (b : List ℕ). answers (answering.handed_out answering.sound b)) (take-take len len after (omega arith))
reading_kept (Ok (Damaged len)) after = ap (λ (b : List ℕ). answers (answering.handed_out answering.damaged b)) (take-take len len after (omega arith))
reading_kept (Ok (Foreign number len)) after =
    ap (λ (b : List ℕ). answers (answering.handed_out (answering.foreign number) b)) (take-take len len after (omega arith))
reading_kept (Ok Short) after = refl
reading_kept (Ok (Lost frame dropped)) after = refl
reading_kept (Ok (Torn frame dropped torn)) after = refl
reading_kept (Ok (Mark dropped)) after = refl
reading_kept (Ok Nothing) after = refl
reading_kept (Err e) after = refl

module _
    {C K S : Type 0} (slots : C → List Slot) (space : C → ℕ) (made : List ℕ → Slot → Type 0) (tied : C → Type 0)
    (width : ℕ) (value : List ℕ → List ℕ) (verdict : S → List ℕ → Option ℕ)
  where
    -- 2. Events one after another.

    rules_tie : (e : Event) (old new : Flow C K S) → ByTheRules slots space made tied width value verdict e old new → Tied space tied old → Tied space tied new
    rules_tie e old new (by_opening n answer exact tells) ties = exact.ties ties
    rules_tie e old new (by_offer token p answer exact tells) ties = exact.ties ties
    rules_tie e old new (by_closing token answer exact tells) ties = exact.ties ties
    rules_tie e old new (by_reading before after answer exact tells) ties = exact.ties ties

    pub goes_tie : (h : History) (old new : Flow C K S) → Goes slots space made tied width value verdict h old new → Tied space tied old → Tied space tied new
    goes_tie [] old new same ties = subst (Tied space tied) (sym same) ties
    goes_tie (e ∷ h) old new goes ties = goes_tie h goes.0 new goes.2 (rules_tie e old goes.0 goes.1 ties)

    pub goes_append : (h k : History) (old mid new : Flow C K S) → Goes slots space made tied width value verdict h old mid → Goes slots space made tied width value verdict k mid new → Goes slots space made tied width value verdict (h ++ k) old new
    goes_append [] k old mid new same goes = subst (λ (f : Flow C K S). Goes slots space made tied width value verdict k f new) same goes
    goes_append (e ∷ h) k old mid new first then = (first.0, first.1, goes_append h k first.0 mid new first.2 then)

    -- 3. The events of a step.

    pub record Has (step : Step) (reply : Reply) (old new : Flow C K S) : Type 0 where
      pub events : History
      pub tells : EventsOf step reply events
      pub goes : Goes slots space made tied width value verdict events old new

    has_none : (step : Step) (reply : Reply) (old new : Flow C K S) → told reply ≡ [] → new ≡ old → Has step reply old new
    has_none step reply old new none same = record { events = []; tells = record { calls = tt; replies = sym none }; goes = same }

    has_one : (step : Step) (reply : Reply) (old new : Flow C K S) (e : Event) → Makes step e.call → told reply ≡ e.reply ∷ []
        → ByTheRules slots space made tied width value verdict e old new → Has step reply old new
    has_one step reply old new e call one rules =
        record { events = e ∷ []; tells = record { calls = (call, tt); replies = sym one }; goes = (new, rules, refl) }

    module _ (reach : ℕ) (sized : (x : List ℕ) → length (value x) ≡ width) (detects : Detects reach value) where
      -- one reading
      read_event : (before : List ℕ) (a : Answered) (old new : Session C K S) → ReadInto slots space made tied width value verdict before a old new
          → (e : Event) × (e.call ≡ reading) × (e.reply ≡ answer_told a) × ByTheRules slots space made tied width value verdict e old.flow new.flow
      read_event before a old new read =
          let has = event_reading slots space made tied width reach value verdict sized detects before read.after a.answer old.flow new.flow read.exact in (
            has.0,
            has.1.call_is,
            has.1.reply_is ∙ sym (ap (reading_reply a.answer) read.packet_is ∙ reading_kept a.answer read.after),
            by_reading before read.after a.answer read.exact has.1,
          )

      -- readings one after another
      reads_events : (step : Step) → Makes step reading → (as' : List Answered) (old new : Session C K S) → ReadsOn slots space made tied width value verdict as' old new
          → (h : History) × AllByRecursion (λ (e : Event). Makes step e.call) h × (map (λ (e : Event). e.reply) h ≡ map answer_told as') × Goes slots space made tied width value verdict h old.flow new.flow
      reads_events step is [] old new same = ([], tt, refl, ap (λ (s : Session C K S). s.flow) same)
      reads_events step is (a ∷ more) old new reads =
          let mid = reads.0 in
          let one = read_event (replicate 2044 0) a old mid reads.1 in
          let rest = reads_events step is more mid new reads.2 in (
            one.0 ∷ rest.0,
            (subst (Makes step) (sym one.1) is, rest.1),
            ap₂ (λ (r : history.Reply) (rs : List history.Reply). r ∷ rs) one.2 rest.2,
            (mid.flow, one.3, rest.3),
          )

      offer_events : (hand : Option SuperframeToken) (packet : Vec ℕ Global) (reply : Reply) (old new : Session C K S)
          → OffersFrom slots space made tied width value verdict hand (vec_items packet) reply old new → Tied space tied old.flow → Has (Offer packet) reply old.flow new.flow
      offer_events None packet reply old new done ties = has_none (Offer packet) reply old.flow new.flow (ap told done.reply_is) done.same.0
      offer_events (Some token) packet reply old new done ties =
          let has = event_offer slots space made tied width reach value verdict sized detects token (vec_items packet) done.answer old.flow new.flow done.exact ties in
          has_one (Offer packet) reply old.flow new.flow has.0 has.1.call_is
          (ap told done.reply_is ∙ ap (λ (r : history.Reply). r ∷ []) (sym has.1.reply_is))
          (by_offer token (vec_items packet) done.answer done.exact has.1)

      close_events : (hand : Option SuperframeToken) (reply : Reply) (old new : Session C K S)
          → ClosesFrom slots space made tied width value verdict hand reply old new → Tied space tied old.flow → Has Close reply old.flow new.flow
      close_events None reply old new done ties = has_none Close reply old.flow new.flow (ap told done.reply_is) done.same.0
      close_events (Some token) reply old new done ties =
          let has = event_closing slots space made tied width reach value verdict sized detects token (Ok tt) old.flow new.flow done.exact ties in
          has_one Close reply old.flow new.flow has.0 has.1.call_is
          (ap told done.reply_is ∙ ap (λ (r : history.Reply). r ∷ []) (sym has.1.reply_is))
          (by_closing token (Ok tt) done.exact has.1)

      step_events : (step : Step) (reply : Reply) (old new : Session C K S) → Does slots space made tied width value verdict step reply old new → Tied space tied old.flow
          → Has step reply old.flow new.flow
      step_events (Open n) reply old new does ties =
          let has = event_opening slots space made tied width reach value verdict sized detects n does.answer old.flow new.flow does.exact ties in
          has_one (Open n) reply old.flow new.flow has.0 has.1.call_is
          (ap told does.reply_is ∙ opening_told does.answer ∙ ap (λ (r : history.Reply). r ∷ []) (sym has.1.reply_is))
          (by_opening n does.answer does.exact has.1)
      step_events (Offer packet) reply old new does ties = offer_events old.hand packet reply old new does ties
      step_events Close reply old new does ties = close_events old.hand reply old new does ties
      step_events (Step.Read size) reply old new does ties =
          let one = read_event (replicate size 0) does.answered old new does.read in
          has_one (Step.Read size) reply old.flow new.flow one.0 one.1 (ap told does.reply_is ∙ ap (λ (r : history.Reply). r ∷ []) (sym one.2)) one.3
      step_events Drain reply old new does ties =
          let all = reads_events Drain refl (vec_items does.answers) old new does.reads in
          record { events = all.0; tells = record { calls = all.1; replies = all.2 ∙ sym (ap told does.reply_is) }; goes = all.3 }
      step_events Step.Room reply old new does ties = has_none Step.Room reply old.flow new.flow (ap told does.reply_is) does.same.0
      step_events Step.Waits reply old new does ties = has_none Step.Waits reply old.flow new.flow (ap told does.reply_is) does.same.0

      -- 4. The events of a script.

      pub record HasAll (steps : List Step) (replies : List Reply) (old new : Flow C K S) : Type 0 where
        pub events : History
        pub tells : Tells steps replies events
        pub goes : Goes slots space made tied width value verdict events old new

      pub script_events : (steps : List Step) (replies : List Reply) (old new : Session C K S) → Follows slots space made tied width value verdict steps replies old new → Tied space tied old.flow
          → HasAll steps replies old.flow new.flow
      script_events [] [] old new same ties = record { events = []; tells = refl; goes = ap (λ (s : Session C K S). s.flow) same }
      script_events [] (reply ∷ replies) old new follows ties = absurd follows
      script_events (step ∷ steps) [] old new follows ties = absurd follows
      script_events (step ∷ steps) (reply ∷ replies) old new follows ties =
          let mid = follows.0 in
          let first = step_events step reply old mid follows.1 ties in
          let then = script_events steps replies mid new follows.2 (goes_tie first.events old.flow mid.flow first.goes ties) in
          record {
            events = first.events ++ then.events;
            tells = (first.events, then.events, refl, first.tells, then.tells);
            goes = goes_append first.events then.events old.flow mid.flow new.flow first.goes then.goes;
          }
