-- Each call of a flow adds one event to its history, and the run law holds of it.
use Rattle.std.proofs.Common.{◌≡◌, ℕ, ◌+◌, ◌<◌, true, false, cond, not, leb, List, [], ◌∷◌, ◌++◌, map, length, is_some, Some, None, Ok, Err, Option, Result, sym, refl, ap, ◌∙◌, subst, arith}
use Rattle.std.proofs.lemmas.List.{append-nil}
use Rattle.std.proofs.lemmas.Bool.{leb-true, and_parts, not-true}
use Rattle.framing.specs.declared.slot.Slot.{Slot}
use Rattle.framing.proofs.Rendered.{all_yes}
use Rattle.channel.specs.Sending.{Put, Sent, what, became, Went}
use Rattle.checksum.specs.Detection.{Detects}
use Rattle.receiver.specs.Reading.{Reader, new_reader}
use Rattle.receiver.specs.Readings.{said, number}
use Rattle.receiver.specs.Views.{view}
use Rattle.receiver.specs.declared.answer.Reading.{Reading}
use Rattle.receiver.specs.declared.answer.BufferTooShort.{BufferTooShort}
use Rattle.receiver.specs.declared.terms.Terms.{Terms}
use Rattle.runlaw.specs.History as history
use Rattle.runlaw.specs.History.{Call, Reply, Event, History, offer, refused, done, answers}
use Rattle.runlaw.specs.Law.{RunLaw}
use Rattle.flow.specs.declared.faults.OpenFault.{OpenFault}
use Rattle.flow.specs.declared.faults.OfferFault.{OfferFault}
use Rattle.flow.specs.declared.faults.CloseFault.{CloseFault}
use Rattle.flow.specs.declared.flow.Flow.{Flow}
use Rattle.flow.specs.declared.token.SuperframeToken.{SuperframeToken}
use Rattle.flow.specs.Asking.{free, opening_questions, offer_questions}
use Rattle.flow.specs.Calls.{Tied, Steady, SetUp, OpeningAnswer, OfferAnswer, ClosingAnswer, ReadingAnswer, outcome, due}
use Rattle.flow.specs.Happening.{HistoryOf, EventOf, Happened, opening_reply, offer_reply, closing_reply, reading_reply, if_accepted}
use Rattle.flow.specs.Numbers.{open_number, offer_number, close_number, inside}
use Rattle.flow.specs.Since.{Since, event}
use Rattle.flow.specs.Writing.{State, Step, state_of, idle, opening, offering, closing}
use Rattle.flow.proofs.Since.{since_new, since_refused, since_opening, since_offer, since_closing, since_reading, since_law}

none_some : (o : Option ℕ) → not (is_some o) ≡ true → o ≡ None
none_some None e = refl
none_some (Some n) e = let z : ◌≡◌ {A = ℕ} 0 1 = cc in absurd (omega arith)

-- an event by its parts
event_is : {call : Call} {reply : Reply} {sent : List Sent} {taken : List Slot} (e : Event)
    → e.call ≡ call → e.reply ≡ reply → e.sent ≡ sent → e.taken ≡ taken → e ≡ event call reply sent taken
event_is e call reply sent taken = λ i. record { call = call i; reply = reply i; sent = sent i; taken = taken i }

none_sent : (sent : List Sent) → map what sent ≡ [] → sent ≡ []
none_sent [] e = refl
none_sent (s ∷ sent) e = let z : ◌≡◌ {A = ℕ} 0 1 = cc in absurd (omega arith)

module _
    {C K S : Type 0} (slots : C → List Slot) (space : C → ℕ) (made : List ℕ → Slot → Type 0) (tied : C → Type 0)
    (width reach : ℕ) (value : List ℕ → List ℕ) (verdict : S → List ℕ → Option ℕ)
    (sized : (x : List ℕ) → length (value x) ≡ width) (detects : Detects reach value)
  where
    abbrev Of : History → Flow C K S → Type 0
    Of h f = HistoryOf slots space made tied width value verdict h f

    -- the sides that a call left are those of the new flow
    arrived : (old new : Flow C K S) (h : History) (st : State) (rd : Reader) (sl : List Slot)
        → Since old.terms.fasb width value (verdict old.terms.service) made h st rd sl
        → state_of new.writer ≡ st → view new.reader ≡ rd → slots new.channel ≡ sl → Steady old new → Tied space tied new
        → Of h new
    arrived old new h st rd sl since writer reader channel steady ties = (
      subst (λ (t : Terms K S). Since t.fasb width value (verdict t.service) made h (state_of new.writer) (view new.reader) (slots new.channel)) (sym steady.terms)
          (subst (λ x. Since old.terms.fasb width value (verdict old.terms.service) made h x (view new.reader) (slots new.channel)) (sym writer)
          (subst (λ x. Since old.terms.fasb width value (verdict old.terms.service) made h st x (slots new.channel)) (sym reader)
          (subst (λ x. Since old.terms.fasb width value (verdict old.terms.service) made h st rd x) (sym channel) since))),
      ties,
    )

    -- An event of a call, and what follows where a history has it besides.

    abbrev Tells : Call → Reply → List Put → List Slot → (old new : Flow C K S) → Event → Type 0
    Tells call reply puts takes old new e = EventOf slots made call reply puts takes old new e

    abbrev Next : History → (old new : Flow C K S) → Event → Type 0
    Next h old new e = Of (h ++ (e ∷ [])) new × RunLaw old.terms.fasb width reach value (h ++ (e ∷ []))

    -- 1. A call has an event.

    event_refused : (call : Call) (question : ℕ) (within : Option ℕ) (old new : Flow C K S) → new ≡ old
        → (e : Event) × Tells call (refused question within) [] [] old new e
    event_refused call question within old new same = (
      event call (refused question within) [] [],
      record {
        call_is = refl;
        reply_is = refl;
        sent_is = refl;
        made_so = tt;
        taken_is = refl;
        slots_are = append-nil (slots old.channel) ∙ ap (λ (f : Flow C K S). slots f.channel) (sym same);
      },
    )

    event_wrote : (call : Call) (puts : List Put) (old new : Flow C K S)
        → Went made puts (slots old.channel) (space old.channel) (slots new.channel) (space new.channel)
        → (e : Event) × Tells call done puts [] old new e
    event_wrote call puts old new went = (
      event call done went.sent [],
      record {
        call_is = refl;
        reply_is = refl;
        sent_is = went.each;
        made_so = went.made_so;
        taken_is = refl;
        slots_are = sym went.grew;
      },
    )

    pub event_opening : (n : ℕ) (r : Result SuperframeToken OpenFault) (old new : Flow C K S)
        → OpeningAnswer slots space made tied n r old new → Tied space tied old
        → (e : Event) × Tells (history.opening n) (opening_reply r) (if_accepted r (opening n (state_of old.writer)).puts) [] old new e
    event_opening n (Ok token) old new a ties = event_wrote (history.opening n) (opening n (state_of old.writer)).puts old new (a.sends ties)
    event_opening n (Err e) old new a ties = event_refused (history.opening n) (open_number e) None old new a.same

    pub event_offer : (token : SuperframeToken) (p : List ℕ) (r : Result (Unit {0}) OfferFault) (old new : Flow C K S)
        → OfferAnswer slots space made tied width value verdict token p r old new → Tied space tied old
        → (e : Event) × Tells (offer p) (offer_reply r) (if_accepted r (offering (p ++ value p) (state_of old.writer)).puts) [] old new e
    event_offer token p (Ok x) old new a ties = event_wrote (offer p) (offering (p ++ value p) (state_of old.writer)).puts old new (a.sends ties)
    event_offer token p (Err e) old new a ties = event_refused (offer p) (offer_number e) (inside e) old new a.same

    pub event_closing : (token : SuperframeToken) (r : Result (Unit {0}) CloseFault) (old new : Flow C K S)
        → ClosingAnswer slots space made tied token r old new → Tied space tied old
        → (e : Event) × Tells history.closing (closing_reply r) (if_accepted r (closing (state_of old.writer)).puts) [] old new e
    event_closing token (Ok x) old new a ties = event_wrote history.closing (closing (state_of old.writer)).puts old new (a.sends ties)
    event_closing token (Err e) old new a ties = event_refused history.closing (close_number e) None old new a.same.0

    pub event_reading : (before after : List ℕ) (r : Result Reading BufferTooShort) (old new : Flow C K S)
        → ReadingAnswer slots space tied width value verdict before after r old new
        → (e : Event) × Tells history.reading (reading_reply r after) [] (if_accepted r (outcome slots width old).taken) old new e
    event_reading before after (Ok x) old new a = (
      event history.reading (answers (said x after)) [] (outcome slots width old).taken,
      record {
        call_is = refl;
        reply_is = refl;
        sent_is = refl;
        made_so = tt;
        taken_is = refl;
        slots_are = append-nil (slots old.channel) ∙ a.takes;
      },
    )
    event_reading before after (Err e) old new a = event_refused history.reading (number e) None old new a.same.0

    -- 2. A history goes on with any event of the call, and the law holds of it.

    next_refused : (call : Call) (question : ℕ) (within : Option ℕ) (h : History) (old new : Flow C K S) → new ≡ old → Of h old
        → (e : Event) → Tells call (refused question within) [] [] old new e → Next h old new e
    next_refused call question within h old new same was e tells =
        let since = since_refused old.terms.fasb width value (verdict old.terms.service) made was.0 call question within in
        subst (Next h old new) (sym (event_is e tells.call_is tells.reply_is (none_sent e.sent tells.sent_is) tells.taken_is)) (
          subst (Of (h ++ (event call (refused question within) [] [] ∷ []))) (sym same) (since, was.1),
          since_law old.terms.fasb width value (verdict old.terms.service) made since reach sized detects,
        )

    -- an accepted call of the writing side
    next_wrote : (call : Call) (step : Step) (h : History) (old new : Flow C K S) (e : Event) → Tells call done step.puts [] old new e
        → Since old.terms.fasb width value (verdict old.terms.service) made (h ++ (event call done e.sent [] ∷ [])) step.state (view old.reader) (slots old.channel ++ map became e.sent)
        → state_of new.writer ≡ step.state → new.reader ≡ old.reader → Steady old new → Tied space tied new
        → Next h old new e
    next_wrote call step h old new e tells since writer reader steady ties =
        subst (Next h old new) (sym (event_is e tells.call_is tells.reply_is refl tells.taken_is)) (
          arrived old new (h ++ (event call done e.sent [] ∷ [])) step.state (view old.reader) (slots old.channel ++ map became e.sent) since
              writer (ap view reader) (sym (tells.slots_are ∙ ap (λ (taken : List Slot). taken ++ slots new.channel) tells.taken_is)) steady ties,
          since_law old.terms.fasb width value (verdict old.terms.service) made since reach sized detects,
        )

    pub next_opening : (n : ℕ) (r : Result SuperframeToken OpenFault) (old new : Flow C K S)
        → OpeningAnswer slots space made tied n r old new → (h : History) → Of h old
        → (e : Event) → Tells (history.opening n) (opening_reply r) (if_accepted r (opening n (state_of old.writer)).puts) [] old new e → Next h old new e
    next_opening n (Ok token) old new a h was e tells =
        let st = state_of old.writer in
        let yes = all_yes (opening_questions n st (space old.channel)) (sym a.asked) in
        let shut : st.opened ≡ false = not-true st.opened yes.0 in
        let some : 0 < n = leb-true 1 n (and_parts (leb 1 n) (leb n 200) yes.1.0).0 in
        next_wrote (history.opening n) (opening n st) h old new e tells
        (since_opening old.terms.fasb width value (verdict old.terms.service) made was.0 n e.sent shut some tells.sent_is tells.made_so)
        a.leaves a.reader_stays a.steady (a.ties was.1)
    next_opening n (Err f) old new a h was e tells = next_refused (history.opening n) (open_number f) None h old new a.same was e tells

    pub next_offer : (token : SuperframeToken) (p : List ℕ) (r : Result (Unit {0}) OfferFault) (old new : Flow C K S)
        → OfferAnswer slots space made tied width value verdict token p r old new → (h : History) → Of h old
        → (e : Event) → Tells (offer p) (offer_reply r) (if_accepted r (offering (p ++ value p) (state_of old.writer)).puts) [] old new e → Next h old new e
    next_offer token p (Ok x) old new a h was e tells =
        let st = state_of old.writer in
        let yes = all_yes (offer_questions token.flow old.id old.terms.fasb width (verdict old.terms.service p) p st) (sym a.asked) in
        let long = and_parts (leb 1 (length p)) (leb (length p) 2044) yes.1.0 in
        next_wrote (offer p) (offering (p ++ value p) st) h old new e tells
        (since_offer old.terms.fasb width value (verdict old.terms.service) made was.0 p e.sent sized (leb-true 1 (length p) long.0) (leb-true (length p) 2044 long.1)
        (none_some (verdict old.terms.service p) yes.1.1.0)
        (leb-true (cond old.terms.fasb 1 (length p + width)) (free st.left st.begun) yes.1.1.1.0) tells.sent_is tells.made_so)
        a.leaves a.reader_stays a.steady (a.ties was.1)
    next_offer token p (Err f) old new a h was e tells = next_refused (offer p) (offer_number f) (inside f) h old new a.same was e tells

    pub next_closing : (token : SuperframeToken) (r : Result (Unit {0}) CloseFault) (old new : Flow C K S)
        → ClosingAnswer slots space made tied token r old new → (h : History) → Of h old
        → (e : Event) → Tells history.closing (closing_reply r) (if_accepted r (closing (state_of old.writer)).puts) [] old new e → Next h old new e
    next_closing token (Ok x) old new a h was e tells =
        next_wrote history.closing (closing (state_of old.writer)) h old new e tells
        (since_closing old.terms.fasb width value (verdict old.terms.service) made was.0 e.sent tells.sent_is tells.made_so)
        a.leaves a.reader_stays a.steady (a.ties was.1)
    next_closing token (Err f) old new a h was e tells = next_refused history.closing (close_number f) None h old new a.same.0 was e tells

    pub next_reading : (before after : List ℕ) (r : Result Reading BufferTooShort) (old new : Flow C K S)
        → ReadingAnswer slots space tied width value verdict before after r old new → (h : History) → Of h old
        → (e : Event) → Tells history.reading (reading_reply r after) [] (if_accepted r (outcome slots width old).taken) old new e → Next h old new e
    next_reading before after (Ok x) old new a h was e tells =
        let o = outcome slots width old in
        let due_event : Event = event history.reading (answers (due slots width value verdict old)) [] o.taken in
        let since = since_reading old.terms.fasb width value (verdict old.terms.service) made was.0 (slots new.channel) a.takes in
        subst (Next h old new)
        (sym (event_is e tells.call_is (tells.reply_is ∙ ap answers a.says) (none_sent e.sent tells.sent_is) tells.taken_is)) (
          arrived old new (h ++ (due_event ∷ [])) (state_of old.writer) o.reader (slots new.channel) since
              (ap state_of a.writer_stays) a.leaves refl a.steady (a.ties was.1),
          since_law old.terms.fasb width value (verdict old.terms.service) made since reach sized detects,
        )
    next_reading before after (Err f) old new a h was e tells = next_refused history.reading (number f) None h old new a.same.0 was e tells

    -- 3. So each call happened.

    happened : (call : Call) (reply : Reply) (puts : List Put) (takes : List Slot) (h : History) (old new : Flow C K S)
        → ((e : Event) × Tells call reply puts takes old new e) → ((e : Event) → Tells call reply puts takes old new e → Next h old new e)
        → Happened slots space made tied width reach value verdict call reply puts takes h old new
    happened call reply puts takes h old new has next =
        let then = next has.0 has.1 in
        let tells = has.1 in
        record {
          event = has.0;
          call_is = tells.call_is;
          reply_is = tells.reply_is;
          sent_is = tells.sent_is;
          made_so = tells.made_so;
          taken_is = tells.taken_is;
          slots_are = tells.slots_are;
          goes_on = then.0;
          law = then.1;
          came = then.0.0.came;
        }

    pub happened_opening : (n : ℕ) (r : Result SuperframeToken OpenFault) (old new : Flow C K S)
        → OpeningAnswer slots space made tied n r old new → (h : History) → Of h old
        → Happened slots space made tied width reach value verdict (history.opening n) (opening_reply r) (if_accepted r (opening n (state_of old.writer)).puts) [] h old new
    happened_opening n r old new a h was =
        happened (history.opening n) (opening_reply r) (if_accepted r (opening n (state_of old.writer)).puts) [] h old new
        (event_opening n r old new a was.1) (next_opening n r old new a h was)

    pub happened_offer : (token : SuperframeToken) (p : List ℕ) (r : Result (Unit {0}) OfferFault) (old new : Flow C K S)
        → OfferAnswer slots space made tied width value verdict token p r old new → (h : History) → Of h old
        → Happened slots space made tied width reach value verdict (offer p) (offer_reply r) (if_accepted r (offering (p ++ value p) (state_of old.writer)).puts) [] h old new
    happened_offer token p r old new a h was =
        happened (offer p) (offer_reply r) (if_accepted r (offering (p ++ value p) (state_of old.writer)).puts) [] h old new
        (event_offer token p r old new a was.1) (next_offer token p r old new a h was)

    pub happened_closing : (token : SuperframeToken) (r : Result (Unit {0}) CloseFault) (old new : Flow C K S)
        → ClosingAnswer slots space made tied token r old new → (h : History) → Of h old
        → Happened slots space made tied width reach value verdict history.closing (closing_reply r) (if_accepted r (closing (state_of old.writer)).puts) [] h old new
    happened_closing token r old new a h was =
        happened history.closing (closing_reply r) (if_accepted r (closing (state_of old.writer)).puts) [] h old new
        (event_closing token r old new a was.1) (next_closing token r old new a h was)

    pub happened_reading : (before after : List ℕ) (r : Result Reading BufferTooShort) (old new : Flow C K S)
        → ReadingAnswer slots space tied width value verdict before after r old new → (h : History) → Of h old
        → Happened slots space made tied width reach value verdict history.reading (reading_reply r after) [] (if_accepted r (outcome slots width old).taken) h old new
    happened_reading before after r old new a h was =
        happened history.reading (reading_reply r after) [] (if_accepted r (outcome slots width old).taken) h old new
        (event_reading before after r old new a) (next_reading before after r old new a h was)

    pub happened_new : (channel : C) (terms : Terms K S) (id : ℕ) (new : Flow C K S)
        → SetUp space tied channel terms id new → slots channel ≡ [] → tied channel
        → Of [] new × RunLaw terms.fasb width reach value []
    happened_new channel terms id new a empty ties =
        let since = since_new new.terms.fasb width value (verdict new.terms.service) made in
        let base =
        subst (λ x. Since new.terms.fasb width value (verdict new.terms.service) made [] x (view new.reader) (slots new.channel)) (sym a.writer_is)
        (subst (λ x. Since new.terms.fasb width value (verdict new.terms.service) made [] idle x (slots new.channel)) (sym a.reader_is)
        (subst (λ x. Since new.terms.fasb width value (verdict new.terms.service) made [] idle new_reader x) (sym (ap slots a.channel_is ∙ empty)) since)) in
        ((base, a.ties ties), since_law terms.fasb width value (verdict new.terms.service) made (since_new terms.fasb width value (verdict new.terms.service) made) reach sized detects)
