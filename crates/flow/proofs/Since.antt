-- A flow since its set-up, from one call to the next; and the run law of each history.
use Rattle.std.proofs.Common.{◌≡◌, ℕ, ◌+◌, ◌<◌, ◌≤◌, Bool, false, cond, List, [], ◌∷◌, ◌++◌, map, length, Some, None, Option, sym, refl, ap, ◌∙◌, subst, ap₂, arith}
use Rattle.std.specs.List.{AllByRecursion}
use Rattle.std.proofs.ByRecursion.{All-append}
use Rattle.std.proofs.lemmas.List.{append-nil, append_assoc, map-append, length-append, nil_from_length}
use Rattle.framing.specs.declared.slot.Slot.{Slot}
use Rattle.framing.specs.Fragments.{Fragment}
use Rattle.channel.specs.Sending.{Sent, what, became, AllMade}
use Rattle.channel.proofs.Sends.{all_made_join}
use Rattle.checksum.specs.Detection.{Detects}
use Rattle.receiver.specs.Reading.{Reader, new_reader, Told, packet, listed, completes, after_all, aligned, told_of, standing_after, owed, reading}
use Rattle.receiver.specs.Answering.{Answer, answer_to, nothing}
use Rattle.runlaw.specs.History as history
use Rattle.runlaw.specs.History.{Call, Reply, Event, History, offer, refused, done, answers, all_sent, all_taken, Came, packets_accepted, accepted_by, answers_given, told_by}
use Rattle.runlaw.specs.Law.{RunLaw}
use Rattle.runlaw.specs.Theorem.{answered, Admitted}
use Rattle.runlaw.proofs.Events.{one_more, ends_with_last}
use Rattle.runlaw.proofs.Holds.{run_law_holds}
use Rattle.flow.specs.Asking.{free}
use Rattle.flow.specs.Keeping.{Keeps}
use Rattle.flow.specs.Since.{Since, Read, event, number_behind}
use Rattle.flow.specs.Writing.{State, idle, opening, offering, closing}
use Rattle.flow.proofs.Keeps.{keeps_idle, keeps_opening, keeps_offering, keeps_closing}
use Rattle.flow.proofs.Readings.{told_append, standing_append, number_append, reading_goes, answer_told, nothing_told}
use Rattle.flow.proofs.Shows.{well_written, carries_packets}

-- 1. One event more.

sent_more : (h : History) (e : Event) → all_sent (h ++ (e ∷ [])) ≡ all_sent h ++ e.sent
sent_more h e = one_more (λ e. e.sent) h e

taken_more : (h : History) (e : Event) → all_taken (h ++ (e ∷ [])) ≡ all_taken h ++ e.taken
taken_more h e = one_more (λ e. e.taken) h e

accepted_more : (h : History) (e : Event) → packets_accepted (h ++ (e ∷ [])) ≡ packets_accepted h ++ accepted_by e.call e.reply
accepted_more h e = one_more (λ e. accepted_by e.call e.reply) h e

given_more : (h : History) (e : Event) → answers_given (h ++ (e ∷ [])) ≡ answers_given h ++ told_by e.reply
given_more h e = one_more (λ e. told_by e.reply) h e

-- What was sent became what was taken and then what waits, one event later.
came_more : (h : History) (e : Event) (old new : List Slot) → Came h old → old ++ map became e.sent ≡ e.taken ++ new → Came (h ++ (e ∷ [])) new
came_more h e old new came here =
    ap (map became) (sent_more h e) ∙ map-append became (all_sent h) e.sent
    ∙ ap (λ l. l ++ map became e.sent) came
    ∙ append_assoc (all_taken h) old (map became e.sent)
    ∙ ap (λ l. all_taken h ++ l) here
    ∙ sym (append_assoc (all_taken h) e.taken new)
    ∙ ap (λ l. l ++ new) (sym (taken_more h e))

-- 2. The readings so far.

module _ (fasb : Bool) (width : ℕ) (value : List ℕ → List ℕ) (refusal : List ℕ → Option ℕ) where
  abbrev says : List Told → List Answer
  says = answered width value refusal

  says_append : (s t : List Told) → says (s ++ t) ≡ says s ++ says t
  says_append s t = map-append (λ t. answer_to width value refusal (Some t)) s t

  -- what was answered, and then what a reader that stands so answers to more slots
  read_on : (given : List Answer) (taken : List Slot) (r : Reader) (more : List Slot)
      → Read fasb width value refusal given taken r
      → given ++ says (map packet (completes r.standing r.in_hand) ++ told_of fasb width (after_all r.standing r.in_hand) r.number more)
      ≡ says (told_of fasb width aligned 0 (taken ++ more))
  read_on given taken r more read =
      let first : List Told = map packet (completes r.standing r.in_hand) in
      let next : List Told = told_of fasb width (after_all r.standing r.in_hand) r.number more in
      ap (λ l. given ++ l) (says_append first next)
      ∙ sym (append_assoc given (says first) (says next))
      ∙ ap₂ (λ (a b : List Answer). a ++ b) read.told
      (ap₂ (λ st n. says (told_of fasb width st n more)) read.stands read.numbered)
      ∙ sym (says_append (told_of fasb width aligned 0 taken) (told_of fasb width (standing_after fasb width aligned taken) (number_behind 0 taken) more))
      ∙ ap says (sym (told_append fasb width aligned 0 taken more))

  read_more : (given : List Answer) (taken : List Slot) (r : Reader) (slots : List Slot) → Read fasb width value refusal given taken r
      → Read fasb width value refusal (given ++ says (listed (reading fasb width r slots).told)) (taken ++ (reading fasb width r slots).taken) (reading fasb width r slots).reader
  read_more given taken r slots read =
      let o = reading fasb width r slots in
      let goes = reading_goes fasb width r slots in
      let left : List Told = map packet (completes o.reader.standing o.reader.in_hand) in
      record {
        stands = goes.stands ∙ ap (λ st. standing_after fasb width st o.taken) read.stands ∙ sym (standing_append fasb width aligned taken o.taken);
        numbered = goes.numbered ∙ ap (λ n. number_behind n o.taken) read.numbered ∙ sym (number_append 0 taken o.taken);
        told =
            append_assoc given (says (listed o.told)) (says left)
            ∙ ap (λ l. given ++ l) (sym (says_append (listed o.told) left) ∙ ap says goes.tells)
            ∙ read_on given taken r o.taken read;
      }

-- 3. From call to call.

module _
    (fasb : Bool) (width : ℕ) (value : List ℕ → List ℕ) (refusal : List ℕ → Option ℕ) (made : List ℕ → Slot → Type 0)
  where
    abbrev checked : List (List ℕ) → List (List ℕ)
    checked ps = map (λ p. p ++ value p) ps

    pub since_new : Since fasb width value refusal made [] idle new_reader []
    since_new = record {
      came = refl;
      made_so = tt;
      admitted = tt;
      wrote = keeps_idle fasb width;
      read = record { stands = refl; numbered = refl; told = refl };
      settled = λ _. refl;
      read_out = λ _. refl;
    }

    module _ {h : History} {s : State} {r : Reader} {slots : List Slot} (since : Since fasb width value refusal made h s r slots) where
      keeps_more : (e : Event) (s' : State)
          → Keeps fasb width (checked (packets_accepted h ++ accepted_by e.call e.reply)) (map what (all_sent h) ++ map what e.sent) s'
          → Keeps fasb width (checked (packets_accepted (h ++ (e ∷ [])))) (map what (all_sent (h ++ (e ∷ [])))) s'
      keeps_more e s' keeps =
          subst (λ ps. Keeps fasb width (checked ps) (map what (all_sent (h ++ (e ∷ [])))) s') (sym (accepted_more h e))
          (subst (λ puts. Keeps fasb width (checked (packets_accepted h ++ accepted_by e.call e.reply)) puts s')
          (sym (ap (map what) (sent_more h e) ∙ map-append what (all_sent h) e.sent)) keeps)

      -- a call of the writing side
      since_wrote : (call : Call) (reply : Reply) (sent : List Sent) (s' : State)
          → told_by reply ≡ []
          → AllMade made sent
          → AllByRecursion (Admitted refusal) (accepted_by call reply)
          → Keeps fasb width (checked (packets_accepted h ++ accepted_by call reply)) (map what (all_sent h) ++ map what sent) s'
          → (call ≡ history.closing → reply ≡ done → s'.begun ≡ [])
          → (reply ≡ answers nothing → ⊥)
          → Since fasb width value refusal made (h ++ (event call reply sent [] ∷ [])) s' r (slots ++ map became sent)
      since_wrote call reply sent s' quiet made_so admitted keeps settled no-nothing =
          let e : Event = event call reply sent [] in
          record {
            came = came_more h e slots (slots ++ map became sent) since.came refl;
            made_so = subst (AllMade made) (sym (sent_more h e)) (all_made_join made (all_sent h) sent since.made_so made_so);
            admitted = subst (AllByRecursion (Admitted refusal)) (sym (accepted_more h e)) (All-append (Admitted refusal) (packets_accepted h) (accepted_by call reply) since.admitted admitted);
            wrote = keeps_more e s' keeps;
            read =
                subst (λ given. Read fasb width value refusal given (all_taken (h ++ (e ∷ []))) r)
                (sym (given_more h e ∙ ap (λ l. answers_given h ++ l) quiet ∙ append-nil (answers_given h)))
                (subst (λ taken. Read fasb width value refusal (answers_given h) taken r) (sym (taken_more h e ∙ append-nil (all_taken h))) since.read);
            settled = λ ends. let last = ends_with_last history.closing done h e ends in settled last.0 last.1;
            read_out = λ ends. absurd (no-nothing (ends_with_last history.reading (answers nothing) h e ends).1);
          }

      pub since_refused : (call : Call) (question : ℕ) (inside : Option ℕ)
          → Since fasb width value refusal made (h ++ (event call (refused question inside) [] [] ∷ [])) s r slots
      since_refused call question inside =
          subst (λ l. Since fasb width value refusal made (h ++ (event call (refused question inside) [] [] ∷ [])) s r l) (append-nil slots)
          (since_wrote call (refused question inside) [] s refl tt (none_admitted call)
          (subst (λ ps. Keeps fasb width (checked ps) (map what (all_sent h) ++ []) s) (sym (ap (λ l. packets_accepted h ++ l) (none_accepted call) ∙ append-nil (packets_accepted h)))
          (subst (λ puts. Keeps fasb width (checked (packets_accepted h)) puts s) (sym (append-nil (map what (all_sent h)))) since.wrote))
          (λ _ no. let z : ◌≡◌ {A = ℕ} 0 1 = cc in absurd (omega arith))
          (λ no. let z : ◌≡◌ {A = ℕ} 0 1 = cc in omega arith))
        where
          none_accepted : (c : Call) → accepted_by c (refused question inside) ≡ []
          none_accepted (history.opening n) = refl
          none_accepted (offer p) = refl
          none_accepted history.closing = refl
          none_accepted history.reading = refl

          none_admitted : (c : Call) → AllByRecursion (Admitted refusal) (accepted_by c (refused question inside))
          none_admitted (history.opening n) = tt
          none_admitted (offer p) = tt
          none_admitted history.closing = tt
          none_admitted history.reading = tt

      pub since_opening : (n : ℕ) (sent : List Sent) → s.opened ≡ false → 0 < n → map what sent ≡ (opening n s).puts → AllMade made sent
          → Since fasb width value refusal made (h ++ (event (history.opening n) done sent [] ∷ [])) (opening n s).state r (slots ++ map became sent)
      since_opening n sent shut some each made_so =
          since_wrote (history.opening n) done sent (opening n s).state refl made_so tt
          (subst (λ ps. Keeps fasb width (checked ps) (map what (all_sent h) ++ map what sent) (opening n s).state) (sym (append-nil (packets_accepted h)))
          (subst (λ puts. Keeps fasb width (checked (packets_accepted h)) (map what (all_sent h) ++ puts) (opening n s).state) (sym each)
          (keeps_opening n since.wrote shut some)))
          (λ no _. let z : ◌≡◌ {A = ℕ} 0 1 = cc in absurd (omega arith))
          (λ no. let z : ◌≡◌ {A = ℕ} 0 1 = cc in omega arith)

      pub since_offer : (p : List ℕ) (sent : List Sent) → ((x : List ℕ) → length (value x) ≡ width) → 1 ≤ length p → length p ≤ 2044
          → refusal p ≡ None → cond fasb 1 (length p + width) ≤ free s.left s.begun
          → map what sent ≡ (offering (p ++ value p) s).puts → AllMade made sent
          → Since fasb width value refusal made (h ++ (event (offer p) done sent [] ∷ [])) (offering (p ++ value p) s).state r (slots ++ map became sent)
      since_offer p sent sized some short admitted fits each made_so =
          let long : length (p ++ value p) ≡ length p + width = length-append p (value p) ∙ ap (λ n. length p + n) (sized p) in
          let room : cond fasb 1 (length (p ++ value p)) ≤ free s.left s.begun = subst (λ n. cond fasb 1 n ≤ free s.left s.begun) (sym long) fits in
          since_wrote (offer p) done sent (offering (p ++ value p) s).state refl made_so ((admitted, some), tt)
          (subst (λ ps. Keeps fasb width ps (map what (all_sent h) ++ map what sent) (offering (p ++ value p) s).state) (sym (map-append (λ p. p ++ value p) (packets_accepted h) (p ∷ [])))
          (subst (λ puts. Keeps fasb width (checked (packets_accepted h) ++ ((p ++ value p) ∷ [])) (map what (all_sent h) ++ puts) (offering (p ++ value p) s).state) (sym each)
          (keeps_offering (p ++ value p) since.wrote (omega arith) (omega arith) room)))
          (λ no _. let z : ◌≡◌ {A = ℕ} 0 1 = cc in absurd (omega arith))
          (λ no. let z : ◌≡◌ {A = ℕ} 0 1 = cc in omega arith)

      pub since_closing : (sent : List Sent) → map what sent ≡ (closing s).puts → AllMade made sent
          → Since fasb width value refusal made (h ++ (event history.closing done sent [] ∷ [])) (closing s).state r (slots ++ map became sent)
      since_closing sent each made_so =
          since_wrote history.closing done sent (closing s).state refl made_so tt
          (subst (λ ps. Keeps fasb width (checked ps) (map what (all_sent h) ++ map what sent) (closing s).state) (sym (append-nil (packets_accepted h)))
          (subst (λ puts. Keeps fasb width (checked (packets_accepted h)) (map what (all_sent h) ++ puts) (closing s).state) (sym each)
          (keeps_closing since.wrote)))
          (λ _ _. refl)
          (λ no. let z : ◌≡◌ {A = ℕ} 0 1 = cc in omega arith)

      pub since_reading : (rest : List Slot) → slots ≡ (reading fasb width r slots).taken ++ rest
          → Since fasb width value refusal made
          (h ++ (event history.reading (answers (answer_to width value refusal (reading fasb width r slots).told)) [] (reading fasb width r slots).taken ∷ []))
          s (reading fasb width r slots).reader rest
      since_reading rest taken =
          let o = reading fasb width r slots in
          let e : Event = event history.reading (answers (answer_to width value refusal o.told)) [] o.taken in
          record {
            came = came_more h e slots rest since.came (append-nil slots ∙ taken);
            made_so = subst (AllMade made) (sym (sent_more h e ∙ append-nil (all_sent h))) since.made_so;
            admitted = subst (AllByRecursion (Admitted refusal)) (sym (accepted_more h e ∙ append-nil (packets_accepted h))) since.admitted;
            wrote =
                keeps_more e s
                (subst (λ ps. Keeps fasb width (checked ps) (map what (all_sent h) ++ []) s) (sym (append-nil (packets_accepted h)))
                (subst (λ puts. Keeps fasb width (checked (packets_accepted h)) puts s) (sym (append-nil (map what (all_sent h)))) since.wrote));
            read =
                subst (λ given. Read fasb width value refusal given (all_taken (h ++ (e ∷ []))) o.reader)
                (sym (given_more h e ∙ ap (λ l. answers_given h ++ l) (answer_told width value refusal o.told)))
                (subst (λ taken. Read fasb width value refusal (answers_given h ++ answered width value refusal (listed o.told)) taken o.reader) (sym (taken_more h e))
                (read_more fasb width value refusal (answers_given h) (all_taken h) r slots since.read));
            settled = λ ends. absurd (not_closing (ends_with_last history.closing done h e ends).0);
            read_out = λ ends. out (nothing_told width value refusal o.told (same_answer (answer_to width value refusal o.told) nothing (ends_with_last history.reading (answers nothing) h e ends).1));
          }
        where
          not_closing : history.reading ≡ history.closing → ⊥
          not_closing never = let z : ◌≡◌ {A = ℕ} 0 1 = cc in omega arith

          same_answer : (a b : Answer) → answers a ≡ answers b → a ≡ b
          same_answer a b x = cc

          out : (reading fasb width r slots).told ≡ None → owed fasb width (reading fasb width r slots).reader rest ≡ []
          out none =
              let left = (reading_goes fasb width r slots).nothing_left none in
              let o = reading fasb width r slots in
              let counts = length-append o.taken rest in
              let sizes : length o.taken + length rest ≡ length o.taken = sym counts ∙ ap length (sym taken) ∙ ap length (sym left.0) in
              let rest_none : rest ≡ [] = nil_from_length rest (omega arith) in
              ap₂ (λ (fs : List Fragment) (l : List Slot). map packet (completes o.reader.standing fs) ++ told_of fasb width (after_all o.reader.standing fs) o.reader.number l) left.1 rest_none

      pub since_law : (reach : ℕ) → ((x : List ℕ) → length (value x) ≡ width) → Detects reach value → RunLaw fasb width reach value h
      since_law reach sized detects =
          run_law_holds fasb width reach value refusal h (record {
            sized = sized;
            detects = detects;
            written = well_written fasb width None (all_sent h) since.wrote.well_put;
            carries = carries_packets fasb width value h s since.wrote since.settled;
            admitted = since.admitted;
            untold = owed fasb width r slots;
            told =
                read_on fasb width value refusal (answers_given h) (all_taken h) r slots since.read
                ∙ ap (λ l. answered width value refusal (told_of fasb width aligned 0 l)) (sym since.came);
            read_out = since.read_out;
          })
