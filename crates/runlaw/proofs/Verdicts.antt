-- The law on runs that are written out.
use Rattle.std.proofs.Common.{◌≡◌, ℕ, zero, suc, ◌+◌, ◌≤◌, Bool, true, false, cond, List, [], ◌∷◌, ◌++◌, map, length, get_or, None, sym, refl, ap, ◌∙◌, subst, arith}
use Rattle.std.proofs.lemmas.List.{length-append, length-map, nil_from_length}
use Rattle.framing.specs.Fragments.{fragments}
use Rattle.checksum.specs.Stretch.{bits, ChangedInOneStretch}
use Rattle.receiver.specs.Answering.{nothing}
use Rattle.runlaw.specs.History.{Event, History, closing, reading, done, answers, all_sent, packets_accepted, HandedOut, packets_handed_out, EndsWith}
use Rattle.runlaw.specs.Packets.{Piece, groups, as_cut, clear}
use Rattle.runlaw.specs.Fair.{in_body, Fair, BodiesOnly}
use Rattle.runlaw.specs.Law.{HandedOutRightly, InTurn}
use Rattle.runlaw.specs.Trials.{Allows, CanBeShown, TurnsDown, goes_well, passes_round, cuts_first_only, puts_another, finds_nothing, gives_one_a_frame, calls_all_sound, calls_all_damaged, trusts_after_gap, trusts_a_mark, one}
use Rattle.runlaw.proofs.Holds.{run_law_holds}

-- 1. What the law says in numbers.

in_turn_length : {A B : Type 0} (R : A → B → Type 0) (xs : List A) (ys : List B) → InTurn R xs ys → length xs ≡ length ys
in_turn_length R [] [] t = refl
in_turn_length R [] (y ∷ ys) t = absurd t
in_turn_length R (x ∷ xs) [] t = absurd t
in_turn_length R (x ∷ xs) (y ∷ ys) t = let more = in_turn_length R xs ys t.1 in omega arith

module _ (fasb : Bool) (reach : ℕ) (h : History) (law : Allows fasb reach h) where
  all_carried : EndsWith closing done h → length (packets_accepted h) ≤ length (groups fasb [] (all_sent h)) + cond fasb 1 0
  all_carried ends =
      let m = law.carries in
      let gs = groups fasb [] (all_sent h) in
      let few = m.settled ends in
      let sides = sym (length-map (packets_accepted h) (λ p. p ++ [])) ∙ ap length m.carried ∙ length-append (map as_cut gs) m.waiting in
      let groups_many = length-map gs as_cut in
      omega arith

  module _ (fair : Fair (all_sent h)) where
    none_beside : length (packets_handed_out h) ≤ length (clear fasb [] (all_sent h))
    none_beside =
        let m = law.hands_out fair in
        let turns = in_turn_length (HandedOutRightly 0 reach) (packets_handed_out h) m.given m.each in
        let sides = ap length m.in_order ∙ length-append m.given m.held_back in
        omega arith

    none_missing : EndsWith reading (answers nothing) h → length (clear fasb [] (all_sent h)) ≡ length (packets_handed_out h)
    none_missing ends =
        let m = law.hands_out fair in
        let turns = in_turn_length (HandedOutRightly 0 reach) (packets_handed_out h) m.given m.each in
        let sides = ap length m.in_order ∙ length-append m.given m.held_back in
        let all = ap length (m.complete ends).0 in
        omega arith

    -- where one packet is clear and one handed out, they belong together
    together : (o : HandedOut) (g : List Piece) → packets_handed_out h ≡ o ∷ [] → clear fasb [] (all_sent h) ≡ g ∷ [] → HandedOutRightly 0 reach o g
    together o g one_out one-clear =
        let m = law.hands_out fair in
        go m.given m.held_back (sym one-clear ∙ m.in_order) (subst (λ x. InTurn (HandedOutRightly 0 reach) x m.given) one_out m.each)
      where
        go : (given held : List (List Piece)) → g ∷ [] ≡ given ++ held → InTurn (HandedOutRightly 0 reach) (o ∷ []) given → HandedOutRightly 0 reach o g
        go [] held e t = absurd t
        go (x ∷ given) held e t = let same : x ≡ g = cc in subst (HandedOutRightly 0 reach o) same t.0

-- 2. How a history that is written out ends, and frames that come as they were put.

abbrev but_last : Event → History → History
but_last e [] = []
but_last e (x ∷ h) = e ∷ but_last x h

abbrev the_last : Event → History → Event
the_last e [] = e
the_last e (x ∷ h) = the_last x h

split_last : (e : Event) (h : History) → e ∷ h ≡ but_last e h ++ (the_last e h ∷ [])
split_last e [] = refl
split_last e (x ∷ h) = ap (λ r. e ∷ r) (split_last x h)

ends : (e : Event) (h : History) → EndsWith (the_last e h).call (the_last e h).reply (e ∷ h)
ends e h = record { earlier = but_last e h; last = the_last e h; whole = split_last e h; call_is = refl; reply_is = refl }

unchanged : (f : List ℕ) → BodiesOnly f f
unchanged f = record { size = refl; same = λ i e. refl }

-- 3. The right run. Within a stretch of no bits nothing can change.

no_burst : (x y : List Bool) → ChangedInOneStretch 0 x y → ⊥
no_burst x y b =
    let same = b.same_length in
    let few = b.short in
    b.differ (nil_from_length b.was (omega arith) ∙ sym (nil_from_length b.is (omega arith)))

pub goes_well_shown : CanBeShown false 0 goes_well
goes_well_shown = record {
  sized = λ s. refl;
  detects = λ s t v burst same. no_burst _ _ burst;
  written = (refl, refl, (refl, tt));
  carries = record { waiting = []; carried = refl; begun = refl; settled = λ _. omega arith };
  admitted = ((refl, omega arith), tt);
  untold = [];
  told = refl;
  read_out = λ _. refl;
}

pub goes_well_up : Allows false 0 goes_well
goes_well_up = run_law_holds false 0 0 (λ p. []) (λ p. None) goes_well goes_well_shown

-- 4. Writers.

pub passes_round_down : TurnsDown false 0 passes_round
passes_round_down law = let more = all_carried false 0 passes_round law (ends _ _) in omega arith

pub cuts_first_only_down : TurnsDown false 0 cuts_first_only
cuts_first_only_down law = let more = all_carried false 0 cuts_first_only law (ends _ _) in omega arith

pub puts_another_down : TurnsDown false 0 puts_another
puts_another_down law = let m = law.carries.carried in let z : ◌≡◌ {A = ℕ} 1 2 = cc in omega arith

-- 5. Readers.

pub finds_nothing_down : TurnsDown false 0 finds_nothing
finds_nothing_down law = let more = none_missing false 0 finds_nothing law (unchanged (one 1), tt) (ends _ _) in omega arith

pub gives_one_a_frame_down : TurnsDown false 0 gives_one_a_frame
gives_one_a_frame_down law = let more = none_missing false 0 gives_one_a_frame law (unchanged _, tt) (ends _ _) in omega arith

pub trusts_after_gap_down : TurnsDown false 0 trusts_after_gap
trusts_after_gap_down law = let more = none_beside false 0 trusts_after_gap law (unchanged _, tt) in omega arith

pub trusts_a_mark_down : TurnsDown true 0 trusts_a_mark
trusts_a_mark_down law = let more = none_beside true 0 trusts_a_mark law (unchanged _, tt) in omega arith

pub calls_all_damaged_down : TurnsDown false 0 calls_all_damaged
calls_all_damaged_down law =
    let m = (together false 0 calls_all_damaged law (unchanged _, tt) _ _ refl refl).1.unchanged_is_sound refl in
    let z : ◌≡◌ {A = ℕ} 0 1 = cc in
    omega arith

-- the one body's byte differs, and nothing else
body_differs : (i : ℕ) → in_body (fragments (one 1)) i ≡ false → get_or (one 3) i 0 ≡ get_or (one 1) i 0
body_differs zero e = refl
body_differs (suc zero) e = let z : ◌≡◌ {A = ℕ} 0 1 = cc in absurd (omega arith)
body_differs (suc (suc i)) e = refl

one_bit : ChangedInOneStretch 1 (bits (1 ∷ [])) (bits (3 ∷ []))
one_bit = record {
  before = false ∷ false ∷ false ∷ false ∷ false ∷ false ∷ [];
  was = false ∷ [];
  is = true ∷ [];
  after = true ∷ [];
  x_is = refl;
  y_is = refl;
  same_length = refl;
  short = omega arith;
  differ = λ e. let z : ◌≡◌ {A = ℕ} 0 1 = cc in omega arith;
}

pub calls_all_sound_down : TurnsDown false 1 calls_all_sound
calls_all_sound_down law = (together false 1 calls_all_sound law (record { size = refl; same = body_differs }, tt) _ _ refl refl).1.burst_is_not_sound one_bit refl
