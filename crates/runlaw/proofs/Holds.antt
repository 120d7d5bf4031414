-- From what a reader tells of all that was sent to the law of a history.
use Rattle.std.proofs.Common.{◌≡◌, ℕ, ◌+◌, Bool, List, [], ◌∷◌, ◌++◌, map, length, None, Option, sym, refl, ap, ◌∙◌, subst, arith}
use Rattle.std.specs.List.{flat_map, AllByRecursion}
use Rattle.std.proofs.lemmas.List.{length-append}
use Rattle.std.proofs.lemmas.Bool.{cond_both}
use Rattle.channel.specs.Sending.{became}
use Rattle.checksum.specs.Detection.{Detects}
use Rattle.receiver.specs.Reading.{Told, packet, lost, torn_frame, mark, aligned, told_of}
use Rattle.receiver.specs.Answering.{Answer, handed_out}
use Rattle.receiver.specs.Answering as answering
use Rattle.runlaw.specs.History.{History, all_sent, packets_accepted, answers_given, HandedOut, out_by, lost_by}
use Rattle.runlaw.specs.Packets.{Piece, groups, pieces, as_cut, as_received, is_clear, clear_only, clear, gaps}
use Rattle.runlaw.specs.Fair.{Fair}
use Rattle.runlaw.specs.Law.{HandedOutRightly, InTurn, NoFault, HandsOutClearPackets}
use Rattle.runlaw.specs.Theorem.{packet_in, loss_in, torn_in, Tells, answered, Admitted, Shown, RunLawHolds}
use Rattle.std.proofs.lemmas.Grind.{flat_map-append}
use Rattle.runlaw.proofs.Followed.{reads_the_clear}
use Rattle.runlaw.proofs.Judged.{Own, pieces_own, groups_own, clear_length, Good, Out, handed_rightly}

-- 1. Lists in turn.

pub record Split {A B : Type 0} (R : A → B → Type 0) (xs ys : List A) (zs : List B) : Type 0 where
  pub left : List B
  pub right : List B
  pub whole : zs ≡ left ++ right
  pub lefts : InTurn R xs left
  pub rights : InTurn R ys right

in_turn_split : {A B : Type 0} (R : A → B → Type 0) (xs ys : List A) (zs : List B) → InTurn R (xs ++ ys) zs → Split R xs ys zs
in_turn_split R [] ys zs t = record { left = []; right = zs; whole = refl; lefts = tt; rights = t }
in_turn_split R (x ∷ xs) ys [] t = absurd t
in_turn_split R (x ∷ xs) ys (z ∷ zs) t =
    let m = in_turn_split R xs ys zs t.1 in
    record { left = z ∷ m.left; right = m.right; whole = ap (λ r. z ∷ r) m.whole; lefts = (t.0, m.lefts); rights = m.rights }

none_in_turn : {A B : Type 0} (R : A → B → Type 0) (zs : List B) → InTurn R [] zs → zs ≡ []
none_in_turn R [] t = refl
none_in_turn R (z ∷ zs) t = absurd t

all_front : {A : Type 0} (P : A → Type 0) (xs ys : List A) → AllByRecursion P (xs ++ ys) → AllByRecursion P xs
all_front P [] ys h = tt
all_front P (x ∷ xs) ys h = (h.0, all_front P xs ys h.1)

-- 2. Each clear packet was carried, and came at its own length.

module _ (value : List ℕ → List ℕ) (refusal : List ℕ → Option ℕ) where
  abbrev Carried : List Piece → Type 0
  Carried g = (p : List ℕ) × (as_cut g ≡ p ++ value p) × Admitted refusal p

  all_carried : (ps : List (List ℕ)) (gs : List (List Piece)) (waiting : List (List ℕ)) → map (λ p. p ++ value p) ps ≡ map as_cut gs ++ waiting → AllByRecursion (Admitted refusal) ps → AllByRecursion Carried gs
  all_carried ps [] waiting e h = tt
  all_carried [] (g ∷ gs) waiting e h = let z : ◌≡◌ {A = ℕ} 0 1 = cc in absurd (omega arith)
  all_carried (p ∷ ps) (g ∷ gs) waiting e h =
      let first : as_cut g ≡ p ++ value p = cc in
      let more : map (λ p. p ++ value p) ps ≡ map as_cut gs ++ waiting = cc in
      ((p, first, h.0), all_carried ps gs waiting more h.1)

  all_good : (gs : List (List Piece)) → AllByRecursion Carried gs → AllByRecursion (AllByRecursion Own) gs → AllByRecursion (Good value refusal) (clear_only gs)
  all_good [] h k = tt
  all_good (g ∷ gs) h k =
      cond_both (is_clear g) (g ∷ clear_only gs) (clear_only gs) (AllByRecursion (Good value refusal))
      (λ e. (record { offered = h.0.0; cut_so = h.0.1; admitted = h.0.2; length_kept = clear_length g k.0 e }, all_good gs h.1 k.1))
      (λ e. all_good gs h.1 k.1)

-- 3. What is answered to what was told.

module _ (width reach : ℕ) (value : List ℕ → List ℕ) (refusal : List ℕ → Option ℕ) (sized : (s : List ℕ) → length (value s) ≡ width) (detects : Detects reach value) where
  abbrev out_of : List Told → List HandedOut
  out_of told = flat_map out_by (answered width value refusal told)

  abbrev Rightly : HandedOut → List Piece → Type 0
  Rightly = HandedOutRightly width reach

  pub record Answers (told : List Told) (gs : List (List Piece)) : Type 0 where
    pub turns : InTurn Rightly (out_of told) gs
    pub losses : flat_map lost_by (answered width value refusal told) ≡ flat_map loss_in told
    pub faultless : AllByRecursion NoFault (answered width value refusal told)

  one_out : (b : List ℕ) (g : List Piece) (told : List Told) (gs : List (List Piece)) → b ≡ as_received g → Good value refusal g → Answers told gs → Answers (packet b ∷ told) (g ∷ gs)
  one_out b g told gs e good more =
      let out : Out width reach value refusal g = handed_rightly width reach value refusal sized detects g good in
      let is : handed_out out.it.quality out.it.bytes ≡ answering.answered width value refusal b = sym (ap (answering.answered width value refusal) e ∙ out.is) in
      record {
        turns = subst (λ a. InTurn Rightly (out_by a ++ out_of told) (g ∷ gs)) is (out.rightly, more.turns);
        losses = subst (λ a. lost_by a ++ flat_map lost_by (answered width value refusal told) ≡ flat_map loss_in told) is more.losses;
        faultless = subst (λ a. NoFault a × AllByRecursion NoFault (answered width value refusal told)) is (tt, more.faultless);
      }

  all_answered : (told : List Told) (gs : List (List Piece)) → flat_map packet_in told ≡ map as_received gs → flat_map torn_in told ≡ [] → AllByRecursion (Good value refusal) gs → Answers told gs
  all_answered [] [] e none h = record { turns = tt; losses = refl; faultless = tt }
  all_answered [] (g ∷ gs) e none h = let z : ◌≡◌ {A = ℕ} 0 1 = cc in absurd (omega arith)
  all_answered (packet b ∷ told) [] e none h = let z : ◌≡◌ {A = ℕ} 0 1 = cc in absurd (omega arith)
  all_answered (packet b ∷ told) (g ∷ gs) e none h =
      let first : b ≡ as_received g = cc in
      let more : flat_map packet_in told ≡ map as_received gs = cc in
      one_out b g told gs first h.0 (all_answered told gs more none h.1)
  all_answered (lost n d ∷ told) gs e none h =
      let m = all_answered told gs e none h in
      record { turns = m.turns; losses = ap (λ r. tt ∷ r) m.losses; faultless = (tt, m.faultless) }
  all_answered (torn_frame n d q p ∷ told) gs e none h = let z : ◌≡◌ {A = ℕ} 0 1 = cc in absurd (omega arith)
  all_answered (mark d ∷ told) gs e none h =
      let m = all_answered told gs e none h in
      record { turns = m.turns; losses = m.losses; faultless = (tt, m.faultless) }

-- 4. The law.

-- of answers in two parts, how many of the first are losses
lost_part : (xs ys zs : List Answer) → xs ++ ys ≡ zs → length (flat_map lost_by xs) + length (flat_map lost_by ys) ≡ length (flat_map lost_by zs)
lost_part xs ys zs e = sym (length-append (flat_map lost_by xs) (flat_map lost_by ys)) ∙ ap length (sym (flat_map-append lost_by xs ys) ∙ ap (flat_map lost_by) e)

module _ (fasb : Bool) (width reach : ℕ) (value : List ℕ → List ℕ) (refusal : List ℕ → Option ℕ) (h : History) where
  hands_out : Shown fasb width reach value refusal h → Fair (all_sent h) → HandsOutClearPackets fasb width reach h
  hands_out shown fair =
      let s = all_sent h in
      let told = told_of fasb width aligned 0 (map became s) in
      let reads : Tells told (map as_received (clear fasb [] s)) (gaps (map became s)) = reads_the_clear fasb width 0 [] s shown.written fair in
      let good : AllByRecursion (Good value refusal) (clear fasb [] s) =
      all_good value refusal (groups fasb [] s)
      (all_carried value refusal (packets_accepted h) (groups fasb [] s) shown.carries.waiting shown.carries.carried shown.admitted)
      (groups_own [] (pieces fasb [] s) tt (pieces_own fasb width s None [] shown.written fair)) in
      let all : Answers width reach value refusal shown.sized shown.detects told (clear fasb [] s) =
      all_answered width reach value refusal shown.sized shown.detects told (clear fasb [] s) reads.packets_are reads.none_torn good in
      let so_far = answers_given h in
      let to_come = answered width value refusal shown.untold in
      let both : flat_map out_by (answered width value refusal told) ≡ flat_map out_by so_far ++ flat_map out_by to_come =
      ap (flat_map out_by) (sym shown.told) ∙ flat_map-append out_by so_far to_come in
      let m = in_turn_split (HandedOutRightly width reach) (flat_map out_by so_far) (flat_map out_by to_come) (clear fasb [] s)
      (subst (λ x. InTurn (HandedOutRightly width reach) x (clear fasb [] s)) both all.turns) in
      let losses : length (flat_map lost_by so_far) + length (flat_map lost_by to_come) ≡ gaps (map became s) =
      lost_part so_far to_come (answered width value refusal told) shown.told ∙ ap length all.losses ∙ reads.losses_are in
      record {
        given = m.left;
        held_back = m.right;
        in_order = m.whole;
        each = m.lefts;
        complete = λ ends.
            let done = shown.read_out ends in
            let none : length (flat_map lost_by to_come) ≡ 0 = ap (λ u. length (flat_map lost_by (answered width value refusal u))) done in (
              none_in_turn (HandedOutRightly width reach) m.right (subst (λ u. InTurn (HandedOutRightly width reach) (flat_map out_by (answered width value refusal u)) m.right) done m.rights),
              omega arith,
            );
        no_false_loss = omega arith;
        no_fault = all_front NoFault so_far to_come (subst (AllByRecursion NoFault) (sym shown.told) all.faultless);
      }

pub run_law_holds : RunLawHolds
run_law_holds fasb width reach value refusal h shown = record { carries = shown.carries; hands_out = hands_out fasb width reach value refusal h shown }
