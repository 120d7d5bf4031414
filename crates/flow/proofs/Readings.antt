-- One reading against the fold over all slots: what it tells, and what its reader then owes, is what was owed before.
use Rattle.std.proofs.Common.{◌≡◌, ℕ, ◌-◌, Bool, true, false, cond, leb, List, [], ◌∷◌, ◌++◌, map, length, take, drop, Some, None, Option, sym, refl, ap, ◌∙◌, arith}
use Rattle.std.proofs.lemmas.List.{append_assoc, append-nil}
use Rattle.framing.specs.declared.slot.Slot.{Slot}
use Rattle.framing.specs.declared.slot.Slot.TheVariants.{Frame, Gap, Mark}
use Rattle.framing.specs.Fragments.{Fragment, fragments}
use Rattle.framing.specs.Judging.{Verdict, lawful, torn}
use Rattle.receiver.specs.Reading.{Standing, Reader, Told, packet, listed, completed, completes, after_one, after_all, after_frame, told_of_frame, after_slot, number_after, told_of_slot, told_of, standing_after, verdict_on, next_number, Found, found_or, first_completed, Outcome, or_on, of_frame, reading_slots, reading}
use Rattle.receiver.specs.Reading as tells
use Rattle.receiver.specs.Answering.{answer_to, nothing, short, handed_out, quality}
use Rattle.runlaw.specs.History.{told_by_answer}
use Rattle.runlaw.specs.Theorem.{answered}
use Rattle.flow.specs.Since.{number_behind}

-- 1. The folds over slots put together.

module _ (fasb : Bool) (width : ℕ) where
  pub standing_append : (r : Standing) (s t : List Slot) → standing_after fasb width r (s ++ t) ≡ standing_after fasb width (standing_after fasb width r s) t
  standing_append r [] t = refl
  standing_append r (x ∷ s) t = standing_append (after_slot fasb width r x) s t

  pub told_append : (r : Standing) (n : ℕ) (s t : List Slot)
      → told_of fasb width r n (s ++ t) ≡ told_of fasb width r n s ++ told_of fasb width (standing_after fasb width r s) (number_behind n s) t
  told_append r n [] t = refl
  told_append r n (x ∷ s) t =
      let here = told_of_slot fasb width r n x in
      let r' = after_slot fasb width r x in
      let n' : ℕ = number_after n x in
      ap (λ (l : List Told). here ++ l) (told_append r' n' s t)
      ∙ sym (append_assoc here (told_of fasb width r' n' s) (told_of fasb width (standing_after fasb width r' s) (number_behind n' s) t))

pub number_append : (n : ℕ) (s t : List Slot) → number_behind n (s ++ t) ≡ number_behind (number_behind n s) t
number_append n [] t = refl
number_append n (x ∷ s) t = number_append (number_after n x) s t

-- 2. Going through fragments.

pub record Gone (r : Standing) (fs : List Fragment) (f : Found) : Type 0 where
  pub completed_are : completes r fs ≡ listed f.found ++ completes f.standing f.unread
  pub after : after_all r fs ≡ after_all f.standing f.unread
  pub read_out : f.found ≡ None → f.unread ≡ []

or_later : (p : Option (List ℕ)) (r : Standing) (fs : List Fragment) (later : Found) → Gone r fs later
    → (listed p ++ completes r fs ≡ listed (found_or p r fs later).found ++ completes (found_or p r fs later).standing (found_or p r fs later).unread)
    × (after_all r fs ≡ after_all (found_or p r fs later).standing (found_or p r fs later).unread)
    × ((found_or p r fs later).found ≡ None → (found_or p r fs later).unread ≡ [])
or_later (Some p) r fs later g = (refl, refl, λ none. let z : ◌≡◌ {A = ℕ} 0 1 = cc in absurd (omega arith))
or_later None r fs later g = (g.completed_are, g.after, g.read_out)

pub gone : (r : Standing) (fs : List Fragment) → Gone r fs (first_completed r fs)
gone r [] = record { completed_are = refl; after = refl; read_out = λ _. refl }
gone r (f ∷ fs) =
    let all = or_later (completed r f) (after_one r f) fs (first_completed (after_one r f) fs) (gone (after_one r f) fs) in
    record { completed_are = all.0; after = all.1; read_out = all.2 }

-- 3. One reading, from a standing and a number, where `owing` is to be told first.

module _ (fasb : Bool) (width : ℕ) where
  pub record Goes (slots : List Slot) (r : Standing) (n : ℕ) (owing : List Told) (o : Outcome) : Type 0 where
    pub stands : after_all o.reader.standing o.reader.in_hand ≡ standing_after fasb width r o.taken
    pub numbered : o.reader.number ≡ number_behind n o.taken
    pub tells : listed o.told ++ map packet (completes o.reader.standing o.reader.in_hand) ≡ owing ++ told_of fasb width r n o.taken
    pub nothing_left : o.told ≡ None → (o.taken ≡ slots) × (o.reader.in_hand ≡ [])

  found_goes : (found : Option (List ℕ)) (r' : Standing) (unread : List Fragment) (slots : List Slot) (r : Standing) (n : ℕ) (fs : List Fragment) (later : Outcome)
      → Gone r fs (record { found = found; standing = r'; unread = unread })
      → Goes slots (after_all r fs) n [] later
      → Goes slots (after_all r fs) n (map packet (completes r fs)) (or_on (record { found = found; standing = r'; unread = unread }) n later)
  found_goes (Some p) r' unread slots r n fs later g l = record {
    stands = sym g.after;
    numbered = refl;
    tells = ap (map packet) (sym g.completed_are) ∙ sym (append-nil (map packet (completes r fs)));
    nothing_left = λ none. let z : ◌≡◌ {A = ℕ} 0 1 = cc in absurd (omega arith);
  }
  found_goes None r' unread slots r n fs later g l =
      let none : completes r fs ≡ [] = g.completed_are ∙ ap (completes r') (g.read_out refl) in
      record {
        stands = l.stands;
        numbered = l.numbered;
        tells = l.tells ∙ ap (λ (ps : List (List ℕ)). map packet ps ++ told_of fasb width (after_all r fs) n later.taken) (sym none);
        nothing_left = l.nothing_left;
      }

  or_on_goes : (slots : List Slot) (r : Standing) (n : ℕ) (fs : List Fragment) (later : Outcome)
      → Goes slots (after_all r fs) n [] later
      → Goes slots (after_all r fs) n (map packet (completes r fs)) (or_on (first_completed r fs) n later)
  or_on_goes slots r n fs later l =
      let f = first_completed r fs in
      found_goes f.found f.standing f.unread slots r n fs later (gone r fs) l

  frame_goes : (v : Verdict) (slots : List Slot) (r : Standing) (n : ℕ) (fs : List Fragment) (later : Outcome)
      → Goes slots (after_all r fs) n [] later
      → Goes slots (after_frame v r fs) n (told_of_frame v n r fs) (of_frame v r n fs later)
  frame_goes lawful slots r n fs later l = or_on_goes slots r n fs later l
  frame_goes (torn q p) slots r n fs later l = record {
    stands = refl;
    numbered = refl;
    tells = refl;
    nothing_left = λ none. let z : ◌≡◌ {A = ℕ} 0 1 = cc in absurd (omega arith);
  }

  slots_go : (slots : List Slot) (r : Standing) (n : ℕ) → Goes slots r n [] (reading_slots fasb width r n slots)
  slots_go [] r n = record { stands = refl; numbered = refl; tells = refl; nothing_left = λ _. (refl, refl) }
  slots_go (Mark ∷ slots) r n = record {
    stands = refl;
    numbered = refl;
    tells = refl;
    nothing_left = λ none. let z : ◌≡◌ {A = ℕ} 0 1 = cc in absurd (omega arith);
  }
  slots_go (Gap ∷ slots) r n = record {
    stands = refl;
    numbered = refl;
    tells = refl;
    nothing_left = λ none. let z : ◌≡◌ {A = ℕ} 0 1 = cc in absurd (omega arith);
  }
  slots_go (Frame f ∷ slots) r n =
      let fs = fragments f.bytes in
      let m = frame_goes (verdict_on width r f.bytes) slots r (next_number n) fs (reading_slots fasb width (after_all r fs) (next_number n) slots)
      (slots_go slots (after_all r fs) (next_number n)) in
      record {
        stands = m.stands;
        numbered = m.numbered;
        tells = m.tells;
        nothing_left = λ none. let all = m.nothing_left none in (ap (λ (l : List Slot). Frame f ∷ l) all.0, all.1);
      }

  pub reading_goes : (r : Reader) (slots : List Slot)
      → Goes slots (after_all r.standing r.in_hand) r.number (map packet (completes r.standing r.in_hand)) (reading fasb width r slots)
  reading_goes r slots =
      or_on_goes slots r.standing r.number r.in_hand (reading_slots fasb width (after_all r.standing r.in_hand) r.number slots)
      (slots_go slots (after_all r.standing r.in_hand) r.number)

-- 4. What is answered for what is told.

module _ (width : ℕ) (value : List ℕ → List ℕ) (refusal : List ℕ → Option ℕ) where
  -- an answer is given for each thing told
  pub answer_told : (told : Option Told) → told_by_answer (answer_to width value refusal told) ≡ answered width value refusal (listed told)
  answer_told None = refl
  answer_told (Some (packet b)) =
      elim (leb (length b) width) as (λ few.
      told_by_answer (cond few short (handed_out (quality value refusal (take (length b - width) b) (drop (length b - width) b)) (take (length b - width) b)))
      ≡ cond few short (handed_out (quality value refusal (take (length b - width) b) (drop (length b - width) b)) (take (length b - width) b)) ∷ []) [ true ↦ refl | false ↦ refl ]
  answer_told (Some (tells.lost n d)) = refl
  answer_told (Some (tells.torn_frame n d q p)) = refl
  answer_told (Some (tells.mark d)) = refl

  -- that there is nothing to tell is answered only where nothing is told
  pub nothing_told : (told : Option Told) → answer_to width value refusal told ≡ nothing → told ≡ None
  nothing_told None e = refl
  nothing_told (Some t) e = let z : ◌≡◌ {A = ℕ} 0 1 = one_told in absurd (omega arith)
    where
      one_told : ◌≡◌ {A = ℕ} 0 1
      one_told = ap length (ap told_by_answer (sym e) ∙ answer_told (Some t))
