-- One reading, slot by slot.
use Rattle.std.proofs.Common.{◌≡◌, ℕ, ◌+◌, ◌≤◌, Bool, true, false, List, [], ◌∷◌, ◌++◌, length, Some, None, Option, sym, refl, ap, ◌∙◌, subst, ap₂, arith}
use Rattle.std.proofs.lemmas.List.{append_assoc, length-append}
use Rattle.channel.specs.Answers.{TakeAnswer}
use Rattle.framing.specs.declared.slot.Slot.{Slot}
use Rattle.framing.specs.declared.slot.Slot.TheVariants.{Frame}
use Rattle.framing.specs.Fragments.{Fragment, fragments, fragments_from}
use Rattle.framing.specs.Judging.{lawful}
use Rattle.receiver.specs.Reading
use Rattle.receiver.specs.Reading.{Standing, aligned, gathering, seeking, gathered, after_one, after_all, completed, found_or, first_completed, Outcome, behind, or_on, of_frame, next_number, verdict_on, reading, reading_slots}
use Rattle.receiver.specs.Taking.{Leaves}
use Rattle.receiver.specs.Telling.{in_rules, Received, Ends}
use Rattle.receiver.specs.Views.{view, standing_in, standing_of, hand_in, found_as, reads_at, Rests, Within}
use Rattle.receiver.specs.declared.reader.Reader.{Reader}
use Rattle.receiver.specs.declared.state.State.{State}
use Rattle.receiver.specs.declared.state.State.TheVariants.{Aligned, Gathering, Seeking}
use Rattle.receiver.specs.declared.told.Told.{Told}
use Rattle.receiver.proofs.Limits.{short_frame}
use Rattle.receiver.proofs.Steps.{completing}

-- 1. What a slot comes to.

-- a lawful frame is gone through
pub at_lawful : (fasb : Bool) (width : ℕ) (r : Standing) (n : ℕ) (f : Slot) (bytes : List ℕ) (after : Reading.Reader) (rest : List Slot)
    → f ≡ Frame (record { bytes = bytes }) → lawful ≡ verdict_on width r bytes
    → after ≡ record { standing = r; number = next_number n; in_hand = fragments bytes }
    → reading_slots fasb width r n (f ∷ rest) ≡ behind f (reading fasb width after rest)
at_lawful fasb width r n f bytes after rest is judged stands =
    ap (λ s. reading_slots fasb width r n (s ∷ rest)) is
    ∙ ap (λ v. behind (Frame (record { bytes = bytes })) (of_frame v r (next_number n) (fragments bytes) (reading_slots fasb width (after_all r (fragments bytes)) (next_number n) rest))) (sym judged)
    ∙ ap₂ (λ s a. behind s (reading fasb width a rest)) (sym is) (sym stands)

-- 2. Going through fragments that complete no packet.

pub record Passed (r : Standing) (fs : List Fragment) : Type 0 where
  pub stands : (first_completed r fs).standing ≡ after_all r fs
  pub all : (first_completed r fs).unread ≡ []

pub passes : (r : Standing) (fs : List Fragment) → (first_completed r fs).found ≡ None → Passed r fs
passes r [] none = record { stands = refl; all = refl }
passes r (f ∷ fs) none = go (completed r f) refl none (passes (after_one r f) fs)
  where
    go : (o : Option (List ℕ)) → completed r f ≡ o → (found_or (completed r f) (after_one r f) fs (first_completed (after_one r f) fs)).found ≡ None
        → ((first_completed (after_one r f) fs).found ≡ None → Passed (after_one r f) fs) → Passed r (f ∷ fs)
    go None e missing later-passes =
        let later : first_completed r (f ∷ fs) ≡ first_completed (after_one r f) fs = ap (λ o. found_or o (after_one r f) fs (first_completed (after_one r f) fs)) e in
        let behind_it = later-passes (sym (ap (λ s. s.found) later) ∙ missing) in
        record { stands = ap (λ s. s.standing) later ∙ behind_it.stands; all = ap (λ s. s.unread) later ∙ behind_it.all }
    go (Some p) e missing later-passes =
        let there : None ≡ Some p = sym missing ∙ ap (λ o. (found_or o (after_one r f) fs (first_completed (after_one r f) fs)).found) e in
        cc

-- a packet that is found is no longer than the limit
pub found_short : (most : ℕ) (r : Standing) (fs : List Fragment) (p : List ℕ) → Within most r fs → (first_completed r fs).found ≡ Some p → length p ≤ most
found_short most r [] p fits is = cc
found_short most r (f ∷ fs) p fits is = go (completed r f) refl is (found_short most (after_one r f) fs p fits.1)
  where
    go : (o : Option (List ℕ)) → completed r f ≡ o → (found_or (completed r f) (after_one r f) fs (first_completed (after_one r f) fs)).found ≡ Some p
        → ((first_completed (after_one r f) fs).found ≡ Some p → length p ≤ most) → length p ≤ most
    go None e there later = later (sym (ap (λ o. (found_or o (after_one r f) fs (first_completed (after_one r f) fs)).found) e) ∙ there)
    go (Some q) e there later =
        let same : Some q ≡ Some p = sym (ap (λ o. (found_or o (after_one r f) fs (first_completed (after_one r f) fs)).found) e) ∙ there in
        let one : q ≡ p = cc in
        let size = (completing r f q e).size in
        let first = fits.0 in
        let long : length q ≡ length p = ap length one in
        omega arith

-- 3. One reading, under way: these slots were taken, and what is still to come gives what the whole gives.

abbrev pub prefixed : List Slot → Outcome → Outcome
prefixed taken o = record { told = o.told; reader = o.reader; taken = taken ++ o.taken }

pub record Underway (fasb : Bool) (width : ℕ) (whole : Outcome) (old : List Slot) (r : Reader) (at : ℕ) (new : List Slot) : Type 0 where
  pub taken : List Slot
  pub took : old ≡ taken ++ new
  pub gives : whole ≡ prefixed taken (reading fasb width (reads_at r at) new)
  pub rests : Rests r.state at
  pub fits : Within (2044 + width) (standing_of r) (fragments_from r.frame.bytes at)

-- an aligned reader has at most a frame to come, and any other has nothing in hand
hand_within : (width : ℕ) (r : Reader) (at : ℕ) → fragments_from r.frame.bytes at ≡ hand_in r.state r.frame.bytes → Within (2044 + width) (standing_of r) (fragments_from r.frame.bytes at)
hand_within width r at hand = go r.state hand
  where
    go : (s : State) → fragments_from r.frame.bytes at ≡ hand_in s r.frame.bytes → Within (2044 + width) (standing_in s r.gathered.items) (fragments_from r.frame.bytes at)
    go (Aligned next) hand = short_frame width aligned r.frame.bytes r.whole refl at
    go Gathering hand = subst (λ (fs : List Fragment). Within (2044 + width) (gathering r.gathered.items) fs) (sym hand) tt
    go Seeking hand = subst (λ (fs : List Fragment). Within (2044 + width) seeking fs) (sym hand) tt

pub begins : (fasb : Bool) (width : ℕ) (r : Reader) (at : ℕ) (slots : List Slot) → Rests r.state at → fragments_from r.frame.bytes at ≡ hand_in r.state r.frame.bytes
    → Underway fasb width (reading fasb width (view r) slots) slots r at slots
begins fasb width r at slots rests hand =
    record {
      taken = [];
      took = refl;
      gives = ap (λ (fs : List Fragment). reading fasb width (record { standing = standing_of r; number = r.number; in_hand = fs }) slots) (sym hand);
      rests = rests;
      fits = hand_within width r at hand;
    }

-- the frame in hand had no packet more, so the reading goes on with the slots
read_out : (fasb : Bool) (width : ℕ) (before after : Reader) (at : ℕ) (slots : List Slot)
    → found_as false after ≡ first_completed (standing_of before) (fragments_from before.frame.bytes at) → after.number ≡ before.number
    → reading fasb width (reads_at before at) slots ≡ reading_slots fasb width (standing_of after) after.number slots
read_out fasb width before after at slots finds counts =
    let passed = passes (standing_of before) (fragments_from before.frame.bytes at) (sym (ap (λ s. s.found) finds)) in
    let stands : after_all (standing_of before) (fragments_from before.frame.bytes at) ≡ standing_of after = sym passed.stands ∙ sym (ap (λ s. s.standing) finds) in
    ap (λ s. or_on s before.number (reading_slots fasb width (after_all (standing_of before) (fragments_from before.frame.bytes at)) before.number slots)) (sym finds)
    ∙ ap₂ (λ (s : Standing) (n : ℕ). reading_slots fasb width s n slots) stands (sym counts)

pub hand_out : (before after : Reader) (at : ℕ) → found_as false after ≡ first_completed (standing_of before) (fragments_from before.frame.bytes at) → hand_in after.state after.frame.bytes ≡ []
hand_out before after at finds =
    ap (λ s. s.unread) finds ∙ (passes (standing_of before) (fragments_from before.frame.bytes at) (sym (ap (λ s. s.found) finds))).all

ended : (whole : Outcome) (old taken more : List Slot) (told : Option Reading.Told) (r : Reader) (new : List Slot) → old ≡ taken ++ (more ++ new)
    → whole ≡ prefixed taken (record { told = told; reader = view r; taken = more }) → Ends whole old told r new
ended whole old taken more told r new took gives =
    record {
      tells = sym (ap (λ o. o.told) gives);
      stands = sym (ap (λ o. o.reader) gives);
      takes = took ∙ sym (append_assoc taken more new) ∙ ap (λ o. o.taken ++ new) (sym gives);
    }

pub with_nothing : (fasb : Bool) (width : ℕ) (whole : Outcome) (old : List Slot) (before after : Reader) (at : ℕ) (new left : List Slot)
    → Underway fasb width whole old before at new
    → found_as false after ≡ first_completed (standing_of before) (fragments_from before.frame.bytes at) → after.number ≡ before.number → new ≡ [] → left ≡ new
    → Ends whole old None after left
with_nothing fasb width whole old before after at new left u finds counts none stays =
    ended whole old u.taken [] None after left (u.took ∙ ap (λ (l : List Slot). u.taken ++ l) (sym stays))
    (u.gives
    ∙ ap (prefixed u.taken) (read_out fasb width before after at new finds counts
    ∙ ap (reading_slots fasb width (standing_of after) after.number) none
    ∙ ap (λ (fs : List Fragment). record { told = None; reader = record { standing = standing_of after; number = after.number; in_hand = fs }; taken = [] }) (sym (hand_out before after at finds))))

-- a slot was taken
pub with_told : (fasb : Bool) (width : ℕ) (whole : Outcome) (old : List Slot) (before between after : Reader) (at : ℕ) (new rest : List Slot) (slot : Slot) (told : Told)
    → Underway fasb width whole old before at new
    → found_as false between ≡ first_completed (standing_of before) (fragments_from before.frame.bytes at) → between.number ≡ before.number → new ≡ slot ∷ rest
    → Received fasb width between slot (Some told) after → Ends whole old (Some (in_rules told after.gathered.items)) after rest
with_told fasb width whole old before between after at new rest slot told u finds counts is got =
    ended whole old u.taken (slot ∷ []) (Some (in_rules told after.gathered.items)) after rest (u.took ∙ ap (λ (l : List Slot). u.taken ++ l) is)
    (u.gives
    ∙ ap (prefixed u.taken) (read_out fasb width before between at new finds counts
    ∙ ap (reading_slots fasb width (standing_of between) between.number) is ∙ got.0 rest))

pub goes_on_with : (fasb : Bool) (width : ℕ) (whole : Outcome) (old : List Slot) (before between after : Reader) (at : ℕ) (new rest : List Slot) (slot : Slot)
    → Underway fasb width whole old before at new
    → found_as false between ≡ first_completed (standing_of before) (fragments_from before.frame.bytes at) → between.number ≡ before.number → new ≡ slot ∷ rest
    → Received fasb width between slot None after → Underway fasb width whole old after 0 rest
goes_on_with fasb width whole old before between after at new rest slot u finds counts is got =
    record {
      taken = u.taken ++ (slot ∷ []);
      took = u.took ∙ ap (λ (l : List Slot). u.taken ++ l) is ∙ sym (append_assoc u.taken (slot ∷ []) rest);
      gives =
          u.gives
          ∙ ap (prefixed u.taken) (read_out fasb width before between at new finds counts
          ∙ ap (reading_slots fasb width (standing_of between) between.number) is ∙ got.reads_on rest)
          ∙ ap (λ (l : List Slot). record { told = (reading fasb width (reads_at after 0) rest).told; reader = (reading fasb width (reads_at after 0) rest).reader; taken = l }) (sym (append_assoc u.taken (slot ∷ []) (reading fasb width (reads_at after 0) rest).taken));
      rests = got.rests;
      fits = got.fits;
    }

-- the packet found is no longer than it may be
pub packet_short : (width : ℕ) (before after : Reader) (at : ℕ) → Within (2044 + width) (standing_of before) (fragments_from before.frame.bytes at)
    → found_as true after ≡ first_completed (standing_of before) (fragments_from before.frame.bytes at) → length after.gathered.items ≤ 2044 + width
packet_short width before after at fits finds =
    found_short (2044 + width) (standing_of before) (fragments_from before.frame.bytes at) after.gathered.items fits (sym (ap (λ s. s.found) finds))

-- Of the slots that a reading took, `taken` came first, and with one slot more they are `some`: so it did not take none.
pub took_some : (all some later old taken rest : List Slot) (slot : Slot)
    → all ≡ some ++ later → old ≡ some ++ rest → old ≡ taken ++ (slot ∷ rest) → all ≡ [] → ⊥
took_some all some later old taken rest slot is took one none =
    let whole = simp length-append at (ap length is) in
    let front = simp length-append at (ap length took) in
    let parts = simp length-append at (ap length one) in
    let empty = ap length none in
    omega arith

-- 4. What the reading leaves of the channel.

pub leaves_itself : {C : Type 0} {space : C → ℕ} {tied : C → Type 0} {taken : List Slot} {channel : C} → Leaves space tied taken channel channel
leaves_itself = record { frees = omega arith; keeps = λ t. t; untouched = λ none. refl }

pub leaves_on : {C : Type 0} {slots : C → List Slot} {space : C → ℕ} {tied : C → Type 0} {taken : List Slot} {slot : Option Slot} {old between new : C}
    → TakeAnswer slots space tied slot between new → Leaves space tied taken old between → (taken ≡ [] → new ≡ between) → Leaves space tied taken old new
leaves_on took left same =
    record { frees = omega arith; keeps = λ t. took.keeps (left.keeps t); untouched = λ none. same none ∙ left.untouched none }
