-- A reading tells the first of what is owed, and the rest is still owed after it.
use Rattle.std.proofs.Common.{◌≡◌, ℕ, ◌-◌, Bool, true, false, cond, leb, List, [], ◌∷◌, ◌++◌, map, length, take, drop, Some, None, Option, sym, refl, ap, ◌∙◌, ap₂}
use Rattle.std.proofs.lemmas.List.{append_assoc, append-nil, drop_at}
use Rattle.framing.specs.declared.slot.Slot.{Slot}
use Rattle.framing.specs.declared.slot.Slot.TheVariants.{Frame, Gap, Mark}
use Rattle.framing.specs.Fragments.{Fragment, fragments}
use Rattle.framing.specs.Judging.{Verdict, lawful, torn}
use Rattle.receiver.specs.Answering.{Answer, short, handed_out, quality, answer_to}
use Rattle.receiver.specs.Folding.{given, Happening, arrive, read, arriving, course, Folds}
use Rattle.receiver.specs.Reading
use Rattle.receiver.specs.Reading.{Standing, after_one, after_all, completed, listed, completes, Told, packet, told_of, told_of_frame, after_frame, verdict_on, next_number, new_reader, owed, Found, found_or, first_completed, Outcome, behind, or_on, of_frame, reading, reading_slots}
use Rattle.receiver.proofs.Slots.{passes}

-- 1. Going through fragments to the first packet leaves the others to be completed.

pub record Splits (r : Standing) (fs : List Fragment) (s : Found) : Type 0 where
  pub packets : completes r fs ≡ listed s.found ++ completes s.standing s.unread
  pub stands : after_all r fs ≡ after_all s.standing s.unread

splits_or : (o : Option (List ℕ)) (r : Standing) (fs : List Fragment) (later : Found) → Splits r fs later
    → (listed o ++ completes r fs ≡ listed (found_or o r fs later).found ++ completes (found_or o r fs later).standing (found_or o r fs later).unread)
    × (after_all r fs ≡ after_all (found_or o r fs later).standing (found_or o r fs later).unread)
splits_or None r fs later s = (s.packets, s.stands)
splits_or (Some p) r fs later s = (refl, refl)

pub splits : (r : Standing) (fs : List Fragment) → Splits r fs (first_completed r fs)
splits r [] = record { packets = refl; stands = refl }
splits r (f ∷ fs) =
    let both = splits_or (completed r f) (after_one r f) fs (first_completed (after_one r f) fs) (splits (after_one r f) fs) in
    record { packets = both.0; stands = both.1 }

-- 2. One reading, where more slots may wait behind those that it finds.

-- so much is told, of these slots and then more, by what comes to this outcome
abbrev Owes : (fasb : Bool) (width : ℕ) → List Told → (slots more : List Slot) → Outcome → Type 0
Owes fasb width all slots more o = all ≡ listed o.told ++ owed fasb width o.reader (drop (length o.taken) slots ++ more)

owes_or : (fasb : Bool) (width : ℕ) (r : Standing) (fs : List Fragment) (n : ℕ) (slots more : List Slot) (later : Outcome) (o : Option (List ℕ)) (st : Standing) (un : List Fragment)
    → Splits r fs (record { found = o; standing = st; unread = un }) → (o ≡ None → un ≡ [])
    → Owes fasb width (told_of fasb width (after_all r fs) n (slots ++ more)) slots more later
    → Owes fasb width (map packet (completes r fs) ++ told_of fasb width (after_all r fs) n (slots ++ more)) slots more (or_on (record { found = o; standing = st; unread = un }) n later)
owes_or fasb width r fs n slots more later None st un s all behind_it =
    ap (λ (ps : List (List ℕ)). map packet ps ++ told_of fasb width (after_all r fs) n (slots ++ more)) (s.packets ∙ ap (completes st) (all refl)) ∙ behind_it
owes_or fasb width r fs n slots more later (Some p) st un s all behind_it =
    ap₂ (λ (ps : List (List ℕ)) (t : Standing). map packet ps ++ told_of fasb width t n (slots ++ more)) s.packets s.stands

owes_frame : (fasb : Bool) (width : ℕ) (v : Verdict) (r : Standing) (n : ℕ) (f : Slot) (fs : List Fragment) (rest more : List Slot) (later : Outcome)
    → Owes fasb width (told_of fasb width (after_all r fs) n (rest ++ more)) rest more later
    → Owes fasb width (told_of_frame v n r fs ++ told_of fasb width (after_frame v r fs) n (rest ++ more)) (f ∷ rest) more (behind f (of_frame v r n fs later))
owes_frame fasb width (torn q p) r n f fs rest more later behind_it = refl
owes_frame fasb width lawful r n f fs rest more later behind_it =
    owes_or fasb width r fs n rest more later (first_completed r fs).found (first_completed r fs).standing (first_completed r fs).unread (splits r fs) (λ e. (passes r fs e).all) behind_it

owes_slots : (fasb : Bool) (width : ℕ) (r : Standing) (n : ℕ) (slots more : List Slot) → Owes fasb width (told_of fasb width r n (slots ++ more)) slots more (reading_slots fasb width r n slots)
owes_slots fasb width r n [] more = refl
owes_slots fasb width r n (Mark ∷ rest) more = refl
owes_slots fasb width r n (Gap ∷ rest) more = refl
owes_slots fasb width r n (Frame f ∷ rest) more =
    owes_frame fasb width (verdict_on width r f.bytes) r (next_number n) (Frame f) (fragments f.bytes) rest more
    (reading_slots fasb width (after_all r (fragments f.bytes)) (next_number n) rest)
    (owes_slots fasb width (after_all r (fragments f.bytes)) (next_number n) rest more)

owes : (fasb : Bool) (width : ℕ) (r : Reading.Reader) (slots more : List Slot) → Owes fasb width (owed fasb width r (slots ++ more)) slots more (reading fasb width r slots)
owes fasb width r slots more =
    let s = first_completed r.standing r.in_hand in
    owes_or fasb width r.standing r.in_hand r.number slots more (reading_slots fasb width (after_all r.standing r.in_hand) r.number slots)
    s.found s.standing s.unread (splits r.standing r.in_hand) (λ e. (passes r.standing r.in_hand e).all)
    (owes_slots fasb width (after_all r.standing r.in_hand) r.number slots more)

-- what is told comes first, and what is still owed follows
pub takes_first : (fasb : Bool) (width : ℕ) (r : Reading.Reader) (slots rest : List Slot) → slots ≡ (reading fasb width r slots).taken ++ rest
    → owed fasb width r slots ≡ listed (reading fasb width r slots).told ++ owed fasb width (reading fasb width r slots).reader rest
takes_first fasb width r slots rest took =
    let o = reading fasb width r slots in
    ap (owed fasb width r) (sym (append-nil slots)) ∙ owes fasb width r slots []
    ∙ ap (λ (l : List Slot). listed o.told ++ owed fasb width o.reader l)
    (append-nil (drop (length o.taken) slots) ∙ ap (drop (length o.taken)) took ∙ drop_at o.taken rest (length o.taken) refl)

-- the same in answers
pub answers_first : (width : ℕ) (value : List ℕ → List ℕ) (refusal : List ℕ → Option ℕ) (t : Option Told) (all rest : List Told) → all ≡ listed t ++ rest
    → map (λ u. answer_to width value refusal (Some u)) all ≡ given (answer_to width value refusal t) ++ map (λ u. answer_to width value refusal (Some u)) rest
answers_first width value refusal t all rest is = ap (map (λ u. answer_to width value refusal (Some u))) is ∙ go t
  where
    shown : (t : Bool) (a : Answer) → given a ≡ a ∷ [] → given (cond t short a) ≡ cond t short a ∷ []
    shown true a e = refl
    shown false a e = e

    one : (u : Told) → given (answer_to width value refusal (Some u)) ≡ answer_to width value refusal (Some u) ∷ []
    one (packet b) = shown (leb (length b) width) (handed_out (quality value refusal (take (length b - width) b) (drop (length b - width) b)) (take (length b - width) b)) refl
    one (Reading.lost n d) = refl
    one (Reading.torn_frame n d q p) = refl
    one (Reading.mark d) = refl

    go : (t : Option Told) → map (λ u. answer_to width value refusal (Some u)) (listed t ++ rest) ≡ given (answer_to width value refusal t) ++ map (λ u. answer_to width value refusal (Some u)) rest
    go None = refl
    go (Some u) = ap (λ l. l ++ map (λ u. answer_to width value refusal (Some u)) rest) (sym (one u))

-- 3. Readings in any order with arriving slots.

interleaved : (fasb : Bool) (width : ℕ) (r : Reading.Reader) (slots : List Slot) (hs : List Happening)
    → (course fasb width r slots hs).told ++ owed fasb width (course fasb width r slots hs).reader (course fasb width r slots hs).waiting ≡ owed fasb width r (slots ++ arriving hs)
interleaved fasb width r slots [] = ap (owed fasb width r) (sym (append-nil slots))
interleaved fasb width r slots (arrive more ∷ hs) = interleaved fasb width r (slots ++ more) hs ∙ ap (owed fasb width r) (append_assoc slots more (arriving hs))
interleaved fasb width r slots (read ∷ hs) =
    let o = reading fasb width r slots in
    let left : List Slot = drop (length o.taken) slots in
    append_assoc (listed o.told) _ _
    ∙ ap (λ (l : List Told). listed o.told ++ l) (interleaved fasb width o.reader left hs)
    ∙ sym (owes fasb width r slots (arriving hs))

pub folds : Folds new_reader
folds fasb width slots hs = interleaved fasb width new_reader slots hs
