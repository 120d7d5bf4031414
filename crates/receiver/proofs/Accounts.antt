-- Every reading accounts for the slots that it takes and for each byte of their bodies.
use Rattle.std.proofs.Common.{◌≡◌, ℕ, ◌+◌, Bool, true, false, List, [], ◌∷◌, length, Some, None, Option, refl, ap, ◌∙◌, arith}
use Rattle.std.proofs.lemmas.List.{length-append}
use Rattle.framing.specs.declared.slot.Slot.{Slot}
use Rattle.framing.specs.declared.slot.Slot.TheVariants.{Frame, Gap, Mark}
use Rattle.framing.specs.Fragments.{Fragment, body, notional, padding, fragments}
use Rattle.framing.specs.Judging.{Verdict, lawful, torn}
use Rattle.receiver.specs.Accounting.{body_size, bodies, skipped_one, skipped, if_lawful, bodies_in_slot, skipped_in_slot, over_slots, over_told, in_packet, told_dropped, holds, is_gap, is_mark, one_if_torn, is_torn, tells_lost, tells_torn, tells_mark, Accounted}
use Rattle.receiver.specs.Reading
use Rattle.receiver.specs.Reading.{Standing, aligned, gathering, seeking, dropped, after_one, after_all, after_frame, completed, listed, Told, verdict_on, next_number, Found, found_or, first_completed, Outcome, or_on, of_frame, reading, reading_slots}
use Rattle.receiver.proofs.Slots.{passes}
use Rattle.receiver.proofs.Steps.{completing}

-- 1. Fragments.

abbrev found_length : Option (List ℕ) → ℕ
found_length None = 0
found_length (Some p) = length p

-- one fragment
kept_by_one : (r : Standing) (f : Fragment) → dropped r + body_size f ≡ found_length (completed r f) + skipped_one r f + dropped (after_one r f)
kept_by_one aligned (body p b true) = omega arith
kept_by_one aligned (body p b false) = omega arith
kept_by_one aligned (notional p) = refl
kept_by_one aligned (padding p) = refl
kept_by_one (gathering a) (body p b true) = let both = length-append a b in omega arith
kept_by_one (gathering a) (body p b false) = let both = length-append a b in omega arith
kept_by_one (gathering a) (notional p) = omega arith
kept_by_one (gathering a) (padding p) = omega arith
kept_by_one seeking (body p b true) = omega arith
kept_by_one seeking (body p b false) = omega arith
kept_by_one seeking (notional p) = refl
kept_by_one seeking (padding p) = refl

-- a reader that is not seeking does not begin to, in a frame
abbrev Sure : Standing → Type 0
Sure aligned = Unit {0}
Sure (gathering a) = Unit {0}
Sure seeking = ⊥

stays_sure : (r : Standing) (f : Fragment) → Sure r → Sure (after_one r f)
stays_sure aligned (body p b true) sure = tt
stays_sure aligned (body p b false) sure = tt
stays_sure aligned (notional p) sure = tt
stays_sure aligned (padding p) sure = tt
stays_sure (gathering a) (body p b true) sure = tt
stays_sure (gathering a) (body p b false) sure = tt
stays_sure (gathering a) (notional p) sure = tt
stays_sure (gathering a) (padding p) sure = tt
stays_sure seeking f sure = absurd sure

none_skipped : (r : Standing) (fs : List Fragment) → Sure r → skipped r fs ≡ 0
none_skipped r [] sure = refl
none_skipped aligned (f ∷ fs) sure = let later = none_skipped (after_one aligned f) fs (stays_sure aligned f tt) in omega arith
none_skipped (gathering a) (f ∷ fs) sure = let later = none_skipped (after_one (gathering a) f) fs (stays_sure (gathering a) f tt) in omega arith
none_skipped seeking (f ∷ fs) sure = absurd sure

-- to the first packet: nothing behind it is skipped
pub record Kept (r : Standing) (fs : List Fragment) (s : Found) : Type 0 where
  pub bytes : dropped r + bodies fs ≡ found_length s.found + skipped r fs + (dropped s.standing + bodies s.unread)

kept_or : (o : Option (List ℕ)) (r r' : Standing) (f : Fragment) (fs : List Fragment) (later : Found) → completed r f ≡ o → r' ≡ after_one r f
    → dropped r + body_size f ≡ found_length o + skipped_one r f + dropped r' → Kept r' fs later
    → dropped r + (body_size f + bodies fs) ≡ found_length (found_or o r' fs later).found + (skipped_one r f + skipped r' fs) + (dropped (found_or o r' fs later).standing + bodies (found_or o r' fs later).unread)
kept_or None r r' f fs later e turned one s = let rest = s.bytes in omega arith
kept_or (Some p) r r' f fs later e turned one s =
    let done : r' ≡ aligned = turned ∙ (completing r f p e).turns in
    let none : skipped r' fs ≡ 0 = ap (λ t. skipped t fs) done ∙ none_skipped aligned fs tt in
    omega arith

pub kept : (r : Standing) (fs : List Fragment) → Kept r fs (first_completed r fs)
kept r [] = record { bytes = omega arith }
kept r (f ∷ fs) =
    record { bytes = kept_or (completed r f) r (after_one r f) f fs (first_completed (after_one r f) fs) refl refl (kept_by_one r f) (kept (after_one r f) fs) }

-- 2. Slots: x bytes were there, and k of them were skipped, before these were taken.

record Tally (fasb : Bool) (width : ℕ) (x k : ℕ) (r : Standing) (taken : List Slot) (told : List Told) (after : Reading.Reader) : Type 0 where
  bytes : x + over_slots (bodies_in_slot width) fasb width r taken
      ≡ over_told in_packet told + over_told told_dropped told + (k + over_slots (skipped_in_slot width) fasb width r taken) + holds after
  gaps : over_told tells_lost told ≡ over_slots is_gap fasb width r taken
  torn_frames : over_told tells_torn told ≡ over_slots (is_torn width) fasb width r taken
  marks : over_told tells_mark told ≡ over_slots is_mark fasb width r taken

tally_or : (fasb : Bool) (width : ℕ) (r : Standing) (fs : List Fragment) (n : ℕ) (later : Outcome) (o : Option (List ℕ)) (st : Standing) (un : List Fragment)
    → dropped r + bodies fs ≡ found_length o + skipped r fs + (dropped st + bodies un) → (o ≡ None → (st ≡ after_all r fs) × (un ≡ []))
    → Tally fasb width (dropped (after_all r fs)) 0 (after_all r fs) later.taken (listed later.told) later.reader
    → let e = or_on (record { found = o; standing = st; unread = un }) n later in
    Tally fasb width (dropped r + bodies fs) (skipped r fs) (after_all r fs) e.taken (listed e.told) e.reader
tally_or fasb width r fs n later None st un sum rest behind_it =
    let stands : dropped st ≡ dropped (after_all r fs) = ap dropped (rest refl).0 in
    let none : bodies un ≡ 0 = ap bodies (rest refl).1 in
    let b = behind_it.bytes in
    record { bytes = omega arith; gaps = behind_it.gaps; torn_frames = behind_it.torn_frames; marks = behind_it.marks }
tally_or fasb width r fs n later (Some p) st un sum rest behind_it =
    record { bytes = omega arith; gaps = refl; torn_frames = refl; marks = refl }

-- a frame in the list, by its verdict
record FrameTally (fasb : Bool) (width : ℕ) (v : Verdict) (r : Standing) (fs : List Fragment) (o : Outcome) : Type 0 where
  bytes : dropped r + (if_lawful v (bodies fs) + over_slots (bodies_in_slot width) fasb width (after_frame v r fs) o.taken)
      ≡ over_told in_packet (listed o.told) + over_told told_dropped (listed o.told) + (if_lawful v (skipped r fs) + over_slots (skipped_in_slot width) fasb width (after_frame v r fs) o.taken) + holds o.reader
  gaps : over_told tells_lost (listed o.told) ≡ over_slots is_gap fasb width (after_frame v r fs) o.taken
  torn_frames : over_told tells_torn (listed o.told) ≡ one_if_torn v + over_slots (is_torn width) fasb width (after_frame v r fs) o.taken
  marks : over_told tells_mark (listed o.told) ≡ over_slots is_mark fasb width (after_frame v r fs) o.taken

tally_frame : (fasb : Bool) (width : ℕ) (v : Verdict) (r : Standing) (n : ℕ) (fs : List Fragment) (later : Outcome)
    → Tally fasb width (dropped (after_all r fs)) 0 (after_all r fs) later.taken (listed later.told) later.reader
    → FrameTally fasb width v r fs (of_frame v r n fs later)
tally_frame fasb width (torn q p) r n fs later behind_it = record { bytes = omega arith; gaps = refl; torn_frames = refl; marks = refl }
tally_frame fasb width lawful r n fs later behind_it =
    let s = first_completed r fs in
    let t = tally_or fasb width r fs n later s.found s.standing s.unread (kept r fs).bytes (λ e. ((passes r fs e).stands, (passes r fs e).all)) behind_it in
    let b = t.bytes in
    let q = t.torn_frames in
    record { bytes = omega arith; gaps = t.gaps; torn_frames = omega arith; marks = t.marks }

tally_slots : (fasb : Bool) (width : ℕ) (r : Standing) (n : ℕ) (slots : List Slot) → let o = reading_slots fasb width r n slots in
    Tally fasb width (dropped r) 0 r o.taken (listed o.told) o.reader
tally_slots fasb width r n [] = record { bytes = omega arith; gaps = refl; torn_frames = refl; marks = refl }
tally_slots true width r n (Mark ∷ rest) = record { bytes = omega arith; gaps = refl; torn_frames = refl; marks = refl }
tally_slots false width r n (Mark ∷ rest) = record { bytes = omega arith; gaps = refl; torn_frames = refl; marks = refl }
tally_slots fasb width r n (Gap ∷ rest) = record { bytes = omega arith; gaps = refl; torn_frames = refl; marks = refl }
tally_slots fasb width r n (Frame f ∷ rest) =
    let fs : List Fragment = fragments f.bytes in
    let t = tally_frame fasb width (verdict_on width r f.bytes) r (next_number n) fs (reading_slots fasb width (after_all r fs) (next_number n) rest)
    (tally_slots fasb width (after_all r fs) (next_number n) rest) in
    let b = t.bytes in
    let lost = t.gaps in
    let ends = t.marks in
    record { bytes = omega arith; gaps = omega arith; torn_frames = t.torn_frames; marks = omega arith }

-- 3. One reading.

pub accounts : (fasb : Bool) (width : ℕ) (r : Reading.Reader) (slots : List Slot)
    → Accounted fasb width r (reading fasb width r slots).taken (listed (reading fasb width r slots).told) (reading fasb width r slots).reader
accounts fasb width r slots =
    let s = first_completed r.standing r.in_hand in
    let t = tally_or fasb width r.standing r.in_hand r.number (reading_slots fasb width (after_all r.standing r.in_hand) r.number slots)
    s.found s.standing s.unread (kept r.standing r.in_hand).bytes (λ e. ((passes r.standing r.in_hand e).stands, (passes r.standing r.in_hand e).all))
    (tally_slots fasb width (after_all r.standing r.in_hand) r.number slots) in
    record { bytes = t.bytes; gaps = t.gaps; torn_frames = t.torn_frames; marks = t.marks }
