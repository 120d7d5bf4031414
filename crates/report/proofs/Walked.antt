-- Each reading is one of the answers that are owed, and where it answers nothing, none is.
use Rattle.std.proofs.Common.{◌≡◌, ℕ, suc, Bool, true, false, List, [], ◌∷◌, ◌++◌, map, length, Some, None, Option, sym, refl, ap, ◌∙◌, ap₂, arith}
use Rattle.checksum.specs.Choosing.{width_by, value_by}
use Rattle.framing.specs.declared.slot.Slot.{Slot}
use Rattle.framing.specs.declared.slot.Slot.TheVariants.{Frame, Gap, Mark}
use Rattle.framing.specs.Fragments.{Fragment, fragments}
use Rattle.framing.specs.Judging.{Verdict, lawful, torn}
use Rattle.receiver.specs.Answering.{Answer, handed_out, short, lost, mark, nothing, answer_to}
use Rattle.receiver.specs.Answering as answers
use Rattle.receiver.specs.Folding.{given}
use Rattle.receiver.specs.Reading as rules
use Rattle.receiver.specs.Reading.{Standing, Told, packet, completes, after_all, after_frame, told_of, told_of_frame, verdict_on, next_number, first_completed, Outcome, or_on, of_frame, reading_slots, reading, owed}
use Rattle.receiver.specs.Readings.{Reads, side, said}
use Rattle.receiver.specs.Views.{view}
use Rattle.receiver.specs.declared.reader.Reader as receivers
use Rattle.receiver.specs.declared.answer.Reading.{Reading}
use Rattle.receiver.specs.declared.answer.Reading.TheVariants as readings
use Rattle.receiver.proofs.Folds.{Splits, splits, answers_first}
use Rattle.receiver.proofs.Slots.{passes}
use Rattle.reel.specs.Playing.{waiting_slots}
use Rattle.reel.specs.declared.playing.ReelChannel.{ReelChannel}
use Rattle.service.specs.Choosing.{refuses_by}
use Rattle.service.specs.declared.choice.ServiceChoice.{ServiceChoice}
use Rattle.report.specs.declared.totals.Totals.{Totals}
use Rattle.report.specs.declared.walk.ReelWalk.{ReelWalk}
use Rattle.report.specs.declared.walk.Until.{Until}
use Rattle.report.specs.declared.walk.Until.TheVariants as to
use Rattle.report.specs.Walking.{tallied_answer, tallied_all, owed_by, with_answer, Passed, is_the_last}

-- 1. Where a reading tells nothing, nothing is owed.

none_or : (r : Standing) (fs : List Fragment) (n : ℕ) (later : Outcome) (rest : List Told) (found : Option (List ℕ)) (st : Standing) (un : List Fragment)
    → Splits r fs (record { found = found; standing = st; unread = un }) → (found ≡ None → un ≡ []) → (later.told ≡ None → rest ≡ [])
    → (or_on (record { found = found; standing = st; unread = un }) n later).told ≡ None → map packet (completes r fs) ++ rest ≡ []
none_or r fs n later rest None st un s all behind none =
    ap₂ (λ (ps : List (List ℕ)) (l : List Told). map packet ps ++ l) (s.packets ∙ ap (completes st) (all refl)) (behind none)
none_or r fs n later rest (Some p) st un s all behind none = cc

none_through : (r : Standing) (fs : List Fragment) (n : ℕ) (later : Outcome) (rest : List Told) → (later.told ≡ None → rest ≡ [])
    → (or_on (first_completed r fs) n later).told ≡ None → map packet (completes r fs) ++ rest ≡ []
none_through r fs n later rest behind none =
    let s = first_completed r fs in
    none_or r fs n later rest s.found s.standing s.unread (splits r fs) (λ e. (passes r fs e).all) behind none

none_frame : (fasb : Bool) (width : ℕ) (v : Verdict) (r : Standing) (n : ℕ) (fs : List Fragment) (later : Outcome) (rest : List Slot)
    → (later.told ≡ None → told_of fasb width (after_all r fs) n rest ≡ [])
    → (of_frame v r n fs later).told ≡ None → told_of_frame v n r fs ++ told_of fasb width (after_frame v r fs) n rest ≡ []
none_frame fasb width lawful r n fs later rest behind none = none_through r fs n later (told_of fasb width (after_all r fs) n rest) behind none
none_frame fasb width (torn q p) r n fs later rest behind none = cc

none_slots : (fasb : Bool) (width : ℕ) (r : Standing) (n : ℕ) (slots : List Slot) → (reading_slots fasb width r n slots).told ≡ None → told_of fasb width r n slots ≡ []
none_slots fasb width r n [] none = refl
none_slots fasb width r n (Mark ∷ rest) none = cc
none_slots fasb width r n (Gap ∷ rest) none = cc
none_slots fasb width r n (Frame f ∷ rest) none =
    let fs = fragments f.bytes in
    none_frame fasb width (verdict_on width r f.bytes) r (next_number n) fs (reading_slots fasb width (after_all r fs) (next_number n) rest) rest
    (none_slots fasb width (after_all r fs) (next_number n) rest) none

none_owed : (fasb : Bool) (width : ℕ) (r : rules.Reader) (slots : List Slot) → (reading fasb width r slots).told ≡ None → owed fasb width r slots ≡ []
none_owed fasb width r slots none =
    let st = after_all r.standing r.in_hand in
    none_through r.standing r.in_hand r.number (reading_slots fasb width st r.number slots) (told_of fasb width st r.number slots)
    (none_slots fasb width st r.number slots) none

-- nothing is answered only where nothing is told
none_told : (width : ℕ) (value : List ℕ → List ℕ) (refuses : List ℕ → Option ℕ) (t : Option Told) → answer_to width value refuses t ≡ nothing → t ≡ None
none_told width value refuses None e = refl
none_told width value refuses (Some t) e =
    let one : ◌≡◌ {A = ℕ} 1 0 = ap length (answers_first width value refuses (Some t) (t ∷ []) [] refl ∙ ap (λ (a : Answer). given a ++ []) e) in
    absurd (omega arith)

-- 2. One reading.

tallied_first : (service : ServiceChoice) (t : Totals) (a : Answer) (rest : List Answer)
    → tallied_all service (tallied_answer service t a) rest ≡ tallied_all service t (given a ++ rest)
tallied_first service t (handed_out quality p) rest = refl
tallied_first service t short rest = refl
tallied_first service t (lost number dropped) rest = refl
tallied_first service t (answers.torn number dropped question place) rest = refl
tallied_first service t (mark dropped) rest = refl
tallied_first service t nothing rest = refl

one_given : (a : Reading) (buffer : List ℕ) (rest : List Answer) → (a ≡ readings.Nothing → ⊥) → length (given (said a buffer) ++ rest) ≡ suc (length rest)
one_given (readings.Sound len) buffer rest not = refl
one_given (readings.Damaged len) buffer rest not = refl
one_given (readings.Foreign number len) buffer rest not = refl
one_given readings.Short buffer rest not = refl
one_given (readings.Lost frame dropped) buffer rest not = refl
one_given (readings.Torn frame dropped why) buffer rest not = refl
one_given (readings.Mark dropped) buffer rest not = refl
one_given readings.Nothing buffer rest not = absurd (not refl)

-- A reader and a channel that stand as a reading leaves them, and the totals with its answer: that walk has passed the reading.
pub reads_one : (w : ReelWalk) (r : receivers.Reader) (c : ReelChannel) (a : Reading) (old new : List ℕ)
    → Reads w.settings.fasb (width_by w.settings.checksum) (value_by w.settings.checksum) (refuses_by w.settings.service)
    (side (view w.reader) (waiting_slots w.channel) old) a (side (view r) (waiting_slots c) new)
    → Passed a w (with_answer (record w { reader = r; channel = c }) (said a new))
reads_one w r c a old new reads =
    let s = w.settings in
    let left : List Answer = owed_by s (view r) (waiting_slots c) in
    record {
      counted = tallied_first s.service w.totals (said a new) left ∙ ap (tallied_all s.service w.totals) (sym reads.folds);
      falls = λ not.
          let long = ap length reads.folds ∙ one_given a new left not in
          omega arith;
      out = λ is.
          let quiet : said a new ≡ nothing = ap (λ (x : Reading). said x new) is in
          let told = none_told (width_by s.checksum) (value_by s.checksum) (refuses_by s.service) (reading s.fasb (width_by s.checksum) (view w.reader) (waiting_slots w.channel)).told (sym reads.answers ∙ quiet) in
          let none = none_owed s.fasb (width_by s.checksum) (view w.reader) (waiting_slots w.channel) told in
          sym (reads.folds ∙ ap (λ (x : Answer). given x ++ left) quiet)
          ∙ ap (map (λ (x : Told). answer_to (width_by s.checksum) (value_by s.checksum) (refuses_by s.service) (Some x))) none;
    }

-- 3. The last reading of a walk.

pub not_last : (u : Until) (a : Reading) → is_the_last u a ≡ false → a ≡ readings.Nothing → ⊥
not_last u a goes_on is = let z : ◌≡◌ {A = Bool} true false = sym (ap (is_the_last u) is) ∙ goes_on in cc

pub last_of_all : (a : Reading) → is_the_last to.End a ≡ true → a ≡ readings.Nothing
last_of_all (readings.Sound len) last = cc
last_of_all (readings.Damaged len) last = cc
last_of_all (readings.Foreign number len) last = cc
last_of_all readings.Short last = cc
last_of_all (readings.Lost frame dropped) last = cc
last_of_all (readings.Torn frame dropped why) last = cc
last_of_all (readings.Mark dropped) last = cc
last_of_all readings.Nothing last = refl
