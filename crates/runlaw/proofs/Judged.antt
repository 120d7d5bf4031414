-- One clear packet of a fair run: it comes at its own length, is handed out so, and is judged rightly.
use Rattle.std.proofs.Common.{◌≡◌, ℕ, ◌+◌, ◌-◌, ◌≤◌, Bool, true, false, cond, leb, List, [], ◌∷◌, ◌++◌, length, take, drop, Some, None, Option, sym, refl, ap, ◌∙◌, ap₂, subst₂, arith}
use Rattle.std.specs.List.{flat_map, AllByRecursion}
use Rattle.std.proofs.ByRecursion.{All-append}
use Rattle.std.proofs.lemmas.List.{length-append, length-take, take_at, drop_at, take-append-drop}
use Rattle.std.proofs.lemmas.Bool.{and_parts, cond-false, lt-leb, both_ways}
use Rattle.framing.specs.declared.frame.Frame.{Frame}
use Rattle.framing.specs.declared.slot.Slot.{Slot}
use Rattle.framing.specs.declared.slot.Slot.TheVariants as slot
use Rattle.framing.specs.Fragments.{Fragment, body, notional, padding, fragments}
use Rattle.channel.specs.Sending.{Sent, sent_frame, sent_mark}
use Rattle.checksum.specs.Stretch.{bits, ChangedInOneStretch}
use Rattle.checksum.specs.Detection.{Detects}
use Rattle.receiver.proofs.Handed.{same_refl, same_true}
use Rattle.receiver.specs.Answering.{sound, damaged, foreign, handed_out, same, quality, answered}
use Rattle.runlaw.specs.History.{HandedOut}
use Rattle.runlaw.specs.Packets.{Piece, piece_of, pieces_of, known_start, pieces, grouped, as_cut, as_received, or_none, is_here, all_came, start_known, is_clear}
use Rattle.runlaw.specs.Fair.{Fair}
use Rattle.runlaw.specs.Writing.{stands_after_one, stands_after_all, Written}
use Rattle.runlaw.specs.Law.{HandedOutRightly}
use Rattle.runlaw.specs.Theorem.{Admitted}
use Rattle.runlaw.proofs.Rows.{Rest, Row, lawful_row}
use Rattle.runlaw.proofs.Alignment.{own_length}

-- 1. Each piece that came has its own length.

abbrev pub OwnLength : Option (List ℕ) → List ℕ → Type 0
OwnLength None c = Unit {0}
OwnLength (Some g) c = length g ≡ length c

abbrev pub Own : Piece → Type 0
Own q = OwnLength q.came q.cut

rest_own : (known : Bool) (g : Frame) → length g.bytes ≡ 122 → (fs : List Fragment) (at : Option ℕ) → Rest at fs → AllByRecursion Own (flat_map (piece_of known (slot.Frame g)) fs)
rest_own known g whole [] at ok = tt
rest_own known g whole (body p c l ∷ fs) at ok = (own_length g.bytes p c whole ok.1, rest_own known g whole fs (stands_after_one at (body p c l)) ok.2)
rest_own known g whole (notional p ∷ fs) at ok = rest_own known g whole fs at ok
rest_own known g whole (padding p ∷ fs) at ok = rest_own known g whole fs at ok.1

frame_own : (known : Bool) (g : Frame) → length g.bytes ≡ 122 → (fs : List Fragment) (at : Option ℕ) → Row at fs → AllByRecursion Own (flat_map (piece_of known (slot.Frame g)) fs)
frame_own known g whole [] at ok = tt
frame_own known g whole (body p c l ∷ fs) at ok = (own_length g.bytes p c whole ok.1, rest_own known g whole fs (stands_after_one at (body p c l)) ok.2)
frame_own known g whole (notional p ∷ fs) at ok = absurd ok
frame_own known g whole (padding p ∷ fs) at ok = rest_own known g whole fs at ok.1

lost_own : (known : Bool) (fs : List Fragment) → AllByRecursion Own (flat_map (piece_of known slot.Gap) fs)
lost_own known [] = tt
lost_own known (body p c l ∷ fs) = (tt, lost_own known fs)
lost_own known (notional p ∷ fs) = lost_own known fs
lost_own known (padding p ∷ fs) = lost_own known fs

pub pieces_own : (fasb : Bool) (width : ℕ) (s : List Sent) (at : Option ℕ) (before : List Slot) → Written fasb width at s → Fair s → AllByRecursion Own (pieces fasb before s)
pieces_own fasb width [] at before w fair = tt
pieces_own fasb width (sent_mark ∷ s) at before w fair = pieces_own fasb width s at (slot.Mark ∷ before) w.1 fair
pieces_own fasb width (sent_frame f slot.Gap ∷ s) at before w fair =
    All-append Own (pieces_of (known_start fasb before) f slot.Gap) (pieces fasb (slot.Gap ∷ before) s) (lost_own (known_start fasb before) (fragments f)) (pieces_own fasb width s (stands_after_all at (fragments f)) (slot.Gap ∷ before) w.2 fair)
pieces_own fasb width (sent_frame f (slot.Frame g) ∷ s) at before w fair =
    All-append Own (pieces_of (known_start fasb before) f (slot.Frame g)) (pieces fasb (slot.Frame g ∷ before) s)
    (frame_own (known_start fasb before) g (fair.0.size ∙ w.0) (fragments f) at (lawful_row width at f w.0 w.1))
    (pieces_own fasb width s (stands_after_all at (fragments f)) (slot.Frame g ∷ before) w.2 fair.1)
pieces_own fasb width (sent_frame f slot.Mark ∷ s) at before w fair = absurd fair

pub groups_own : (b xs : List Piece) → AllByRecursion Own b → AllByRecursion Own xs → AllByRecursion (AllByRecursion Own) (grouped b xs)
groups_own b [] h k = tt
groups_own b (q ∷ xs) h k =
    let w = b ++ (q ∷ []) in
    let own : AllByRecursion Own w = All-append Own b (q ∷ []) h (k.0, tt) in
    elim q.ends as (λ e. AllByRecursion (AllByRecursion Own) (cond e (w ∷ grouped [] xs) (grouped w xs))) [
      | true ↦ (own, groups_own [] xs tt k.1)
      | false ↦ groups_own w xs own k.1
    ]

came_length : (o : Option (List ℕ)) (c : List ℕ) → OwnLength o c → is_here o ≡ true → length (or_none o) ≡ length c
came_length None c h e = absurd (both_ways false refl e)
came_length (Some g) c h e = h

sums : (a b c d : List ℕ) → length a ≡ length c → length b ≡ length d → length (a ++ b) ≡ length (c ++ d)
sums a b c d x y = simp length-append (omega arith)

group_length : (g : List Piece) → AllByRecursion Own g → all_came g ≡ true → length (as_received g) ≡ length (as_cut g)
group_length [] h e = refl
group_length (q ∷ g) h e =
    let both = and_parts (is_here q.came) (all_came g) e in
    sums (or_none q.came) (as_received g) q.cut (as_cut g) (came_length q.came q.cut h.0 both.0) (group_length g h.1 both.1)

pub clear_length : (g : List Piece) → AllByRecursion Own g → is_clear g ≡ true → length (as_received g) ≡ length (as_cut g)
clear_length g h e = group_length g h (and_parts (all_came g) (start_known g) e).0

-- 2. Quality.

module _ (value : List ℕ → List ℕ) (refusal : List ℕ → Option ℕ) where
  fitting : (p : List ℕ) → refusal p ≡ None → quality value refusal p (value p) ≡ sound
  fitting p admitted =
      ap (λ b. cond b (elim (refusal p) [ None ↦ sound | Some n ↦ foreign n ]) damaged) (same_refl (value p))
      ∙ ap (λ o. elim o [ None ↦ sound | Some n ↦ foreign n ]) admitted

  sound_fits : (t v : List ℕ) → quality value refusal t v ≡ sound → value t ≡ v
  sound_fits t v e = go (same (value t) v) refl e
    where
      go : (b : Bool) → same (value t) v ≡ b → cond b (elim (refusal t) [ None ↦ sound | Some n ↦ foreign n ]) damaged ≡ sound → value t ≡ v
      go true q good = same_true (value t) v q
      go false q bad = let z : ◌≡◌ {A = ℕ} 0 1 = cc in absurd (omega arith)

-- 3. A packet that was carried, and came at its own length.

pub record Good (value : List ℕ → List ℕ) (refusal : List ℕ → Option ℕ) (g : List Piece) : Type 0 where
  pub offered : List ℕ
  pub cut_so : as_cut g ≡ offered ++ value offered
  pub admitted : Admitted refusal offered
  pub length_kept : length (as_received g) ≡ length (as_cut g)

pub record Out (width reach : ℕ) (value : List ℕ → List ℕ) (refusal : List ℕ → Option ℕ) (g : List Piece) : Type 0 where
  pub it : HandedOut
  pub is : answered width value refusal (as_received g) ≡ handed_out it.quality it.bytes
  pub rightly : HandedOutRightly width reach it g

module _ (width reach : ℕ) (value : List ℕ → List ℕ) (refusal : List ℕ → Option ℕ) (sized : (s : List ℕ) → length (value s) ≡ width) (detects : Detects reach value) where
  pub handed_rightly : (g : List Piece) → Good value refusal g → Out width reach value refusal g
  handed_rightly g good =
      let r = as_received g in
      let p = good.offered in
      let n : ℕ = length r - width in
      let t = take n r in
      let v = drop n r in
      let cut : length (as_cut g) ≡ length p + width = ap length good.cut_so ∙ length-append p (value p) ∙ ap (λ k. length p + k) (sized p) in
      let some : 1 ≤ length p = good.admitted.1 in
      let kept = good.length_kept in
      let long : leb (length r) width ≡ false = lt-leb (length r) width (omega arith) in
      let size = length-take n r in
      let at : length p ≡ n = omega arith in
      record {
        it = record { quality = quality value refusal t v; bytes = t };
        is = cond-false (leb (length r) width) _ _ long;
        rightly = (
          record { own_length = omega arith; as_it_came = ap (λ k. take (k - width) r) kept },
          record {
            unchanged_is_sound = λ unchanged.
                let whole : r ≡ p ++ value p = unchanged ∙ good.cut_so in
                ap₂ (quality value refusal) (ap (take n) whole ∙ take_at p (value p) n at) (ap (drop n) whole ∙ drop_at p (value p) n at) ∙ fitting value refusal p good.admitted.0;
            burst_is_not_sound = λ burst is_sound.
                detects p t v (subst₂ (λ x y. ChangedInOneStretch reach (bits x) (bits y)) good.cut_so (sym (take-append-drop n r)) burst) (sound_fits value refusal t v is_sound);
          },
        );
      }
