-- What a reader tells of all that was sent in a fair run: the clear packets, each gap, and no torn frame.
use Rattle.std.proofs.Common.{◌≡◌, ℕ, ◌+◌, Bool, true, false, cond, not, List, [], ◌∷◌, ◌++◌, map, length, Some, None, Option, sym, refl, ap, ◌∙◌, subst, ap₂, subst₂, arith}
use Rattle.std.specs.List.{flat_map}
use Rattle.std.proofs.lemmas.List.{length-append}
use Rattle.std.proofs.lemmas.Bool.{or_right}
use Rattle.framing.specs.declared.slot.Slot.{Slot}
use Rattle.framing.specs.declared.slot.Slot.TheVariants as slot
use Rattle.framing.specs.declared.slot.Slot.TheVariants.{Gap, Mark}
use Rattle.framing.specs.declared.frame.Frame.{Frame}
use Rattle.framing.specs.Judging.{judgment, Verdict, lawful}
use Rattle.framing.specs.Fragments.{Fragment, fragments}
use Rattle.channel.specs.Sending.{Sent, sent_frame, sent_mark, became}
use Rattle.receiver.specs.Reading.{Standing, aligned, seeking, gathered, Told, packet, mark, completes, after_all, after_frame, told_of_frame, after_mark, dropped_at_mark, next_number, after_slot, told_of_slot, told_of, verdict_on, standing_after}
use Rattle.runlaw.specs.Packets.{Piece, pieces_of, gap_before, known_start, pieces, still_begun, gaps}
use Rattle.runlaw.specs.Fair.{Fair, BodiesOnly}
use Rattle.runlaw.specs.Writing.{stands_after_all, stands_after, MarkAllowed, Written}
use Rattle.runlaw.specs.Theorem.{packet_in, loss_in, torn_in, Tells, ReadsTheClear}
use Rattle.std.proofs.lemmas.Grind.{flat_map-append}
use Rattle.runlaw.proofs.Folds.{slots_before, begun_append}
use Rattle.runlaw.proofs.Fates.{as_in, fair_fragments, fair_judged}
use Rattle.runlaw.proofs.Rows.{lawful_when_seeking, lawful_row}
use Rattle.runlaw.proofs.Alignment.{Tuned, between, astray, holding, skipping, due, due_append, Came, Lost, frame_came, frame_lost}

-- 1. What is told, put together.

tells_append : (s t : List Told) (p q : List (List ℕ)) (m n : ℕ) → Tells s p m → Tells t q n → Tells (s ++ t) (p ++ q) (m + n)
tells_append s t p q m n a b = record {
  packets_are = flat_map-append packet_in s t ∙ ap₂ (λ (x y : List (List ℕ)). x ++ y) a.packets_are b.packets_are;
  losses_are =
      let both = length-append (flat_map loss_in s) (flat_map loss_in t) in
      ap length (flat_map-append loss_in s t) ∙ omega (arith, a.losses_are, b.losses_are);
  none_torn = flat_map-append torn_in s t ∙ ap₂ (λ (x y : List (Unit {0})). x ++ y) a.none_torn b.none_torn;
}

packets_told : (ps : List (List ℕ)) → Tells (map packet ps) ps 0
packets_told [] = record { packets_are = refl; losses_are = refl; none_torn = refl }
packets_told (p ∷ ps) =
    let more = packets_told ps in
    record { packets_are = ap (λ r. p ∷ r) more.packets_are; losses_are = more.losses_are; none_torn = more.none_torn }

-- Over what was sent, with the pieces `xs`, the reader tells what is due and each loss, and is in tune after it.
pub record Follows (told : List Told) (r : Standing) (b xs : List Piece) (losses : ℕ) (at : Option ℕ) (known : Bool) : Type 0 where
  pub tells : Tells told (due b xs) losses
  pub tuned : Tuned at known r (still_begun b xs)

follows_join : {s t : List Told} {r₁ r₂ : Standing} {b xs ys : List Piece} {m n : ℕ} {i₁ i₂ : Option ℕ} {k₁ k₂ : Bool}
    → Follows s r₁ b xs m i₁ k₁ → Follows t r₂ (still_begun b xs) ys n i₂ k₂ → (l : ℕ) → m + n ≡ l → Follows (s ++ t) r₂ b (xs ++ ys) l i₂ k₂
follows_join {s} {t} {r₁} {r₂} {b} {xs} {ys} {m} {n} {i₁} {i₂} {k₁} {k₂} x y l sum = record {
  tells = subst₂ (Tells (s ++ t)) (sym (due_append b xs ys)) sum (tells_append s t (due b xs) (due (still_begun b xs) ys) m n x.tells y.tells);
  tuned = subst (Tuned i₂ k₂ r₂) (sym (begun_append b xs ys)) y.tuned;
}

-- 2. One frame.

-- the reader's own questions are answered yes
not_torn : {at : Option ℕ} {k : Bool} {r : Standing} {b : List Piece} → Tuned at k r b → (width : ℕ) (f : List ℕ)
    → (judgment width at f).verdict ≡ lawful → (judgment width (gathered r) f).verdict ≡ lawful
not_torn between width f good = good
not_torn astray width f good = good
not_torn (holding m c) width f good = ap (λ n. (judgment width (Some n) f).verdict) (sym m) ∙ good
not_torn (skipping {n = n} c) width f good = lawful_when_seeking width (Some n) f good

-- of a frame judged lawful the reader tells the packets that its fragments complete
lawful_told : (v : Verdict) (n : ℕ) (r : Standing) (fs : List Fragment) → v ≡ lawful → told_of_frame v n r fs ≡ map packet (completes r fs)
lawful_told v n r fs e = ap (λ x. told_of_frame x n r fs) e

lawful_after : (v : Verdict) (r : Standing) (fs : List Fragment) → v ≡ lawful → after_frame v r fs ≡ after_all r fs
lawful_after v r fs e = ap (λ x. after_frame x r fs) e

module _ (fasb : Bool) (width : ℕ) {at : Option ℕ} {known : Bool} {r : Standing} {b : List Piece} (t : Tuned at known r b) (f : List ℕ) (whole : length f ≡ 122)
    (good : (judgment width at f).verdict ≡ lawful) where
  frame_followed : (n : ℕ) (g : Frame) → BodiesOnly f g.bytes
      → Follows (told_of_slot fasb width r n (slot.Frame g)) (after_slot fasb width r (slot.Frame g)) b (pieces_of known f (slot.Frame g)) 0 (stands_after_all at (fragments f)) true
  frame_followed n g fair =
      let m : Came known g at r b (fragments f) = frame_came known g (fair.size ∙ whole) (fragments f) t (lawful_row width at f whole good) in
      let passes : verdict_on width r g.bytes ≡ lawful = fair_judged width (gathered r) f g.bytes whole fair ∙ not_torn t width f good in
      let same = fair_fragments f g.bytes whole fair in
      let xs = pieces_of known f (slot.Frame g) in
      let told : told_of_slot fasb width r n (slot.Frame g) ≡ map packet (completes r (map (as_in g.bytes) (fragments f))) =
      lawful_told (verdict_on width r g.bytes) (next_number n) r (fragments g.bytes) passes ∙ ap (λ fs. map packet (completes r fs)) same in
      let after : after_slot fasb width r (slot.Frame g) ≡ after_all r (map (as_in g.bytes) (fragments f)) =
      lawful_after (verdict_on width r g.bytes) r (fragments g.bytes) passes ∙ ap (after_all r) same in
      record {
        tells = subst (λ s. Tells s (due b xs) 0) (sym told) (subst (λ p. Tells (map packet (completes r (map (as_in g.bytes) (fragments f)))) p 0) m.same (packets_told _));
        tuned = subst (λ x. Tuned (stands_after_all at (fragments f)) true x (still_begun b xs)) (sym after) m.tuned;
      }

  gap_followed : (n : ℕ)
      → Follows (told_of_slot fasb width r n Gap) (after_slot fasb width r Gap) b (pieces_of known f Gap) 1 (stands_after_all at (fragments f)) false
  gap_followed n =
      let m : Lost known at b (fragments f) = frame_lost known (fragments f) t (lawful_row width at f whole good) in
      record { tells = record { packets_are = m.same; losses_are = refl; none_torn = refl }; tuned = m.tuned }

-- 3. One mark: where packets do not cross superframes it comes between packets, and aligns the reader.

realigned : {at : Option ℕ} {k : Bool} {r : Standing} {b : List Piece} → Tuned at k r b → at ≡ None → Tuned at true aligned b
realigned between e = between
realigned astray e = between
realigned (holding m c) e = let z : ◌≡◌ {A = ℕ} 0 1 = cc in absurd (omega arith)
realigned (skipping c) e = let z : ◌≡◌ {A = ℕ} 0 1 = cc in absurd (omega arith)

mark_kept : (fasb : Bool) (before : List Slot) {at : Option ℕ} {r : Standing} {b : List Piece} → Tuned at (known_start fasb before) r b → MarkAllowed fasb at
    → Tuned at (known_start fasb (Mark ∷ before)) (after_mark fasb r) b
mark_kept true before t ok = t
mark_kept false before {at} {r} {b} t ok = subst (λ k. Tuned at k aligned b) (sym (or_right (not (gap_before before)) true refl)) (realigned t ok)

mark_told : (fasb : Bool) (r : Standing) (told : List Told) (p : List (List ℕ)) (n : ℕ) → Tells told p n → Tells (mark (dropped_at_mark fasb r) ∷ told) p n
mark_told fasb r told p n m = record { packets_are = m.packets_are; losses_are = m.losses_are; none_torn = m.none_torn }

-- 4. All that was sent.

behind_gap : (fasb : Bool) (before : List Slot) → false ≡ known_start fasb (Gap ∷ before)
behind_gap true before = refl
behind_gap false before = refl

pub run_followed : (fasb : Bool) (width : ℕ) (s : List Sent) {at : Option ℕ} {r : Standing} {b : List Piece} (n : ℕ) (before : List Slot)
    → Tuned at (known_start fasb before) r b → Written fasb width at s → Fair s
    → Follows (told_of fasb width r n (map became s)) (standing_after fasb width r (map became s)) b (pieces fasb before s) (gaps (map became s)) (stands_after at s) (known_start fasb (slots_before before s))
run_followed fasb width [] n before t w fair = record { tells = record { packets_are = refl; losses_are = refl; none_torn = refl }; tuned = t }
run_followed fasb width (sent_mark ∷ s) {at} {r} {b} n before t w fair =
    let m = run_followed fasb width s 0 (Mark ∷ before) (mark_kept fasb before t w.0) w.1 fair in
    record { tells = mark_told fasb r _ _ _ m.tells; tuned = m.tuned }
run_followed fasb width (sent_frame f Gap ∷ s) {at} {r} {b} n before t w fair =
    let here = gap_followed fasb width t f w.0 w.1 n in
    let known = subst (λ k. Tuned (stands_after_all at (fragments f)) k seeking (still_begun b (pieces_of (known_start fasb before) f Gap))) (behind_gap fasb before) here.tuned in
    follows_join here (run_followed fasb width s (next_number n) (Gap ∷ before) known w.2 fair) (gaps (Gap ∷ map became s)) (omega arith)
run_followed fasb width (sent_frame f (slot.Frame g) ∷ s) {at} {r} {b} n before t w fair =
    let here = frame_followed fasb width t f w.0 w.1 n g fair.0 in
    follows_join here (run_followed fasb width s (next_number n) (slot.Frame g ∷ before) here.tuned w.2 fair.1) (gaps (slot.Frame g ∷ map became s)) (omega arith)
run_followed fasb width (sent_frame f Mark ∷ s) n before t w fair = absurd fair

-- 5. From the beginning, whatever stands before it.

at_first : (known : Bool) → Tuned None known (cond known aligned seeking) []
at_first true = between
at_first false = astray

pub reads_the_clear : ReadsTheClear
reads_the_clear fasb width number before s w fair = (run_followed fasb width s number before (at_first (known_start fasb before)) w fair).tells
