-- What a cutting and a padding carry.
use Rattle.std.proofs.Common.{◌≡◌, ℕ, zero, suc, ◌+◌, ◌<◌, ◌≤◌, List, [], ◌∷◌, ◌++◌, length, None, Option, sym, refl, ap, ◌∙◌, subst, ap₂, arith}
use Rattle.std.specs.List.{flat_map}
use Rattle.std.proofs.lemmas.List.{append-nil, append_assoc, nil_from_length}
use Rattle.framing.specs.Judging.{judgment, lawful}
use Rattle.flow.specs.Carrying.{Part, parts_in, begun_after, ended_by, not_ended, packets_of, CutAtEnd, counted}
use Rattle.flow.specs.Keeping.{Unfinished, Short}
use Rattle.flow.specs.Cutting.{Cut, cut, behind, uncutted, closed, grown, uncut, paddings}
use Rattle.flow.proofs.Cuts.{cut_by, uncut_none}
use Rattle.flow.proofs.Lawful.{nothing_begun, Carries, padded_carries, next, next_whole, next_ends, ends_next, next_within, next_parts, next_fills}
use Rattle.flow.proofs.Packets.{all_right, begun_append, packets_append, part_cut, begun_ended}

-- The frames are put behind what is begun: each has 122 bytes, is lawful for a reader that has followed the writer, and
-- cuts a packet at its end alone.
abbrev pub LawfulFrames : ℕ → Option (List ℕ) → List (List ℕ) → Type 0
LawfulFrames width at [] = Unit {0}
LawfulFrames width at (f ∷ fs) =
    (length f ≡ 122)
    × ((judgment width (counted at) f).verdict ≡ lawful)
    × CutAtEnd (parts_in f)
    × LawfulFrames width (begun_after at (parts_in f)) fs

-- the parts in some frames
abbrev pub parts_of : List (List ℕ) → List Part
parts_of fs = flat_map parts_in fs

frame_lawful : {width : ℕ} {at : Option (List ℕ)} {f : List ℕ} {qs : List Part} → Carries width at f qs → (fs : List (List ℕ))
    → LawfulFrames width (begun_after at qs) fs → LawfulFrames width at (f ∷ fs)
frame_lawful {width} {at} {f} {qs} c fs later = (
  c.long,
  c.judged,
  subst CutAtEnd (sym c.parts) c.at_end,
  subst (λ (r : List Part). LawfulFrames width (begun_after at r) fs) (sym c.parts) later,
)

-- 1. A cutting. The packets stay the same: those of the parts that were begun and of the bytes to cut are those of the full
-- frames, of the unfinished one and of the bytes that did not fit.
pub record CutCarries (width : ℕ) (at : Option (List ℕ)) (k : ℕ) (begun bytes : List ℕ) (c : Cut) : Type 0 where
  pub frames : LawfulFrames width at c.full
  pub unfinished : Unfinished c.unfinished
  pub same : packets_of at (parts_of c.full ++ parts_in c.unfinished) c.over ≡ packets_of at (parts_in begun) bytes
  pub settled :
      (bytes ≡ [] → begun_after at (parts_in begun) ≡ None) → c.over ≡ []
      → begun_after at (parts_of c.full ++ parts_in c.unfinished) ≡ None
  pub spent : (k ≡ 0 → begun ≡ []) → c.left ≡ 0 → c.unfinished ≡ []

none_left : (begun bytes : List ℕ) → length (grown begun bytes) < 121 → uncut begun bytes ≡ []
none_left begun bytes fits = nil_from_length (uncut begun bytes) (uncut_none begun bytes fits)

module _ (width : ℕ) where
  nothing_cut : (at : Option (List ℕ)) (k : ℕ) (begun bytes : List ℕ) → Unfinished begun → CutCarries width at k begun bytes (uncutted k begun bytes)
  nothing_cut at k begun bytes u =
      record { frames = tt; unfinished = u; same = refl; settled = λ clear none. clear none; spent = λ none e. none e }

  one_within : (at : Option (List ℕ)) (k : ℕ) (begun bytes : List ℕ) → Unfinished begun → 0 < length bytes → length (grown begun bytes) < 121
      → CutCarries width at (suc k) begun bytes (uncutted (suc k) (grown begun bytes) [])
  one_within at k begun bytes u any fits =
      let q = next begun bytes in
      let parts = next_parts begun bytes u any fits in
      let ends = ends_next begun bytes u any (none_left begun bytes fits) in
      record {
        frames = tt;
        unfinished = next_within begun bytes u any fits;
        same =
            ap (λ (r : List Part). packets_of at r []) parts
            ∙ part_cut at (parts_in begun) q bytes [] (ap (λ (r : List ℕ). q.bytes ++ r) (sym (none_left begun bytes fits)) ∙ next_whole begun bytes u any) any (λ _. refl);
        settled = λ clear none. ap (begun_after at) parts ∙ begun_ended at (parts_in begun) q ends;
        spent = λ none e. absurd (omega arith);
      }

  one_fills : (at : Option (List ℕ)) (k : ℕ) (begun bytes : List ℕ) (c : Cut) → Unfinished begun → 0 < length bytes → 121 ≤ length (grown begun bytes)
      → Short (2044 + width) (packets_of at (parts_in begun) bytes)
      → (Short (2044 + width) (packets_of (begun_after at (parts_in begun ++ next begun bytes ∷ [])) (parts_in []) (uncut begun bytes))
      → CutCarries width (begun_after at (parts_in begun ++ next begun bytes ∷ [])) k [] (uncut begun bytes) c)
      → CutCarries width at (suc k) begun bytes (behind (closed (grown begun bytes) ∷ []) c)
  one_fills at k begun bytes c u any fills short later-from =
      let q = next begun bytes in
      let pf : List Part = parts_in begun ++ q ∷ [] in
      let at' = begun_after at pf in
      let cutting : packets_of at pf (uncut begun bytes) ≡ packets_of at (parts_in begun) bytes =
      part_cut at (parts_in begun) q bytes (uncut begun bytes) (next_whole begun bytes u any) any (next_ends begun bytes u any) in
      let short' : Short (2044 + width) (packets_of at pf (uncut begun bytes)) = subst (Short (2044 + width)) (sym cutting) short in
      let frame = next_fills begun bytes u any width at fills short' in
      let later = later-from (all_right (λ p. length p ≤ 2044 + width) (ended_by at pf) (not_ended at' (uncut begun bytes)) short') in
      let rest : List Part = parts_of c.full ++ parts_in c.unfinished in
      let parts : parts_of (closed (grown begun bytes) ∷ c.full) ++ parts_in c.unfinished ≡ pf ++ rest =
      ap (λ (r : List Part). (r ++ parts_of c.full) ++ parts_in c.unfinished) frame.parts
      ∙ append_assoc pf (parts_of c.full) (parts_in c.unfinished) in
      record {
        frames = frame_lawful frame c.full later.frames;
        unfinished = later.unfinished;
        same =
            ap (λ (r : List Part). packets_of at r c.over) parts
            ∙ packets_append at pf rest c.over
            ∙ ap (λ (r : List (List ℕ)). ended_by at pf ++ r) later.same
            ∙ cutting;
        settled = λ clear none.
            ap (begun_after at) parts ∙ begun_append at pf rest
            ∙ later.settled (λ gone. begun_ended at (parts_in begun) q (ends_next begun bytes u any gone)) none;
        spent = λ _ e. later.spent (λ _. refl) e;
      }

  pub cut_carries : (k : ℕ) (begun bytes : List ℕ) (at : Option (List ℕ)) → Unfinished begun
      → Short (2044 + width) (packets_of at (parts_in begun) bytes) → CutCarries width at k begun bytes (cut k begun bytes)
  cut_carries =
      cut_by
      (λ k begun bytes c.
      (at : Option (List ℕ)) → Unfinished begun → Short (2044 + width) (packets_of at (parts_in begun) bytes) → CutCarries width at k begun bytes c)
      (λ begun bytes at u short. nothing_cut at 0 begun bytes u)
      (λ k begun at u short. nothing_cut at (suc k) begun [] u)
      (λ k begun bytes any fits at u short. one_within at k begun bytes u any fits)
      (λ k begun bytes any fills later at u short.
      one_fills at k begun bytes (cut k [] (uncut begun bytes)) u any fills short (later (begun_after at (parts_in begun ++ next begun bytes ∷ [])) nothing_begun))

-- 2. Padding: what was begun is put, and nothing else.
pub record PadsCarry (width : ℕ) (at : Option (List ℕ)) (k : ℕ) (begun : List ℕ) : Type 0 where
  pub frames : LawfulFrames width at (paddings k begun)
  pub parts : parts_of (paddings k begun) ≡ parts_in begun

pads_again : (width k : ℕ) → PadsCarry width None k [] → (at : Option (List ℕ)) (begun : List ℕ) → Unfinished begun
    → Short (2044 + width) (packets_of at (parts_in begun) []) → begun_after at (parts_in begun) ≡ None → PadsCarry width at (suc k) begun
unfolding paddings
pads_again width k later at begun u short settled =
    let frame = padded_carries width at begun u [] short settled in
    record {
      frames = frame_lawful frame (paddings k []) (subst (λ (b : Option (List ℕ)). LawfulFrames width b (paddings k [])) (sym settled) later.frames);
      parts = ap₂ (λ (x y : List Part). x ++ y) frame.parts later.parts ∙ append-nil (parts_in begun);
    }

pads_none : (width : ℕ) (at : Option (List ℕ)) (begun : List ℕ) → begun ≡ [] → PadsCarry width at 0 begun
unfolding paddings
pads_none width at begun none = record { frames = tt; parts = ap parts_in (sym none) }

pads_fresh : (width k : ℕ) → PadsCarry width None k []
pads_fresh width zero = pads_none width None [] refl
pads_fresh width (suc k) = pads_again width k (pads_fresh width k) None [] nothing_begun tt refl

pub pads_carry : (width k : ℕ) (at : Option (List ℕ)) (begun : List ℕ) → Unfinished begun → (k ≡ 0 → begun ≡ [])
    → (0 < k → Short (2044 + width) (packets_of at (parts_in begun) [])) → (0 < k → begun_after at (parts_in begun) ≡ None)
    → PadsCarry width at k begun
pads_carry width zero at begun u spent short settled = pads_none width at begun (spent refl)
pads_carry width (suc k) at begun u spent short settled =
    pads_again width k (pads_fresh width k) at begun u (short (omega arith)) (settled (omega arith))
