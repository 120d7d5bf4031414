-- From what the writing side keeps to what the run law asks of a writer.
use Rattle.std.proofs.Common.{◌≡◌, ℕ, ◌≤◌, Bool, true, false, cond, List, [], ◌∷◌, ◌++◌, map, length, Some, None, Option, sym, refl, ap, ◌∙◌, subst, ap₂, arith}
use Rattle.std.specs.List.{flat_map}
use Rattle.std.proofs.lemmas.List.{append-nil, append_assoc, map-append, length-append}
use Rattle.framing.specs.declared.slot.Slot.{Slot}
use Rattle.framing.specs.declared.slot.Slot.TheVariants.{Mark}
use Rattle.framing.specs.Fragments.{Fragment, body, notional, padding, fragments}
use Rattle.channel.specs.Sending.{Sent, sent_frame, sent_mark, what}
use Rattle.runlaw.specs.History.{History, closing, done, all_sent, packets_accepted, EndsWith}
use Rattle.runlaw.specs.Law.{FirstOfWaiting, CarriesPackets}
use Rattle.runlaw.specs.Packets.{Piece, piece_of, pieces_of, known_start, pieces, grouped, still_begun, as_cut}
use Rattle.runlaw.specs.Writing.{begun_with, stands_after_all, MarkAllowed, Written}
use Rattle.std.proofs.lemmas.Grind.{flat_map-append}
use Rattle.flow.specs.Carrying.{Part, part_of, parts_in, parts_put, so_far, begun_after, ended_by, not_ended, packets_of, counted, WellPut}
use Rattle.flow.specs.Writing.{State}
use Rattle.flow.specs.Keeping.{Keeps}
use Rattle.flow.proofs.Packets.{packets_append}

-- 1. What a writer owes.

stands_one : (at : Option (List ℕ)) (place : ℕ) (bytes : List ℕ) → Some (begun_with (counted at) (length bytes)) ≡ counted (Some (so_far at ++ bytes))
stands_one None place bytes = refl
stands_one (Some b) place bytes = ap (λ (n : ℕ). Some n) (sym (length-append b bytes))

stands_all : (at : Option (List ℕ)) (fs : List Fragment) → stands_after_all (counted at) fs ≡ counted (begun_after at (flat_map part_of fs))
stands_all at [] = refl
stands_all at (body place bytes true ∷ fs) = stands_all None fs
stands_all at (body place bytes false ∷ fs) =
    ap (λ (a : Option ℕ). stands_after_all a fs) (stands_one at place bytes) ∙ stands_all (Some (so_far at ++ bytes)) fs
stands_all at (notional place ∷ fs) = stands_all at fs
stands_all at (padding place ∷ fs) = stands_all at fs

mark_allowed : (fasb : Bool) (at : Option (List ℕ)) → (fasb ≡ false → at ≡ None) → MarkAllowed fasb (counted at)
mark_allowed true at none = tt
mark_allowed false at none = ap counted (none refl)

pub well_written : (fasb : Bool) (width : ℕ) (at : Option (List ℕ)) (sent : List Sent) → WellPut fasb width at (map what sent) → Written fasb width (counted at) sent
well_written fasb width at [] well = tt
well_written fasb width at (sent_frame f x ∷ sent) well = (
  well.0,
  well.1,
  subst (λ (a : Option ℕ). Written fasb width a sent) (sym (stands_all at (fragments f)))
      (well_written fasb width (begun_after at (parts_in f)) sent well.3),
)
well_written fasb width at (sent_mark ∷ sent) well = (mark_allowed fasb at well.0, well_written fasb width at sent well.1)

-- 2. Packets are carried.

-- a piece as it was cut
abbrev part : Piece → Part
part q = record { bytes = q.cut; ends = q.ends }

parts_one : (known : Bool) (slot : Slot) (fs : List Fragment) → map part (flat_map (piece_of known slot) fs) ≡ flat_map part_of fs
parts_one known slot [] = refl
parts_one known slot (body place bytes last ∷ fs) = ap (λ (r : List Part). record { bytes = bytes; ends = last } ∷ r) (parts_one known slot fs)
parts_one known slot (notional place ∷ fs) = parts_one known slot fs
parts_one known slot (padding place ∷ fs) = parts_one known slot fs

parts_sent : (fasb : Bool) (before : List Slot) (sent : List Sent) → map part (pieces fasb before sent) ≡ parts_put (map what sent)
parts_sent fasb before [] = refl
parts_sent fasb before (sent_frame f x ∷ sent) =
    map-append part (pieces_of (known_start fasb before) f x) (pieces fasb (x ∷ before) sent)
    ∙ ap₂ (λ (a b : List Part). a ++ b) (parts_one (known_start fasb before) x (fragments f)) (parts_sent fasb (x ∷ before) sent)
parts_sent fasb before (sent_mark ∷ sent) = parts_sent fasb (Mark ∷ before) sent

cut_push : (begun : List Piece) (q : Piece) → as_cut (begun ++ q ∷ []) ≡ as_cut begun ++ q.cut
cut_push begun q = flat_map-append (λ (p : Piece). p.cut) begun (q ∷ []) ∙ ap (λ (r : List ℕ). as_cut begun ++ r) (append-nil q.cut)

groups_are : (begun : List Piece) (at : Option (List ℕ)) → so_far at ≡ as_cut begun → (qs : List Piece) → map as_cut (grouped begun qs) ≡ ended_by at (map part qs)
groups_are begun at same [] = refl
groups_are begun at same (q ∷ qs) =
    go q.ends (groups_are [] None refl qs)
    (groups_are (begun ++ q ∷ []) (Some (so_far at ++ q.cut)) (ap (λ (r : List ℕ). r ++ q.cut) same ∙ sym (cut_push begun q)) qs)
  where
    go : (e : Bool) → map as_cut (grouped [] qs) ≡ ended_by None (map part qs)
        → map as_cut (grouped (begun ++ q ∷ []) qs) ≡ ended_by (Some (so_far at ++ q.cut)) (map part qs)
        → map as_cut (cond e ((begun ++ q ∷ []) ∷ grouped [] qs) (grouped (begun ++ q ∷ []) qs))
        ≡ cond e ((so_far at ++ q.cut) ∷ []) [] ++ ended_by (cond e None (Some (so_far at ++ q.cut))) (map part qs)
    go true fresh on = ap₂ (λ (p : List ℕ) (ps : List (List ℕ)). p ∷ ps) (cut_push begun q ∙ ap (λ (r : List ℕ). r ++ q.cut) (sym same)) fresh
    go false fresh on = on

begun_is : (begun : List Piece) (at : Option (List ℕ)) → so_far at ≡ as_cut begun → (qs : List Piece) → so_far (begun_after at (map part qs)) ≡ as_cut (still_begun begun qs)
begun_is begun at same [] = same
begun_is begun at same (q ∷ qs) =
    go q.ends (begun_is [] None refl qs)
    (begun_is (begun ++ q ∷ []) (Some (so_far at ++ q.cut)) (ap (λ (r : List ℕ). r ++ q.cut) same ∙ sym (cut_push begun q)) qs)
  where
    go : (e : Bool) → so_far (begun_after None (map part qs)) ≡ as_cut (still_begun [] qs)
        → so_far (begun_after (Some (so_far at ++ q.cut)) (map part qs)) ≡ as_cut (still_begun (begun ++ q ∷ []) qs)
        → so_far (begun_after (cond e None (Some (so_far at ++ q.cut))) (map part qs))
        ≡ as_cut (cond e (still_begun [] qs) (still_begun (begun ++ q ∷ []) qs))
    go true fresh on = fresh
    go false fresh on = on

-- what is begun is a first part of the first packet to come
first_of : (at : Option (List ℕ)) (qs : List Part) (over : List ℕ) → FirstOfWaiting (so_far at) (packets_of at qs over)
first_of None [] [] = refl
first_of None [] (b ∷ over) = record { rest = b ∷ over; whole = refl }
first_of (Some begun) [] over = record { rest = over; whole = refl }
first_of at (q ∷ qs) over = go q.ends (first_of (Some (so_far at ++ q.bytes)) qs over)
  where
    longer : (ps : List (List ℕ)) → FirstOfWaiting (so_far at ++ q.bytes) ps → FirstOfWaiting (so_far at) ps
    longer [] none = none_from (so_far at) none
      where
        none_from : (a : List ℕ) → a ++ q.bytes ≡ [] → a ≡ []
        none_from [] e = refl
        none_from (x ∷ a) e = absurd (let n = ap length e in omega arith)
    longer (p ∷ ps) first =
        record { rest = q.bytes ++ first.rest; whole = first.whole ∙ append_assoc (so_far at) q.bytes first.rest }

    go : (e : Bool) → FirstOfWaiting (so_far at ++ q.bytes) (packets_of (Some (so_far at ++ q.bytes)) qs over)
        → FirstOfWaiting (so_far at)
        ((cond e ((so_far at ++ q.bytes) ∷ []) [] ++ ended_by (cond e None (Some (so_far at ++ q.bytes))) qs)
        ++ not_ended (begun_after (cond e None (Some (so_far at ++ q.bytes))) qs) over)
    go true later = record { rest = q.bytes; whole = refl }
    go false later = longer (packets_of (Some (so_far at ++ q.bytes)) qs over) later

not_ended_few : (at : Option (List ℕ)) (over : List ℕ) → length (not_ended at over) ≤ 1
not_ended_few None [] = omega arith
not_ended_few None (b ∷ over) = omega arith
not_ended_few (Some begun) over = omega arith

-- `ps` are the packets accepted, each with its checksum; a closing leaves no frame begun
pub carries_packets : (fasb : Bool) (width : ℕ) (value : List ℕ → List ℕ) (h : History) (s : State)
    → Keeps fasb width (map (λ p. p ++ value p) (packets_accepted h)) (map what (all_sent h)) s
    → (EndsWith closing done h → s.begun ≡ [])
    → CarriesPackets fasb value h
carries_packets fasb width value h s keeps closed =
    let sent = all_sent h in
    let parts : List Part = parts_put (map what sent) in
    let row : List Part = parts_in s.begun in
    let at : Option (List ℕ) = begun_after None parts in
    let same = parts_sent fasb [] sent in
    record {
      waiting = packets_of at row s.over;
      carried =
          sym keeps.packets
          ∙ packets_append None parts row s.over
          ∙ ap (λ (r : List (List ℕ)). r ++ packets_of at row s.over)
          (sym (groups_are [] None refl (pieces fasb [] sent) ∙ ap (ended_by None) same));
      begun =
          subst (λ (b : List ℕ). FirstOfWaiting b (packets_of at row s.over))
          (ap (λ (qs : List Part). so_far (begun_after None qs)) (sym same) ∙ begun_is [] None refl (pieces fasb [] sent))
          (first_of at row s.over);
      settled = λ ends. few fasb keeps ends;
    }
  where
    few : (b : Bool) → Keeps b width (map (λ p. p ++ value p) (packets_accepted h)) (map what (all_sent h)) s → EndsWith closing done h
        → length (packets_of (begun_after None (parts_put (map what (all_sent h)))) (parts_in s.begun) s.over) ≤ cond b 1 0
    few true kept ends =
        let at = begun_after None (parts_put (map what (all_sent h))) in
        subst (λ (x : List ℕ). length (packets_of at (parts_in x) s.over) ≤ 1) (sym (closed ends)) (not_ended_few at s.over)
    few false kept ends =
        let parts = parts_put (map what (all_sent h)) in
        let at = begun_after None parts in
        let none : s.over ≡ [] = kept.whole refl in
        let shut : at ≡ None =
        ap (begun_after None) (sym (append-nil parts))
        ∙ ap (λ (x : List ℕ). begun_after None (parts ++ parts_in x)) (sym (closed ends))
        ∙ kept.settled none in
        subst (λ (x : List ℕ). length (packets_of at (parts_in x) s.over) ≤ 0) (sym (closed ends))
        (subst (λ (o : List ℕ). length (not_ended at o) ≤ 0) (sym none)
        (subst (λ (a : Option (List ℕ)). length (not_ended a []) ≤ 0) (sym shut) (omega arith)))
