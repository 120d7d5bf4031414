-- The frames that a writer puts are lawful for a reader that has followed it.
use Rattle.std.proofs.Common.{◌≡◌, ℕ, ◌+◌, ◌-◌, ◌<◌, ◌≤◌, true, eqb, ◌⊎◌, List, [], ◌∷◌, ◌++◌, length, take, replicate, Some, None, Option, sym, refl, ap, ◌∙◌, subst, ap₂, inl, inr, ⊎_elim, arith}
use Rattle.std.specs.List.{AllByRecursion}
use Rattle.std.proofs.ByRecursion.{All-push}
use Rattle.std.proofs.lemmas.List.{append-nil, length-append, length-take, length-drop, length-replicate, take-append-drop, nil_from_length}
use Rattle.std.proofs.lemmas.Bool.{cond-true, cond-false, eq-eqb, ne_eqb, eqb-true, le-leb, cases_eq}
use Rattle.framing.specs.Judging.{stays_within, judgment, lawful}
use Rattle.std.proofs.lemmas.Grind.{flat_map-append}
use Rattle.flow.specs.Carrying.{Part, parts_in, so_far, begun_after, packets_of, CutAtEnd, counted}
use Rattle.flow.specs.Cutting.{size, grown, uncut, closed, padded}
use Rattle.flow.proofs.Cuts.{length_grown, uncut_none}
use Rattle.flow.proofs.Packets.{first_short}
use Rattle.flow.specs.Keeping.{laid_one, laid, Sized, Short, Ends, Unfinished}
use Rattle.flow.proofs.Parsing.{Fitting, parts_laid, parts_laid_alone, judged_laid, notional_judged, padding_no_part, padding_judged}

pub parts_are : {begun : List ℕ} (u : Unfinished begun) → parts_in begun ≡ u.row
parts_are u = ap parts_in u.laid_is ∙ parts_laid_alone u.row u.sized

pub nothing_begun : Unfinished []
nothing_begun = record { row = []; laid_is = refl; sized = tt; end = tt; short = omega arith }

-- 1. The parts fit.

abbrev FirstStays : ℕ → Option ℕ → List Part → Type 0
FirstStays width gathered [] = Unit {0}
FirstStays width gathered (q ∷ qs) = stays_within width gathered (length q.bytes) ≡ true

stays : (width : ℕ) (at : Option (List ℕ)) (n : ℕ) → length (so_far at) + n ≤ 2044 + width → stays_within width (counted at) n ≡ true
stays width None n fits = refl
stays width (Some b) n fits = le-leb _ _ fits

first_stays : (width : ℕ) (at : Option (List ℕ)) (qs : List Part) (over : List ℕ) → Short (2044 + width) (packets_of at qs over) → FirstStays width (counted at) qs
first_stays width at [] over short = tt
first_stays width at (q ∷ qs) over short = stays width at (length q.bytes) (first_short (2044 + width) at q qs over short)

fitting_row : (width : ℕ) (gathered : Option ℕ) (place : ℕ) (row : List Part) → 1 ≤ place → AllByRecursion Ends row → place + length (laid row) ≤ 123
    → (place ≡ 1 → FirstStays width gathered row) → Fitting width gathered place row
fitting_row width gathered place [] some end inside first = tt
fitting_row width gathered place (q ∷ row) some end inside first =
    let long = length-append q.bytes (laid row) in (
      omega arith,
      inl end.0,
      first,
      fitting_row width gathered (place + 1 + length q.bytes) row (omega arith) end.1 (omega arith) (λ e. absurd (omega arith)),
    )

-- the last one ends a packet or the frame
fitting_push : (width : ℕ) (gathered : Option ℕ) (place : ℕ) (row : List Part) (q : Part) → 1 ≤ place → AllByRecursion Ends row
    → place + length (laid (row ++ q ∷ [])) ≤ 123
    → (q.ends ≡ true) ⊎ (place + length (laid (row ++ q ∷ [])) ≡ 123)
    → (place ≡ 1 → FirstStays width gathered (row ++ q ∷ [])) → Fitting width gathered place (row ++ q ∷ [])
fitting_push width gathered place [] q some end inside last first =
    let long = ap length (append-nil q.bytes) in (
      omega arith,
      ⊎_elim inl (λ (full : place + length (laid (q ∷ [])) ≡ 123). inr (omega arith)) last,
      first,
      tt,
    )
fitting_push width gathered place (p ∷ row) q some end inside last first =
    let long = length-append p.bytes (laid (row ++ q ∷ [])) in (
      omega arith,
      inl end.0,
      first,
      fitting_push width gathered (place + 1 + length p.bytes) row q (omega arith) end.1 (omega arith)
          (⊎_elim inl (λ (full : place + length (laid ((p ∷ row) ++ q ∷ [])) ≡ 123). inr (omega arith)) last)
          (λ e. absurd (omega arith)),
    )

cut_at_end : (row : List Part) (q : Part) → AllByRecursion Ends row → CutAtEnd (row ++ q ∷ [])
cut_at_end [] q end = tt
cut_at_end (p ∷ []) q end = (end.0, tt)
cut_at_end (p ∷ r ∷ row) q end = (end.0, cut_at_end (r ∷ row) q end.1)

cut_at_end_row : (row : List Part) → AllByRecursion Ends row → CutAtEnd row
cut_at_end_row [] end = tt
cut_at_end_row (p ∷ []) end = tt
cut_at_end_row (p ∷ r ∷ row) end = (end.0, cut_at_end_row (r ∷ row) end.1)

-- 2. A frame that is put, with the parts in it.

pub record Carries (width : ℕ) (at : Option (List ℕ)) (f : List ℕ) (qs : List Part) : Type 0 where
  pub long : length f ≡ 122
  pub judged : (judgment width (counted at) f).verdict ≡ lawful
  pub parts : parts_in f ≡ qs
  pub at_end : CutAtEnd qs

-- full to the last byte, or to the last but one
closed_carries : (width : ℕ) (at : Option (List ℕ)) (row : List Part) (q : Part) (over : List ℕ) → AllByRecursion Sized (row ++ q ∷ []) → AllByRecursion Ends row
    → (q.ends ≡ true) ⊎ (length (laid (row ++ q ∷ [])) ≡ 122)
    → 121 ≤ length (laid (row ++ q ∷ [])) → length (laid (row ++ q ∷ [])) ≤ 122
    → Short (2044 + width) (packets_of at (row ++ q ∷ []) over)
    → Carries width at (closed (laid (row ++ q ∷ []))) (row ++ q ∷ [])
closed_carries width at row q over sized end last most least short =
    ⊎_elim
    (λ (one : length (laid qs) ≡ 121).
    subst (λ (f : List ℕ). Carries width at f qs) (sym (cond-true (eqb (length (laid qs)) 121) _ _ (eq-eqb _ _ one)))
    (record {
      long = length-append (laid qs) (128 ∷ []) ∙ omega arith;
      judged = judged_laid width (counted at) qs (128 ∷ []) sized fits ∙ notional_judged width (counted at) (1 + length (laid qs)) (omega arith);
      parts = parts_laid qs (128 ∷ []) sized ∙ append-nil qs;
      at_end = cut_at_end row q end;
    }))
    (λ (other : length (laid qs) ≡ 121 → ⊥).
    subst (λ (f : List ℕ). Carries width at f qs) (sym (cond-false (eqb (length (laid qs)) 121) _ _ (ne_eqb _ _ other)))
    (record {
      long = elim (cases_eq (length (laid qs)) 122) [ inl e ↦ e | inr ne ↦ absurd (other (omega arith)) ];
      judged = ap (λ (f : List ℕ). (judgment width (counted at) f).verdict) (sym (append-nil (laid qs))) ∙ judged_laid width (counted at) qs [] sized fits;
      parts = parts_laid_alone qs sized;
      at_end = cut_at_end row q end;
    }))
    (cases_eq (length (laid qs)) 121)
  where
    qs : List Part
    qs = row ++ q ∷ []

    fits : Fitting width (counted at) 1 (row ++ q ∷ [])
    fits =
        fitting_push width (counted at) 1 row q (omega arith) end (omega arith)
        (⊎_elim inl (λ (full : length (laid (row ++ q ∷ [])) ≡ 122). inr (omega arith)) last)
        (λ e. first_stays width at (row ++ q ∷ []) over short)

-- filled with padding
row_none : (row : List Part) → length (laid row) ≡ 0 → row ≡ []
row_none [] none = refl
row_none (q ∷ row) none = absurd (omega arith)

pub padded_carries : (width : ℕ) (at : Option (List ℕ)) (begun : List ℕ) (u : Unfinished begun) (over : List ℕ)
    → Short (2044 + width) (packets_of at (parts_in begun) over) → begun_after at (parts_in begun) ≡ None
    → Carries width at (padded begun) (parts_in begun)
padded_carries width at begun u over short settled =
    let row = u.row in
    let same : length begun ≡ length (laid row) = ap length u.laid_is in
    let most = u.short in
    let zeros : List ℕ = replicate (122 - (1 + length (laid row))) 0 in
    let is : padded begun ≡ laid row ++ (127 ∷ zeros) =
    ap₂ (λ (b : List ℕ) (n : ℕ). b ++ 127 ∷ replicate n 0) u.laid_is (omega arith) in
    let parts = parts_are u in
    let fits = fitting_row width (counted at) 1 row (omega arith) u.end (omega arith)
    (λ e. first_stays width at row over (subst (λ (qs : List Part). Short (2044 + width) (packets_of at qs over)) parts short)) in
    let none_begun : 1 + length (laid row) ≡ 1 → counted at ≡ None = λ e.
    ap counted (ap (begun_after at) (sym (parts ∙ row_none row (omega arith))) ∙ settled) in
    let filled : length zeros ≡ 122 - (1 + length (laid row)) = length-replicate (122 - (1 + length (laid row))) 0 in
    subst (λ (f : List ℕ). Carries width at f (parts_in begun)) (sym is)
    (record {
      long = length-append (laid row) (127 ∷ zeros) ∙ omega arith;
      judged =
          judged_laid width (counted at) row (127 ∷ zeros) u.sized fits
          ∙ padding_judged width (counted at) (1 + length (laid row)) (omega arith) (omega arith) none_begun;
      parts =
          parts_laid row (127 ∷ zeros) u.sized
          ∙ ap (λ (r : List Part). row ++ r) (padding_no_part (1 + length (laid row)) (omega arith))
          ∙ append-nil row ∙ sym parts;
      at_end = subst CutAtEnd (sym parts) (cut_at_end_row row u.end);
    })

-- 3. The next part that is cut.

abbrev pub next : (begun bytes : List ℕ) → Part
next begun bytes = record { bytes = take (size begun bytes) bytes; ends = eqb (size begun bytes) (length bytes) }

module _ (begun bytes : List ℕ) (u : Unfinished begun) (any : 0 < length bytes) where
  next_long : length (next begun bytes).bytes ≡ size begun bytes
  next_long = simp length-take (omega arith)

  next_sized : Sized (next begun bytes)
  next_sized = let long = next_long in let most = u.short in (omega arith, omega arith)

  pub next_whole : (next begun bytes).bytes ++ uncut begun bytes ≡ bytes
  next_whole = take-append-drop (size begun bytes) bytes

  -- its last mark tells that nothing is left to cut
  pub next_ends : (next begun bytes).ends ≡ true → uncut begun bytes ≡ []
  next_ends e =
      let all : size begun bytes ≡ length bytes = eqb-true _ _ e in
      let rest = length-drop (size begun bytes) bytes in
      nil_from_length (uncut begun bytes) (omega arith)

  pub ends_next : uncut begun bytes ≡ [] → (next begun bytes).ends ≡ true
  ends_next none =
      let rest = length-drop (size begun bytes) bytes in
      let gone : length (uncut begun bytes) ≡ 0 = ap length none in
      eq-eqb _ _ (omega arith)

  grown_is : grown begun bytes ≡ laid (u.row ++ next begun bytes ∷ [])
  grown_is =
      ap (λ (b : List ℕ). b ++ laid_one (next begun bytes)) u.laid_is
      ∙ ap (λ (r : List ℕ). laid u.row ++ r) (sym (append-nil (laid_one (next begun bytes))))
      ∙ sym (flat_map-append laid_one u.row (next begun bytes ∷ []))

  -- it stays in the unfinished frame
  pub next_within : length (grown begun bytes) < 121 → Unfinished (grown begun bytes)
  next_within fits =
      record {
        row = u.row ++ next begun bytes ∷ [];
        laid_is = grown_is;
        sized = All-push Sized u.row (next begun bytes) u.sized next_sized;
        end = All-push Ends u.row (next begun bytes) u.end (ends_next (nil_from_length (uncut begun bytes) (uncut_none begun bytes fits)));
        short = omega arith;
      }

  pub next_parts : (fits : length (grown begun bytes) < 121) → parts_in (grown begun bytes) ≡ parts_in begun ++ next begun bytes ∷ []
  unfolding next_within
  next_parts fits = parts_are (next_within fits) ∙ ap (λ (r : List Part). r ++ next begun bytes ∷ []) (sym (parts_are u))

  -- it fills the frame
  pub next_fills : (width : ℕ) (at : Option (List ℕ)) → 121 ≤ length (grown begun bytes)
      → Short (2044 + width) (packets_of at (parts_in begun ++ next begun bytes ∷ []) (uncut begun bytes))
      → Carries width at (closed (grown begun bytes)) (parts_in begun ++ next begun bytes ∷ [])
  next_fills width at fills short =
      let long = length_grown begun bytes in
      let rest = length-drop (size begun bytes) bytes in
      let most = u.short in
      let is = grown_is in
      let same : length (grown begun bytes) ≡ length (laid (u.row ++ next begun bytes ∷ [])) = ap length is in
      let row_is = parts_are u in
      let last : ((next begun bytes).ends ≡ true) ⊎ (length (laid (u.row ++ next begun bytes ∷ [])) ≡ 122) =
      ⊎_elim (λ (e : length (grown begun bytes) ≡ 122). inr (omega arith))
      (λ (ne : length (grown begun bytes) ≡ 122 → ⊥). inl (eq-eqb _ _ (all_cut ne)))
      (cases_eq (length (grown begun bytes)) 122) in
      subst (λ (qs : List Part). Carries width at (closed (grown begun bytes)) (qs ++ next begun bytes ∷ [])) (sym row_is)
      (subst (λ (f : List ℕ). Carries width at (closed f) (u.row ++ next begun bytes ∷ [])) (sym is)
      (closed_carries width at u.row (next begun bytes) (uncut begun bytes)
      (All-push Sized u.row (next begun bytes) u.sized next_sized) u.end last (omega arith) (omega arith)
      (subst (λ (qs : List Part). Short (2044 + width) (packets_of at (qs ++ next begun bytes ∷ []) (uncut begun bytes))) row_is short)))
    where
      all_cut : (length (grown begun bytes) ≡ 122 → ⊥) → size begun bytes ≡ length bytes
      all_cut ne =
          let long = length_grown begun bytes in
          let most = u.short in
          ⊎_elim (λ (e : size begun bytes ≡ length bytes). e) (λ (other : size begun bytes ≡ length bytes → ⊥). absurd (ne (omega arith)))
          (cases_eq (size begun bytes) (length bytes))
