-- Bytes that were put into a buffer one after another.
use Rattle.std.proofs.Common.{◌≡◌, ℕ, suc, ◌+◌, ◌≤◌, cond, List, ◌++◌, length, take, drop, is_some, Some, None, Option, sym, refl, ap, ◌∙◌, append_assoc, arith, length-append}
use Rattle.std.proofs.lemmas.List.{length-take-le, take_at, drop_at, drop-drop}
use Rattle.service.specs.Encoding.{header_bytes, frame_id_field, timestamp_field}
use Rattle.service.specs.Map.{map_of, header_length}
use Rattle.service.specs.Writing.{Put}
use Rattle.service.specs.declared.header.SyncHeader.{SyncHeader}

pub put_both : (at mid end : ℕ) (a b old new last : List ℕ)
    → mid ≤ length old → Put at a old mid new → Put mid b new end last → Put at (a ++ b) old end last
put_both at mid end a b old new last fits p q =
    let e₁ = p.ends in
    let e₂ = q.ends in
    let front : List ℕ = take at old ++ a in
    let fl : length front ≡ mid = length-append (take at old) a ∙ omega (arith, length-take-le at old (omega arith)) in
    let is : new ≡ front ++ drop mid old = p.bytes_are ∙ sym (append_assoc (take at old) a (drop mid old)) in
    let kept : take mid new ≡ front = ap (take mid) is ∙ take_at front (drop mid old) mid fl in
    let past : drop mid new ≡ drop mid old = ap (drop mid) is ∙ drop_at front (drop mid old) mid fl in
    let rest : drop end new ≡ drop end old =
    ap (λ (n : ℕ). drop n new) e₂ ∙ sym (drop-drop (length b) mid new) ∙ ap (drop (length b)) past
    ∙ drop-drop (length b) mid old ∙ sym (ap (λ (n : ℕ). drop n old) e₂) in
    record {
      ends = omega (arith, length-append a b);
      bytes_are =
          q.bytes_are ∙ ap (λ (s : List ℕ). s ++ (b ++ drop end new)) kept
          ∙ ap (λ (s : List ℕ). front ++ (b ++ s)) rest ∙ append_assoc (take at old) a (b ++ drop end old)
          ∙ sym (ap (λ (s : List ℕ). take at old ++ s) (append_assoc a b (drop end old)));
    }

field_lengths : (id time : Option ℕ)
    → suc (length (frame_id_field id ++ timestamp_field time)) ≡ 1 + cond (is_some id) 1 0 + cond (is_some time) 4 0
field_lengths None None = refl
field_lengths None (Some t) = refl
field_lengths (Some n) None = refl
field_lengths (Some n) (Some t) = refl

-- the header is as long as its map says
pub header_long : (h : SyncHeader) → length (header_bytes h) ≡ header_length (map_of h)
header_long h = field_lengths h.frame_id h.timestamp
