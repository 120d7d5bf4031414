-- The fragments still to come, one fragment on.
use Rattle.std.proofs.Common.{◌≡◌, ℕ, ◌+◌, ◌-◌, ◌<◌, ◌≤◌, min, eqb, ◌⊎◌, List, ◌∷◌, map, length, get_or, take, drop, sym, ap, ◌∙◌, inl, inr, arith}
use Rattle.std.proofs.lemmas.List.{drop_all, take_min}
use Rattle.std.proofs.lemmas.Bool.{cases_lt, cond-true, cond-false, eq-eqb, ne_eqb}
use Rattle.framing.specs.Header.{count_of, last_of, headers_from}
use Rattle.framing.specs.Fragments.{body, notional, padding, fragment_of, fragments_from}
use Rattle.framing.proofs.Walks.{next_header}

-- a body that would run past the end leaves nothing, as one that stops there
stops_at_end : (frame : List ℕ) (at n m : ℕ) → (n ≤ length frame - at → m ≡ n) → (length frame - at < n → m ≡ length frame - at) → at ≤ length frame
    → fragments_from frame (at + n) ≡ fragments_from frame (at + m)
stops_at_end frame at n m short long within = go (cases_lt (length frame - at) n)
  where
    go : (length frame - at < n) ⊎ (n ≤ length frame - at) → fragments_from frame (at + n) ≡ fragments_from frame (at + m)
    go (inl over) =
        let end : m ≡ length frame - at = long over in
        let p : length frame ≤ at + n = omega arith in
        let q : length frame ≤ at + m = omega arith in
        ap (λ r. map fragment_of (headers_from (at + n + 1) 0 r)) (drop_all (at + n) frame p)
        ∙ sym (ap (λ r. map fragment_of (headers_from (at + m + 1) 0 r)) (drop_all (at + m) frame q))
    go (inr fits) = ap (λ k. fragments_from frame (at + k)) (sym (short fits))

pub next_coming : (frame : List ℕ) (at end : ℕ) → at < length frame → end ≡ at + 1 + min (count_of (get_or frame at 0)) (length frame - (at + 1))
    → fragments_from frame at ≡ fragment_of (record { place = at + 1; byte = get_or frame at 0; following = drop (at + 1) frame }) ∷ fragments_from frame end
next_coming frame at end here clipped =
    let m : ℕ = min (count_of (get_or frame at 0)) (length frame - (at + 1)) in
    ap (map fragment_of) (next_header frame at here)
    ∙ ap (λ r. fragment_of (record { place = at + 1; byte = get_or frame at 0; following = drop (at + 1) frame }) ∷ r)
    (stops_at_end frame (at + 1) (count_of (get_or frame at 0)) m (λ h. omega arith) (λ h. omega arith) (omega arith)
    ∙ ap (fragments_from frame) (sym clipped))

-- the fragment by its count
pub padding_is : (place byte : ℕ) (rest : List ℕ) → count_of byte ≡ 127 → fragment_of (record { place = place; byte = byte; following = rest }) ≡ padding place
padding_is place byte rest e = cond-true (eqb (count_of byte) 127) _ _ (eq-eqb (count_of byte) 127 e)

pub notional_is : (place byte : ℕ) (rest : List ℕ) → count_of byte ≡ 0 → fragment_of (record { place = place; byte = byte; following = rest }) ≡ notional place
notional_is place byte rest e =
    cond-false (eqb (count_of byte) 127) _ _ (ne_eqb (count_of byte) 127 (λ p. omega arith)) ∙ cond-true (eqb (count_of byte) 0) _ _ (eq-eqb (count_of byte) 0 e)

pub body_is : (place byte : ℕ) (rest : List ℕ) → (count_of byte ≡ 127 → ⊥) → (count_of byte ≡ 0 → ⊥)
    → fragment_of (record { place = place; byte = byte; following = rest }) ≡ body place (take (count_of byte) rest) (last_of byte)
body_is place byte rest p z =
    cond-false (eqb (count_of byte) 127) _ _ (ne_eqb (count_of byte) 127 p) ∙ cond-false (eqb (count_of byte) 0) _ _ (ne_eqb (count_of byte) 0 z)

-- a part that stops at the end of the list
pub take_clipped : (rest : List ℕ) (n m : ℕ) → m ≡ min n (length rest) → take n rest ≡ take m rest
take_clipped rest n m e = sym (take_min n rest) ∙ ap (λ k. take k rest) (sym e)
