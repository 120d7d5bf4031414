-- Judging header by header.
use Rattle.std.proofs.Common.{◌≡◌, ℕ, ◌+◌, ◌<◌, ◌≤◌, min, ◌⊎◌, List, ◌∷◌, length, drop, Option, None, sym, ap, ap₂, ◌∙◌, inl, inr, arith}
use Rattle.std.proofs.lemmas.List.{drop_all}
use Rattle.std.proofs.lemmas.Bool.{cases_lt, cases_eq}
use Rattle.framing.specs.Header.{count_of, Header, headers_from}
use Rattle.framing.specs.Judging.{first_no, questions, judgment_of, after_first}
use Rattle.framing.proofs.Walks.{past_body}
use Rattle.framing.proofs.Rendered.{asked_body}

-- No question about the first header is answered no: what stands behind its body decides.
pub judged_on : (width : ℕ) (gathered : Option ℕ) (place next byte body : ℕ) (following : List ℕ)
    → body ≡ min (count_of byte) (length following) → next ≡ place + 1 + body
    → None ≡ first_no (questions width gathered (record { place = place; byte = byte; following = following }))
    → (judgment_of width gathered (headers_from next 0 (drop body following))).verdict ≡ (judgment_of width gathered (headers_from place 0 (byte ∷ following))).verdict
judged_on width gathered place next byte body following clipped goes_on none =
    ap (λ hs. (judgment_of width gathered hs).verdict) (behind (cases_lt (length following) (count_of byte)) ∙ sym (past_body (place + 1) (count_of byte) following))
    ∙ ap (λ a. (after_first a h (judgment_of width gathered (headers_from (place + 1) (count_of byte) following))).verdict) none
  where
    h : Header
    h = record { place = place; byte = byte; following = following }

    behind : (length following < count_of byte) ⊎ (count_of byte ≤ length following)
        → headers_from next 0 (drop body following) ≡ headers_from (place + 1 + count_of byte) 0 (drop (count_of byte) following)
    behind (inl over) =
        let p : length following ≤ count_of byte = omega arith in
        let q : length following ≤ body = omega arith in
        ap (λ r. headers_from next 0 r) (drop_all body following q)
        ∙ sym (ap (λ r. headers_from (place + 1 + count_of byte) 0 r) (drop_all (count_of byte) following p))
    behind (inr fits) = let whole : body ≡ count_of byte = omega arith in ap₂ (λ p k. headers_from p 0 (drop k following)) (omega arith) whole

-- ... and where it is no padding, its body lies in the frame.
pub body_inside : (width : ℕ) (gathered : Option ℕ) (place byte : ℕ) (following : List ℕ)
    → place + length following ≡ 122 → (count_of byte ≡ 127 → ⊥)
    → None ≡ first_no (questions width gathered (record { place = place; byte = byte; following = following }))
    → count_of byte ≤ length following
body_inside width gathered place byte following whole no_padding none = go (cases_eq (count_of byte) 0)
  where
    go : (count_of byte ≡ 0) ⊎ (count_of byte ≡ 0 → ⊥) → count_of byte ≤ length following
    go (inl z) = omega arith
    go (inr nz) = let ends = asked_body width gathered (record { place = place; byte = byte; following = following }) (sym none) no_padding nz in omega (arith, ends)
