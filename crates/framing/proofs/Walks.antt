-- Walking along the headers of a frame.
use Rattle.std.proofs.Common.{◌≡◌, ℕ, zero, suc, ◌+◌, ◌<◌, List, [], ◌∷◌, length, get_or, drop, refl, ap, ◌∙◌, arith}
use Rattle.std.proofs.lemmas.List.{drop_more, drop-drop}
use Rattle.framing.specs.Header.{count_of, Header, headers_from}

-- the bytes of a body are passed over
pub past_body : (place body : ℕ) (rest : List ℕ) → headers_from place body rest ≡ headers_from (place + body) 0 (drop body rest)
past_body place zero [] = refl
past_body place (suc body) [] = refl
past_body place zero (b ∷ rest) = ap (λ p. headers_from p 0 (b ∷ rest)) (omega arith)
past_body place (suc body) (b ∷ rest) =
    past_body (place + 1) body rest ∙ ap (λ p. headers_from p 0 (drop body rest)) (omega arith)

-- the header that stands at an index, and then those behind its body
pub next_header : (frame : List ℕ) (at : ℕ) → at < length frame → headers_from (at + 1) 0 (drop at frame)
    ≡ record { place = at + 1; byte = get_or frame at 0; following = drop (at + 1) frame }
    ∷ headers_from (at + 1 + count_of (get_or frame at 0) + 1) 0 (drop (at + 1 + count_of (get_or frame at 0)) frame)
next_header frame at here =
    let n : ℕ = count_of (get_or frame at 0) in
    let first : Header = record { place = at + 1; byte = get_or frame at 0; following = drop (at + 1) frame } in
    ap (λ r. headers_from (at + 1) 0 r) (drop_more frame at 0 here)
    ∙ ap (λ hs. first ∷ hs) (past_body (at + 1 + 1) n (drop (at + 1) frame)
    ∙ ap (λ r. headers_from (at + 1 + 1 + n) 0 r) (drop-drop n (at + 1) frame)
    ∙ ap (λ p. headers_from p 0 (drop (at + 1 + n) frame)) (omega arith))
