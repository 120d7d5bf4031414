use Rattle.std.proofs.Common.{◌≡◌, ℕ, ◌+◌, ◌-◌, min, ◌∷◌, length, get_or, take, drop, sym, ap, ◌∙◌, arith}
use Rattle.std.proofs.lemmas.List.{length-drop}
use Rattle.framing.specs.Header.{count_of, last_of}
use Rattle.framing.specs.Fragments.{body, fragment_of, fragments_from}
use Rattle.framing.specs.Giving.{shown}
use Rattle.framing.proofs.Coming.{next_coming, padding_is, notional_is, body_is, take_clipped}
use Rattle.framing.proofs.fragments.fragment_here.Goals as goal
use Rattle.framing.proofs.fragments.fragment_here.Goals.{in-127, in-0, in_default}

pub returns-clause-gives : goal.returns-clause-gives
returns-clause-gives c =
    let at : ℕ = c.args.at in
    let frame = c.args.bytes.now in
    let byte : ℕ = get_or frame at 0 in
    let rest = drop (at + 1) frame in
    let next : ℕ = at + 1 + c.min.result in
    let clipped : next ≡ at + 1 + min (count_of byte) (length frame - (at + 1)) = omega arith in
    let size : length rest ≡ length frame - (at + 1) = length-drop (at + 1) frame in
    let inside : next - (at + 1) ≡ min (count_of byte) (length rest) = omega arith in
    let is : fragment_of (record { place = at + 1; byte = byte; following = rest }) ≡ shown c.match-count.fragment =
    elim c.match-count.branch [
      | in-127 w ↦
          let padded : count_of byte ≡ 127 = omega arith in
          padding_is (at + 1) byte rest padded ∙ sym (ap shown w.fragment-is)
      | in-0 w ↦
          let none : count_of byte ≡ 0 = omega arith in
          notional_is (at + 1) byte rest none ∙ sym (ap shown w.fragment-is)
      | in_default w ↦
          body_is (at + 1) byte rest (λ p. omega arith) (λ z. omega arith)
          ∙ ap (λ b. body (at + 1) b (last_of byte)) (take_clipped rest (count_of byte) (next - (at + 1)) inside)
          ∙ sym (ap (λ l. body (at + 1) (take (next - (at + 1)) rest) l) c.from_byte-count.ensures.1)
          ∙ sym (ap shown w.fragment-is)
    ]
    in
    next_coming frame at next c.requires clipped ∙ ap (λ f. f ∷ fragments_from frame next) is
