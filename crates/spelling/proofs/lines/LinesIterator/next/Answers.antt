use Rattle.std.proofs.Common.{◌≡◌, ℕ, ◌+◌, ◌<◌, length, take, drop, sym, ap, ◌∙◌, arith, length-drop}
use Rattle.std.proofs.lemmas.Bool.{eqb-false}
use Rattle.spelling.specs.Words.{up_to}
use Rattle.spelling.proofs.Parting.{behind_line, up_to_front, up_to_len}
use Rattle.spelling.proofs.lines.LinesIterator.next.Goals as goal

pub returns-clause-steps : goal.returns-clause-steps
returns-clause-steps c =
    let xs = c.args.self.now.rest.now in
    let end = length (up_to 10 xs) in
    let long : c.len_up_to.result ≡ end = c.len_up_to.ensures.value ∙ sym (up_to_len 10 xs) in
    let rest : c.split_at.result.1.now ≡ drop end xs = c.split_at.ensures.back ∙ ap (λ (k : ℕ). drop k xs) long in
    let left : c.unwrap_or-self.result.now ≡ drop (end + 1) xs =
    ap (λ b. b.now) c.unwrap_or-self.ensures ∙ behind_line xs c.split_at.result.1 c.strip_prefix.result rest c.strip_prefix.ensures.cases in
    let some = eqb-false (length xs) 0 (sym c.is_empty.ensures ∙ c.if-is_empty.false) in
    let falls : length c.unwrap_or-self.result.now < length xs = omega (arith, ap length left, length-drop (end + 1) xs, some) in
    (c.split_at.ensures.front ∙ ap (λ (k : ℕ). take k xs) long ∙ up_to_front 10 xs, left, falls)
