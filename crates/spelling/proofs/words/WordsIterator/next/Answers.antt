use Rattle.std.proofs.Common.{◌≡◌, ℕ, ◌-◌, length, take, drop, sym, ap, ◌∙◌, arith}
use Rattle.std.proofs.lemmas.List.{take_rest}
use Rattle.std.proofs.lemmas.Bool.{eqb-true, eqb-false}
use Rattle.spelling.specs.Words.{unspaced, up_to, words}
use Rattle.spelling.proofs.Parting.{no_word, word_found, unspaced_rest, up_to_len}
use Rattle.spelling.proofs.words.WordsIterator.next.Goals as goal

pub returns-then-is_empty-clause-steps : goal.returns-then-is_empty-clause-steps
returns-then-is_empty-clause-steps c =
    let xs = c.args.self.now.rest.now in
    let n = c.spaces_in_front.result in
    let rest = take (length xs - n) (drop n xs) in
    let unspaced : rest ≡ unspaced xs = take_rest xs n ∙ ap (λ (k : ℕ). drop k xs) c.spaces_in_front.ensures.value ∙ unspaced_rest xs in
    let no_byte = eqb-true (length c.split_at.result.0.now) 0 (sym c.is_empty.ensures ∙ c.if-is_empty.true) in
    let cut = c.split_at.ensures.front_len in
    let none : c.len_up_to.result ≡ 0 = omega (arith, cut, no_byte) in
    let empty = no_word xs rest unspaced (up_to_len 32 rest ∙ sym c.len_up_to.ensures.value ∙ none) in
    let left : c.split_at.result.1.now ≡ rest = c.split_at.ensures.back ∙ ap (λ (k : ℕ). drop k rest) (sym cut ∙ no_byte) in
    (empty.0, ap words left ∙ empty.1)

pub returns-else-is_empty-clause-steps : goal.returns-else-is_empty-clause-steps
returns-else-is_empty-clause-steps c =
    let xs = c.args.self.now.rest.now in
    let n = c.spaces_in_front.result in
    let rest = take (length xs - n) (drop n xs) in
    let unspaced : rest ≡ unspaced xs = take_rest xs n ∙ ap (λ (k : ℕ). drop k xs) c.spaces_in_front.ensures.value ∙ unspaced_rest xs in
    let some = eqb-false (length c.split_at.result.0.now) 0 (sym c.is_empty.ensures ∙ c.if-is_empty.false) in
    let cut = c.split_at.ensures.front_len in
    let word_long = c.len_up_to.ensures.value ∙ sym (up_to_len 32 rest) in
    let end : length c.split_at.result.0.now ≡ length (up_to 32 rest) =
    omega (arith, cut, word_long, c.len_up_to.ensures.within) in
    let found = word_found xs rest _ unspaced (sym cut ∙ end) (λ z. some (cut ∙ z)) in
    rw (c.split_at.ensures.front, c.split_at.ensures.back) found

pub returns-else-is_empty-clause-goes : goal.returns-else-is_empty-clause-goes
returns-else-is_empty-clause-goes c =
    let steps = ap length (returns-else-is_empty-clause-steps c) in
    record { on = λ _. (tt, tt, omega (arith, steps)); keeps = tt; rests = λ _. tt }
