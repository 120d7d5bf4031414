use Rattle.std.proofs.Common.{◌≡◌, ℕ, ◌+◌, ◌/◌, List, length, drop, None, vec_items, rules, sym, refl, ap, ◌∙◌, inr, arith}
use Rattle.std.proofs.lemmas.Bool.{eqb-true, eqb-false}
use Rattle.spelling.specs.Hex.{behind, unhexed}
use Rattle.spelling.proofs.Spelling.{pairs_unhexed, in_pairs, behind_nothing, hex_odd, hex_more, hex_stop}
use Rattle.spelling.proofs.hex.decode_digits.Goals as goal

pub returns-then-not-is_empty-clause-fault : goal.returns-then-not-is_empty-clause-fault
returns-then-not-is_empty-clause-fault c =
    let xs = c.args.digits.now in
    let some = eqb-false (length c.as_chunks.result.1.now) 0 (sym c.is_empty.ensures ∙ c.if-not-is_empty.true) in
    inr (refl, hex_odd (length xs / 2) xs (omega (arith, some, c.as_chunks.ensures.back_len)))

pub loop-high-init : goal.loop-high-init
loop-high-init c =
    let xs = c.args.digits.now in
    let pairs = c.as_chunks.result.0.now in
    let none = eqb-true (length c.as_chunks.result.1.now) 0 (sym c.is_empty.ensures ∙ c.if-not-is_empty.false) in
    ap (λ (v : List ℕ). behind v (pairs_unhexed pairs)) c.new-bytes.ensures.items
    ∙ behind_nothing (pairs_unhexed pairs)
    ∙ ap pairs_unhexed c.as_chunks.ensures.front
    ∙ sym (in_pairs (length xs / 2) xs (omega (arith, none, c.as_chunks.ensures.back_len)))

pub loop-high-preserved : goal.loop-high-preserved
loop-high-preserved c =
    let pairs = c.as_chunks.result.0.now in
    let i = c.loop-high.high-index in
    ap (λ (v : List ℕ). behind v (pairs_unhexed (drop (i + 1) pairs))) c.in_ok-push.ensures.items
    ∙ hex_more (vec_items c.loop-high.bytes) pairs i c.in_ok-byte.byte c.loop-high-test.true
    (sym c.in_ok-byte.ensures.ok_part ∙ c.byte_of_digits.ensures)
    ∙ c.loop-high.invariant

pub returns-in_err-byte-clause-fault : goal.returns-in_err-byte-clause-fault
returns-in_err-byte-clause-fault c =
    let none =
    hex_stop (vec_items c.loop-high.bytes) c.as_chunks.result.0.now c.loop-high.high-index c.loop-high-test.true
    (sym c.in_err-byte.ensures.ok_part ∙ c.byte_of_digits.ensures) in
    let unspelt : unhexed c.args.digits.now ≡ None = sym c.loop-high.invariant ∙ none in
    search (rules, unspelt)
