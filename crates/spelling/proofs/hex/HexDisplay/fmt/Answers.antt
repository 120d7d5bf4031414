use Rattle.std.proofs.Common.{◌+◌, ◌/◌, [], ◌∷◌, ◌++◌, length, get_or, take, sym, refl, ◌∙◌, append_assoc}
use Rattle.std.proofs.lemmas.Bool.{eqb-false}
use Rattle.std.proofs.Output.{writes_in_calls_nil, has_written_append, has_written_of_eq}
use Rattle.spelling.specs.Hex.{digit_of, hexed, in_word}
use Rattle.spelling.proofs.Spelling.{hexed_all, hexed_more}
use Rattle.spelling.proofs.hex.HexDisplay.fmt.Goals as goal

pub loop-byte-init : goal.loop-byte-init
loop-byte-init g c p = record { wrote = writes_in_calls_nil g.W.Write.write_str_gives c.args.f.now.writer; plain = p }

pub loop-byte-preserved : goal.loop-byte-preserved
loop-byte-preserved g c p =
    let gives = g.W.Write.write_str_gives in
    let f = c.args.f.now in
    let xs = c.args.self.now.0.now in
    let i = c.loop-byte.byte-index in
    let b = get_or xs i 0 in
    let so_far = c.loop-byte.invariant p in
    let high = rw c.digit.ensures at c.in_ok-write_str.ensures.writes in
    let with_high = has_written_append gives f (hexed (take i xs)) c.loop-byte.f (digit_of (b / 16) ∷ []) c.write_str-in-loop-byte.new.self so_far (high so_far.plain refl) in
    let low = rw c.digit-in-loop-byte.ensures at c.in_ok-write_str-2.ensures.writes in
    let with_both = has_written_append gives f (hexed (take i xs) ++ digit_of (b / 16) ∷ []) c.write_str-in-loop-byte.new.self (digit_of b ∷ []) c.write_str-in-loop-byte-2.new.self with_high (low with_high.plain refl) in
    has_written_of_eq gives f ((hexed (take i xs) ++ digit_of (b / 16) ∷ []) ++ digit_of b ∷ []) (hexed (take (i + 1) xs)) c.write_str-in-loop-byte-2.new.self
    (append_assoc (hexed (take i xs)) (digit_of (b / 16) ∷ []) (digit_of b ∷ []) ∙ hexed_more xs i c.loop-byte-test.true) with_both

pub returns-clause-writes : goal.returns-clause-writes
returns-clause-writes g c p e =
    let xs = c.args.self.now.0.now in
    let i = c.loop-byte.byte-index in
    has_written_of_eq g.W.Write.write_str_gives c.args.f.now (hexed (take i xs)) (in_word xs) c.loop-byte.f
    (hexed_all xs i (eqb-false (length xs) 0 (sym c.if-is_empty.ensures)) c.loop-byte-test.false) (c.loop-byte.invariant p)
