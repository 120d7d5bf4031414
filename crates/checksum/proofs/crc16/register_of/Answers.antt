use Rattle.std.proofs.Common.{◌≡◌, ℕ, ◌+◌, ◌<◌, ◌≤◌, List, ◌++◌, length, get_or, drop, sym, ap, ap₂, ◌∙◌, add-one, drop_of_length-le, drop-cons}
use Rattle.std.proofs.lemmas.List.{take-append-drop}
use Rattle.checksum.specs.Stretch.{byte_bits, bits}
use Rattle.checksum.specs.Crc16.{feed_by, feed}
use Rattle.checksum.specs.Detect.{feed_then}
use Rattle.checksum.proofs.crc16.register_of.Goals as goal

-- one byte of the rest goes in
more : (s : List ℕ) (i r : ℕ) → i < length s → feed (feed r (byte_bits (get_or s i 0))) (bits (drop (i + 1) s)) ≡ feed r (bits (drop i s))
unfolding feed_by
more s i r h = rw (add-one, drop-cons s i 0)

done : (s : List ℕ) (i r : ℕ) → length s ≤ i → feed r (bits (drop i s)) ≡ r
unfolding feed_by
done s i r h = rw (drop_of_length-le s h)

pub loop-block-preserved : goal.loop-block-preserved
loop-block-preserved c =
    let block = c.in-Some.block.now in
    let later = c.in-Some.later.now in
    let rest = c.loop-block.rest.now in
    ap (λ (n : ℕ). feed n (bits later)) c.after_block-state.ensures
    ∙ sym (feed_then block later c.loop-block.state)
    ∙ ap (λ (s : List ℕ). feed c.loop-block.state (bits s))
    (ap₂ (λ (a b : List ℕ). a ++ b) c.in-Some.ensures.cases.0 c.in-Some.ensures.cases.1 ∙ take-append-drop 8 rest)
    ∙ c.loop-block.invariant

pub loop-byte-preserved : goal.loop-byte-preserved
loop-byte-preserved c =
    let s = c.loop-block.rest.now in
    let i = c.loop-byte.byte-index in
    ap (λ (n : ℕ). feed n (bits (drop (i + 1) s))) c.after_byte-state.ensures
    ∙ more s i c.loop-byte.state c.loop-byte-test.true
    ∙ c.loop-byte.invariant

pub returns : goal.returns
returns c =
    sym (done c.loop-block.rest.now c.loop-byte.byte-index c.loop-byte.state c.loop-byte-test.false)
    ∙ c.loop-byte.invariant
