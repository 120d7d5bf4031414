use Rattle.std.proofs.Common.{◌≡◌, ℕ, ◌+◌, ◌-◌, length, sym, refl, ap, ◌∙◌, arith}
use Rattle.std.proofs.lemmas.List.{drop_all, take_rest, length-drop}
use Rattle.framing.specs.Header.{headers_from}
use Rattle.framing.specs.Judging.{judgment_of}
use Rattle.framing.proofs.Judged.{judged_on, body_inside}
use Rattle.framing.proofs.judging.judge.Goals as goal

pub slice_bounds-rest-count : goal.slice_bounds-rest-count
slice_bounds-rest-count c =
    let shorter : length c.in-Some.following.now + 1 ≡ length c.loop-byte.rest.now = c.in-Some.ensures.cases.1 in
    let inside = body_inside c.args.width c.args.gathered (123 - length c.loop-byte.rest.now) c.in-Some.byte.now c.in-Some.following.now (omega (arith, shorter))
    (λ p. c.if-count-eq-PADDING.false (c.header-count.ensures.0 ∙ p)) c.in_default-fault.ensures in
    omega (arith, inside)

pub returns-then-count-eq-PADDING : goal.returns-then-count-eq-PADDING
returns-then-count-eq-PADDING c =
    let following = c.in-Some.following.now in
    let left : ℕ = length following in
    let place : ℕ = 123 - length c.loop-byte.rest.now in
    let shorter : left + 1 ≡ length c.loop-byte.rest.now = c.in-Some.ensures.cases.1 in
    let none = drop_all left following (omega arith) in
    sym (ap (λ r. (judgment_of c.args.width c.args.gathered (headers_from (place + 1 + left) 0 r)).verdict) none)
    ∙ judged_on c.args.width c.args.gathered place (place + 1 + left) c.in-Some.byte.now left following (omega (arith, shorter)) refl c.in_default-fault.ensures
    ∙ ap (λ r. (judgment_of c.args.width c.args.gathered (headers_from place 0 r)).verdict) (sym c.in-Some.ensures.cases.0)
    ∙ c.loop-byte.invariant.decides

pub loop-byte-preserved : goal.loop-byte-preserved
loop-byte-preserved c =
    let following = c.in-Some.following.now in
    let body : ℕ = c.from.result in
    let place : ℕ = 123 - length c.loop-byte.rest.now in
    let next : ℕ = 123 - (length following - body) in
    let shorter : length following + 1 ≡ length c.loop-byte.rest.now = c.in-Some.ensures.cases.1 in
    let inside = body_inside c.args.width c.args.gathered place c.in-Some.byte.now following (omega (arith, shorter))
    (λ p. c.if-count-eq-PADDING.false (c.header-count.ensures.0 ∙ p)) c.in_default-fault.ensures in
    let on =
    judged_on c.args.width c.args.gathered place next c.in-Some.byte.now body following (omega (arith, inside)) (omega (arith, shorter, inside)) c.in_default-fault.ensures
    ∙ ap (λ r. (judgment_of c.args.width c.args.gathered (headers_from place 0 r)).verdict) (sym c.in-Some.ensures.cases.0)
    ∙ c.loop-byte.invariant.decides in
    rw (take_rest following body, length-drop body following) (record { inside = omega (arith, shorter); decides = on })
