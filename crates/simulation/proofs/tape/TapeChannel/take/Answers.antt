use Rattle.std.proofs.Common.{◌<◌, get_or, vec_len, refl, ap, ◌∙◌, arith}
use Rattle.simulation.proofs.Tapings.{took_first}
use Rattle.simulation.proofs.tape.TapeChannel.take.Goals as goal

pub returns : goal.returns
returns c =
    let t = c.args.self.now in
    let p = c.in_ok-passage.passage.now in
    let found = c.in_ok-passage.ensures.lookup in
    let inside = found.3.0 in
    let long = c.deref.ensures.len in
    let before : t.taken < vec_len t.passages = omega (arith, inside, long) in
    took_first t _ p before (found.1 ∙ ap (λ l. get_or l t.taken p) c.deref.ensures.value) refl refl
