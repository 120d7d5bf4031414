use Rattle.std.proofs.Common.{◌≡◌, eqb, refl, subst, rules}
use Rattle.std.proofs.lemmas.Fn.{fold_over, slice_gives, fronts}
use Rattle.framing.specs.Judging.{all_zero}
use Rattle.framing.proofs.Zeros.{zero_more}
use Rattle.framing.proofs.judging.is_zero.Goals as goal

pub returns : goal.returns
returns c = subst (λ l. eqb c.fold.result 0 ≡ all_zero l) c.iter.ensures.rest
    (fold_over fronts (λ y. y.now) _ (λ ys n. eqb n 0 ≡ all_zero ys) _ (λ ys a x b f' j k. let more = zero_more ys a x.now j in search rules)
    _ _ _ _ (slice_gives c.iter.result) refl c.fold.ensures.ran)
