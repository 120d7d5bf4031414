use Rattle.std.proofs.Common.{◌≡◌, ℕ, ◌+◌, ◌-◌, ◌%◌, ◌<◌, sym, refl, ap, ◌∙◌, subst, arith}
use Rattle.std.proofs.lemmas.List.{nil_from_length}
use Rattle.channel.specs.Rings.{capacity, slot_at, kept, Popped}
use Rattle.channel.proofs.Rounds.{popped}
use Rattle.channel.proofs.ring.Ring.pop.Goals as goal

pub returns-then-count-eq0 : goal.returns-then-count-eq0
returns-then-count-eq0 c = (nil_from_length (kept c.args.self.now) (sym c.waiting-count.ensures ∙ c.if-count-eq0.true), refl)

pub returns : goal.returns
returns c =
    let old = c.args.self.now in
    let size : c.capacity.result ≡ capacity old.memory.now = c.capacity.ensures in
    let some : 0 < c.waiting-count.result = omega arith in
    let read = c.load-slot.ensures ∙ ap (λ (k : ℕ). slot_at old.memory.now (old.first % k)) size in
    subst
    (λ (k : ℕ). Popped c.load-slot.result old (record { memory = old.memory; first = old.first % k + 1; count = c.waiting-count.result - 1 }))
    (sym size)
    (popped old c.load-slot.result c.waiting-count.result c.waiting-count.ensures some read)
