use Rattle.std.proofs.Common.{◌≢◌, codes, sym, subst, rules, Option}
use Rattle.std.proofs.lemmas.Slice.Eq.{bytes_eq-Decides}
use Rattle.console.specs.declared.verb.Switch.{Switch}
use Rattle.console.specs.Verbs.{SwitchNamed}
use Rattle.console.proofs.Naming.{switch_found}
use Rattle.console.proofs.verb.Switch.named.Goals as goal

pub returns : goal.returns
returns c =
    let word = c.args.word.now in
    let other : word ≢ codes "-h" = search (rules, bytes_eq-Decides) in
    subst (λ (r : Option Switch). SwitchNamed word r) (sym c.with_word.ensures) (switch_found word other)
