use Rattle.std.proofs.Common.{sym, subst, Option}
use Rattle.console.specs.declared.verb.Verb.{Verb}
use Rattle.console.specs.Verbs.{VerbNamed}
use Rattle.console.proofs.Naming.{verb_found}
use Rattle.console.proofs.verb.Verb.named.Goals as goal

pub returns : goal.returns
returns c = subst (λ (r : Option Verb). VerbNamed c.args.word.now r) (sym c.with_word.ensures) (verb_found c.args.word.now)
