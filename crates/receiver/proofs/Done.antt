-- One reading, from what was answered, filled, left and taken.
use Rattle.std.proofs.Common.{◌≡◌, ℕ, Bool, List, ◌++◌, Option, sym, ◌∙◌, subst, ap₂}
use Rattle.receiver.specs.Accounting.{Accounted}
use Rattle.receiver.specs.Folding.{answers_owed, given}
use Rattle.receiver.specs.Reading.{listed, owed}
use Rattle.receiver.specs.Readings.{Side, comes, due, said, said_length, packet_length, filled, Reads}
use Rattle.receiver.specs.declared.answer.Reading.{Reading as Code}
use Rattle.receiver.proofs.Accounts.{accounts}
use Rattle.receiver.proofs.Folds.{takes_first, answers_first}

pub reads : (fasb : Bool) (width : ℕ) (value : List ℕ → List ℕ) (refuses : List ℕ → Option ℕ) (before after : Side) (a : Code)
    → said a after.buffer ≡ due fasb width value refuses before
    → said_length a ≡ packet_length (due fasb width value refuses before)
    → after.buffer ≡ filled (due fasb width value refuses before) before.buffer
    → after.reader ≡ (comes fasb width before).reader
    → before.waiting ≡ (comes fasb width before).taken ++ after.waiting
    → Reads fasb width value refuses before a after
reads fasb width value refuses before after a answers lengths fills stands takes =
    let first = answers_first width value refuses (comes fasb width before).told (owed fasb width before.reader before.waiting) (owed fasb width (comes fasb width before).reader after.waiting)
    (takes_first fasb width before.reader before.waiting after.waiting takes) in
    record {
      answers = answers;
      lengths = lengths;
      fills = fills;
      stands = stands;
      takes = takes;
      folds = first ∙ ap₂ (λ u r. given u ++ answers_owed fasb width value refuses r after.waiting) (sym answers) (sym stands);
      accounts = subst (λ r. Accounted fasb width before.reader (comes fasb width before).taken (listed (comes fasb width before).told) r) (sym stands) (accounts fasb width before.reader before.waiting);
    }
