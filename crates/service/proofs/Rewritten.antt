-- What is written is read back, and what was read is written again.
use Rattle.std.proofs.Common.{◌≡◌, ℕ, ◌<◌, leb, List, [], ◌∷◌, ◌++◌, length, take, drop, IfOk, Ok, Err, Result, sym, refl, ap, ◌∙◌, arith}
use Rattle.std.proofs.lemmas.List.{take_at}
use Rattle.std.proofs.lemmas.Bool.{leb-true}
use Rattle.service.specs.Asking.{Question, AllYes}
use Rattle.service.specs.Encoding.{encoding, field_questions}
use Rattle.service.specs.Faults.{refusing}
use Rattle.service.specs.Map.{map_of, map_questions}
use Rattle.service.specs.Reading.{reading}
use Rattle.service.specs.Spelling.{Fit, Lawful}
use Rattle.service.specs.Writing.{writing, writing_questions, written, Rewrites}
use Rattle.service.specs.declared.header.HeaderFault.{HeaderFault}
use Rattle.service.specs.declared.header.SyncHeader.{SyncHeader}
use Rattle.service.proofs.Asked.{answered, yes_first, yes_parts}
use Rattle.service.proofs.Lawfully.{lawful_map, lawful_fields, yes_lawful}
use Rattle.service.proofs.Respelled.{read_spelled}
use Rattle.service.proofs.Spelled.{encoded_read}
use Rattle.service.proofs.Whole.{write_yes}

-- a header and a payload that were written are lawful
lawful_written : (h : SyncHeader) (payload : List ℕ) (n : ℕ) → Fit h → AllYes (writing_questions h payload n)
    → Lawful h × (0 < length payload)
lawful_written h payload n fits all =
    let last : List Question = (36, leb (length (encoding h payload)) n) ∷ [] in
    let a₃₄ : Question = (34, leb 1 (length payload)) in
    let parts = yes_parts (map_questions (map_of h)) (a₃₄ ∷ (field_questions h ++ last)) all in
    let y₃₄ = yes_first a₃₄ (field_questions h ++ last) parts.1 in
    let fields = yes_parts (field_questions h) last y₃₄.1 in
    (yes_lawful h fits parts.0 fields.0, omega (arith, leb-true 1 (length payload) y₃₄.0))

pub reads_back : (r : Result ℕ HeaderFault) (h : SyncHeader) (payload old new : List ℕ)
    → refusing r ≡ writing h payload (length old) → new ≡ written r h payload old → IfOk r (λ _. Fit h)
    → IfOk r (λ n. reading (take n new) ≡ Ok (h, payload))
reads_back (Err e) h payload old new is holds fits = tt
reads_back (Ok n) h payload old new is holds fits =
    let k : ℕ = length (encoding h payload) in
    let told = answered (writing_questions h payload (length old)) k n (sym is) in
    let l = lawful_written h payload (length old) fits told.0 in
    ap (λ (s : List ℕ). reading (take n s)) holds
    ∙ ap reading (take_at (encoding h payload) (drop k old) n told.1)
    ∙ encoded_read h payload l.0 l.1

pub rewrites : (r : Result ℕ HeaderFault) (h : SyncHeader) (payload old new : List ℕ)
    → refusing r ≡ writing h payload (length old) → new ≡ written r h payload old
    → Rewrites h payload old (refusing r) new
rewrites r h payload old new is holds s bytes e fits =
    let sp = read_spelled s bytes h payload e in
    let l = sp.lawful in
    let k : ℕ = length (encoding h payload) in
    let long : length s ≡ k = ap length sp.whole in
    let yes = write_yes h payload (length old) (lawful_map h l) sp.some (lawful_fields h l) (omega arith) in
    let ok : refusing r ≡ Ok k = is ∙ yes in
    (ok ∙ ap Ok (sym long), holds ∙ all_written r h payload old k ok ∙ ap (λ (t : List ℕ). t ++ drop (length t) old) (sym sp.whole))
  where
    all_written : (r : Result ℕ HeaderFault) (h : SyncHeader) (payload old : List ℕ) (k : ℕ) → refusing r ≡ Ok k
        → written r h payload old ≡ encoding h payload ++ drop (length (encoding h payload)) old
    all_written (Ok n) h payload old k ok = refl
    all_written (Err e) h payload old k ok = cc ok
