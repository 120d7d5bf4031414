-- Putting on a tape and taking from it, as the interface of channels has it.
use Rattle.std.proofs.Common.{◌≡◌, ℕ, ◌+◌, ◌-◌, ◌<◌, ◌≤◌, ltb, List, [], ◌∷◌, ◌++◌, map, length, get_or, drop, Some, Ok, vec_items, vec_len, vec_capacity, sym, ap, ◌∙◌, ⊎_elim, arith}
use Rattle.std.proofs.lemmas.List.{map_push, drop-append-le, length-map, drop_all, drop_more, get_or-map}
use Rattle.std.proofs.lemmas.Bool.{lt-ltb, le-ltb, cases_lt}
use Rattle.framing.specs.declared.slot.Slot.{Slot}
use Rattle.channel.specs.declared.sending.Outgoing.{Outgoing}
use Rattle.channel.specs.declared.sending.Outgoing.TheVariants.{Frame, Mark}
use Rattle.channel.specs.Answers.{PutAnswer, TakeAnswer}
use Rattle.channel.specs.Asking.{waiting}
use Rattle.channel.specs.Outgoings.{as_put}
use Rattle.channel.specs.Sending.{Arrives, Went}
use Rattle.channel.proofs.Sends.{room_open, went_frame, went_mark}
use Rattle.simulation.specs.declared.tape.Passage.{Passage}
use Rattle.simulation.specs.declared.tape.Tape.{Tape}
use Rattle.simulation.specs.Tapes.{Becomes, slot_of, kept, room_on, Behind, Taped}

-- how many slots there are on a tape, the taken ones among them
pub many : (t : Tape) → length (map slot_of (vec_items t.passages)) ≡ vec_len t.passages
many t = length-map (vec_items t.passages) slot_of ∙ sym t.passages.ok.0

pub joined : (p : Passage) (old new : Tape) → Behind old → Taped p old new → kept new ≡ kept old ++ slot_of p ∷ []
joined p old new behind t =
    let before : List Slot = map slot_of (vec_items old.passages) in
    let size = many old in
    ap (λ (k : ℕ). drop k (map slot_of (vec_items new.passages))) t.3
    ∙ ap (λ (l : List Passage). drop old.taken (map slot_of l)) t.0
    ∙ ap (λ (l : List Slot). drop old.taken l) (map_push slot_of (vec_items old.passages) p)
    ∙ drop-append-le old.taken before (slot_of p ∷ []) (omega (arith, size))

pub fell : (p : Passage) (old new : Tape) → 0 < room_on old → Taped p old new → room_on old ≡ room_on new + 1
fell p old new some t =
    let more = t.1 in
    let same = t.2 in
    omega (arith, more, same)

went :
    (item : Outgoing) (p : Passage) (old new : Tape) → 0 < room_on old → Taped p old new → Becomes item p.slot → Behind old
    → Went Arrives (as_put item ∷ []) (kept old) (room_on old) (kept new) (room_on new)
went (Frame f) p old new some t becomes behind =
    went_frame f.bytes p.slot becomes becomes (joined p old new behind t) (fell p old new some t)
went Mark p old new some t becomes behind =
    went_mark (joined p old new behind t ∙ ap (λ (s : Slot). kept old ++ s ∷ []) becomes) (fell p old new some t)

-- what is put goes onto the tape
pub put_on :
    (item : Outgoing) (p : Passage) (old new : Tape) → 0 < room_on old → Taped p old new → Becomes item p.slot
    → PutAnswer kept room_on Arrives Behind (as_put item) (Ok tt) old new
put_on item p old new some t becomes =
    let more = t.1 in
    let same = t.3 in
    record {
      asked = sym (room_open (room_on old) some);
      same = tt;
      counts = fell p old new some t;
      joins = went item p old new some t becomes;
      keeps = λ (behind : Behind old). omega (arith, more, same, behind);
    }

pub empty : (t : Tape) → vec_len t.passages ≤ t.taken → kept t ≡ []
empty t le = let size = many t in drop_all t.taken (map slot_of (vec_items t.passages)) (omega (arith, size))

pub first :
    (t : Tape) (d : Passage) → t.taken < vec_len t.passages
    → kept t ≡ slot_of (get_or (vec_items t.passages) t.taken d) ∷ drop (t.taken + 1) (map slot_of (vec_items t.passages))
first t d lt =
    let xs : List Passage = vec_items t.passages in
    let all : List Slot = map slot_of xs in
    let size = many t in
    let long = t.passages.ok.0 in
    let within : t.taken < length all = omega (arith, size) in
    let cut : t.taken < length xs = omega (arith, long) in
    drop_more all t.taken (slot_of d) within
    ∙ ap (λ (s : Slot). s ∷ drop (t.taken + 1) all) (get_or-map slot_of xs t.taken d (slot_of d) cut)

-- the first slot is taken
pub took_first :
    (t new : Tape) (p : Passage) → t.taken < vec_len t.passages → p ≡ get_or (vec_items t.passages) t.taken p
    → new.passages ≡ t.passages → new.taken ≡ t.taken + 1
    → TakeAnswer kept room_on Behind (Some (slot_of p)) t new
took_first t new p lt is memory taken =
    let rest : kept new ≡ drop (t.taken + 1) (map slot_of (vec_items t.passages)) =
    ap (λ (k : ℕ). drop k (map slot_of (vec_items new.passages))) taken
    ∙ ap (λ m. drop (t.taken + 1) (map slot_of (vec_items m))) memory in
    let room : room_on t ≡ room_on new = sym (ap (λ m. vec_capacity m - vec_len m) memory) in
    let long : vec_len new.passages ≡ vec_len t.passages = ap (λ m. vec_len m) memory in
    record {
      first =
          first t p lt
          ∙ ap (λ (s : Slot). s ∷ drop (t.taken + 1) (map slot_of (vec_items t.passages))) (sym (ap slot_of is))
          ∙ ap (λ (l : List Slot). slot_of p ∷ l) (sym rest);
      frees = omega (arith, room);
      keeps = λ (b : Behind t). omega (arith, long, taken, lt);
    }

-- a slot waits exactly where less was taken than was put
pub waits_so : (t : Tape) (d : Passage) (m : ℕ) → m ≡ vec_len t.passages → ltb t.taken m ≡ waiting (kept t)
waits_so t d m is =
    ⊎_elim
    (λ (lt : t.taken < m). lt-ltb t.taken m lt ∙ sym (ap waiting (first t d (omega (arith, is)))))
    (λ (le : m ≤ t.taken). le-ltb t.taken m le ∙ sym (ap waiting (empty t (omega (arith, is)))))
    (cases_lt t.taken m)
