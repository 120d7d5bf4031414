-- Slots in places that go round.
use Rattle.std.proofs.Common.{◌≡◌, ℕ, zero, suc, ◌+◌, ◌-◌, ◌*◌, ◌/◌, ◌%◌, ◌<◌, ◌≤◌, min, ◌≢◌, List, [], ◌∷◌, ◌++◌, length, get_or, take, drop, Ok, sym, refl, ap, ◌∙◌, subst, ap₂, ⊎_elim, add-zero, mod-lt, mul-le-mul_left, mul-one, mul-add, arith, MutBor}
use native.Mathlib.Nat.{mod-add-mod, div-add-mod}
use Rattle.std.proofs.lemmas.List.{get_or-take, get_or-drop, drop-drop, drop-take, take-take}
use Rattle.std.proofs.lemmas.Bool.{cases_lt}
use Rattle.framing.specs.declared.slot.Slot.{Slot}
use Rattle.channel.specs.declared.sending.Outgoing.{Outgoing}
use Rattle.channel.specs.declared.ring.Ring.{Ring}
use Rattle.channel.specs.Answers.{PutAnswer}
use Rattle.channel.specs.Sending.{Went}
use Rattle.channel.specs.Outgoings.{as_put, as_slot}
use Rattle.channel.proofs.Sends.{room_open, went_frame, went_mark}
use Rattle.channel.specs.Rings.{capacity, slot_of, slot_at, going_round, place_behind, kept, room_in, Unchanged, OnlyAt, Pushed, Popped}

pub length_round : (at : ℕ → Slot) (size place n : ℕ) → length (going_round at size place n) ≡ n
length_round at size place zero = refl
length_round at size place (suc n) = ap suc (length_round at size (place + 1) n)

-- places that are the same round the memory
pub round_from :
    (at : ℕ → Slot) (size p q n : ℕ) → p % size ≡ q % size → going_round at size p n ≡ going_round at size q n
round_from at size p q zero same = refl
round_from at size p q (suc n) same =
    let next : (p + 1) % size ≡ (q + 1) % size =
    sym (mod-add-mod p size 1) ∙ ap (λ (x : ℕ). (x + 1) % size) same ∙ mod-add-mod q size 1 in
    ap₂ (λ (x : Slot) (l : List Slot). x ∷ l) (ap at same) (round_from at size (p + 1) (q + 1) n next)

-- one more at the end
pub round_more :
    (at : ℕ → Slot) (size place n : ℕ)
    → going_round at size place (suc n) ≡ going_round at size place n ++ at ((place + n) % size) ∷ []
round_more at size place zero = ap (λ (p : ℕ). at (p % size) ∷ []) (sym (add-zero place))
round_more at size place (suc n) =
    let same : place + 1 + n ≡ place + suc n = omega arith in
    ap (λ (l : List Slot). at (place % size) ∷ l)
    (round_more at size (place + 1) n
    ∙ ap (λ (p : ℕ). going_round at size (place + 1) n ++ at (p % size) ∷ []) same)

-- only the places that are passed count
pub round_same :
    (at to : ℕ → Slot) (size place n : ℕ)
    → ((i : ℕ) → i < n → at ((place + i) % size) ≡ to ((place + i) % size))
    → going_round at size place n ≡ going_round to size place n
round_same at to size place zero each = refl
round_same at to size place (suc n) each =
    let here : at (place % size) ≡ to (place % size) =
    subst (λ (p : ℕ). at (p % size) ≡ to (p % size)) (add-zero place) (each 0 (omega arith)) in
    let later : (i : ℕ) → i < n → at ((place + 1 + i) % size) ≡ to ((place + 1 + i) % size) =
    λ i below.
    let same : place + (i + 1) ≡ place + 1 + i = omega arith in
    subst (λ (p : ℕ). at (p % size) ≡ to (p % size)) same (each (i + 1) (omega arith)) in
    ap₂ (λ (x : Slot) (l : List Slot). x ∷ l) here (round_same at to size (place + 1) n later)

-- two places less than one round apart differ
pub apart : (size place i n : ℕ) → i < n → n < size → (place + i) % size ≢ (place + n) % size
apart size place i n less round same =
    let p = (place + i) / size in
    let q = (place + n) / size in
    let from = div-add-mod (place + i) size in
    let to = div-add-mod (place + n) size in
    ⊎_elim
    (λ (h : p < q). let more : p + 1 ≤ q = omega arith in let far : size * (p + 1) ≤ size * q = mul-le-mul_left size more in omega (arith, mul-add size p 1, mul-one size))
    (λ (h : q ≤ p). let far : size * q ≤ size * p = mul-le-mul_left size h in omega arith)
    (cases_lt p q)

-- a slot that lies in the first n bytes
slot_in_front :
    (memory : List ℕ) (place n : ℕ) → place * 123 + 123 ≤ n → slot_at (take n memory) place ≡ slot_at memory place
slot_in_front memory place n below =
    let from = place * 123 + 1 in
    let rest = n - from in
    let sum : from + rest ≡ n = omega arith in
    let body : drop from (take n memory) ≡ take rest (drop from memory) =
    subst (λ (k : ℕ). drop from (take k memory) ≡ take rest (drop from memory)) sum (drop-take from rest memory) in
    ap₂ slot_of
    (get_or-take n memory (place * 123) 0 (omega arith))
    (ap (λ (l : List ℕ). take 122 l) body ∙ take-take 122 rest (drop from memory) (omega arith))

-- a slot that lies behind the first n bytes
slot_behind :
    (memory : List ℕ) (place n : ℕ) → n ≤ place * 123
    → slot_at memory place
    ≡ slot_of (get_or (drop n memory) (place * 123 - n) 0) (take 122 (drop (place * 123 + 1 - n) (drop n memory)))
slot_behind memory place n above =
    let at : n + (place * 123 - n) ≡ place * 123 = omega arith in
    let from : n + (place * 123 + 1 - n) ≡ place * 123 + 1 = omega arith in
    ap₂ slot_of
    (sym (get_or-drop n memory (place * 123 - n) 0 ∙ ap (λ (i : ℕ). get_or memory i 0) at))
    (ap (λ (l : List ℕ). take 122 l) (sym (drop-drop (place * 123 + 1 - n) n memory ∙ ap (λ (i : ℕ). drop i memory) from)))

-- a write to one place leaves the slots at the others
pub slot_elsewhere :
    (place other : ℕ) (old new : List ℕ) → OnlyAt place old new → other ≢ place → slot_at new other ≡ slot_at old other
slot_elsewhere place other old new only differ =
    ⊎_elim
    (λ (h : other < place).
    sym (slot_in_front new other (place * 123) (omega arith))
    ∙ ap (λ (l : List ℕ). slot_at l other) only.before
    ∙ slot_in_front old other (place * 123) (omega arith))
    (λ (h : place ≤ other).
    let next : place < other = omega arith in
    slot_behind new other (place * 123 + 123) (omega arith)
    ∙ ap
    (λ (l : List ℕ).
    slot_of (get_or l (other * 123 - (place * 123 + 123)) 0) (take 122 (drop (other * 123 + 1 - (place * 123 + 123)) l)))
    only.behind
    ∙ sym (slot_behind old other (place * 123 + 123) (omega arith)))
    (cases_lt other place)

-- the first of so many, and the rest
round_first :
    (at : ℕ → Slot) (size first n k : ℕ) → n ≡ suc k
    → going_round at size first n ≡ at (first % size) ∷ going_round at size (first % size + 1) k
round_first at size first n k is =
    ap (going_round at size first) is
    ∙ ap (λ (l : List Slot). at (first % size) ∷ l) (round_from at size (first + 1) (first % size + 1) k (sym (mod-add-mod first size 1)))

-- the first slot is taken off
pub popped :
    (old : Ring) (s : Slot) (n : ℕ) → n ≡ length (kept old) → 0 < n
    → s ≡ slot_at old.memory.now (old.first % capacity old.memory.now)
    → Popped s old (record { memory = old.memory; first = old.first % capacity old.memory.now + 1; count = n - 1 })
popped old s n waiting some is =
    let at = slot_at old.memory.now in
    let size = capacity old.memory.now in
    let many = length_round at size old.first (min old.count size) in
    let left : min (n - 1) size ≡ n - 1 = omega arith in
    let fewer = length_round at size (old.first % size + 1) (min (n - 1) size) in
    let first_and_rest = round_first at size old.first (min old.count size) (n - 1) (omega arith) in
    record {
      gave = first_and_rest ∙ ap₂ (λ (x : Slot) (k : ℕ). x ∷ going_round at size (old.first % size + 1) k) (sym is) (sym left);
      freed = omega arith;
      memory = refl;
    }

-- where there is room, not every place is taken
pub has_place : (old : Ring) → 0 < room_in old → old.count < capacity old.memory.now
has_place old some =
    let size = capacity old.memory.now in
    let many = length_round (slot_at old.memory.now) size old.first (min old.count size) in
    omega arith

-- a slot is written behind the last
pub pushed :
    (old : Ring) (s : Slot) (memory : MutBor (List ℕ)) (place : ℕ) → old.count < capacity old.memory.now
    → place ≡ place_behind old old.count
    → slot_at memory.now place ≡ s → OnlyAt place old.memory.now memory.now → memory.ghost_name ≡ old.memory.ghost_name
    → Pushed s old (record { memory = memory; first = old.first; count = old.count + 1 })
pushed old s memory place room is holds only same =
    let at = slot_at old.memory.now in
    let to = slot_at memory.now in
    let first = old.first in
    let n = old.count in
    let size = capacity old.memory.now in
    let long = only.long in
    let same_size : capacity memory.now ≡ size = ap (λ (k : ℕ). k / 123) long in
    let here : place ≡ (first + n) % size = is ∙ mod-add-mod first size n in
    let before : min n size ≡ n = omega arith in
    let after : min (n + 1) (capacity memory.now) ≡ suc n = omega arith in
    let untouched : going_round to size first n ≡ going_round at size first n =
    round_same to at size first n
    (λ i below. slot_elsewhere place ((first + i) % size) old.memory.now memory.now only
    (λ clash. apart size first i n below room (clash ∙ here))) in
    let last : to ((first + n) % size) ≡ s = ap to (sym here) ∙ holds in
    let grew : going_round to (capacity memory.now) first (min (n + 1) (capacity memory.now)) ≡ going_round at size first (min n size) ++ s ∷ [] =
    ap₂ (λ (k j : ℕ). going_round to k first j) same_size after
    ∙ round_more to size first n
    ∙ ap₂ (λ (l : List Slot) (x : Slot). l ++ x ∷ []) untouched last
    ∙ ap (λ (k : ℕ). going_round at size first k ++ s ∷ []) (sym before) in
    let many = length_round at size first (min n size) in
    let more = length_round to (capacity memory.now) first (min (n + 1) (capacity memory.now)) in
    let within : place < size = subst (λ (p : ℕ). p < size) (sym here) (mod-lt (first + n) (omega arith)) in
    let end : place * 123 + 123 + (size * 123 - (place * 123 + 123)) ≡ size * 123 = omega arith in
    let rest : (l : List ℕ) → drop (size * 123) l ≡ drop (size * 123 - (place * 123 + 123)) (drop (place * 123 + 123) l) =
    λ l. sym (drop-drop (size * 123 - (place * 123 + 123)) (place * 123 + 123) l ∙ ap (λ (k : ℕ). drop k l) end) in
    record {
      same = same;
      grew = grew;
      fell = omega arith;
      long = long;
      spare =
          rest memory.now
          ∙ ap (drop (size * 123 - (place * 123 + 123))) only.behind
          ∙ sym (rest old.memory.now);
    }

-- what was pushed went onto the ring
went_pushed :
    (item : Outgoing) (old new : Ring) → Pushed (as_slot item) old new
    → Went Unchanged (as_put item ∷ []) (kept old) (room_in old) (kept new) (room_in new)
went_pushed (Outgoing.Frame f) old new p = went_frame f.bytes (Slot.Frame f) refl refl p.grew p.fell
went_pushed Outgoing.Mark old new p = went_mark p.grew p.fell

pub push_answer :
    (item : Outgoing) (old new : Ring) → 0 < room_in old → Pushed (as_slot item) old new
    → PutAnswer kept room_in Unchanged (λ _. Unit {0}) (as_put item) (Ok tt) old new
push_answer item old new some p =
    record {
      asked = sym (room_open (room_in old) some);
      same = tt;
      counts = p.fell;
      joins = λ _. went_pushed item old new p;
      keeps = λ t. t;
    }
