-- What the writing side keeps from call to call: all that was put is well put, and the packets in it are those accepted.
use Rattle.std.proofs.Common.{◌≡◌, ℕ, zero, suc, ◌+◌, ◌<◌, ◌≤◌, Bool, true, false, cond, List, [], ◌∷◌, ◌++◌, map, length, None, Option, sym, refl, ap, ◌∙◌, subst, ap₂, arith}
use Rattle.std.proofs.ByRecursion.{All-push}
use Rattle.std.proofs.lemmas.List.{append-nil, append_assoc, nil_from_length}
use Rattle.std.proofs.lemmas.Bool.{both_ways}
use Rattle.channel.specs.Sending.{Put, a_frame, a_mark}
use Rattle.flow.specs.Asking.{free}
use Rattle.flow.specs.Carrying.{Part, parts_in, parts_put, begun_after, ended_by, not_ended, packets_of, WellPut}
use Rattle.flow.specs.Cutting.{Cut, cut, paddings}
use Rattle.flow.specs.Writing.{State, cutting, idle, opening, offering, closing}
use Rattle.flow.proofs.Carries.{LawfulFrames, parts_of, cut_carries, pads_carry}
use Rattle.flow.proofs.Cuts.{cut_over, left_clear}
use Rattle.flow.proofs.Lawful.{nothing_begun}
use Rattle.flow.specs.Keeping.{Unfinished, Short, Keeps}
use Rattle.flow.proofs.Packets.{all_right, begun_append, packets_append, not_ended_some}

-- 1. Puts put together.

pub parts_append : (xs ys : List Put) → parts_put (xs ++ ys) ≡ parts_put xs ++ parts_put ys
parts_append [] ys = refl
parts_append (a_frame f ∷ xs) ys =
    ap (λ (r : List Part). parts_in f ++ r) (parts_append xs ys) ∙ sym (append_assoc (parts_in f) (parts_put xs) (parts_put ys))
parts_append (a_mark ∷ xs) ys = parts_append xs ys

pub parts_frames : (fs : List (List ℕ)) → parts_put (map a_frame fs) ≡ parts_of fs
parts_frames [] = refl
parts_frames (f ∷ fs) = ap (λ (r : List Part). parts_in f ++ r) (parts_frames fs)

pub well_append : (fasb : Bool) (width : ℕ) (at : Option (List ℕ)) (xs ys : List Put) → WellPut fasb width at xs
    → WellPut fasb width (begun_after at (parts_put xs)) ys → WellPut fasb width at (xs ++ ys)
well_append fasb width at [] ys first then = then
well_append fasb width at (a_frame f ∷ xs) ys first then = (
  first.0,
  first.1,
  first.2,
  well_append fasb width (begun_after at (parts_in f)) xs ys first.3
      (subst (λ (b : Option (List ℕ)). WellPut fasb width b ys) (begun_append at (parts_in f) (parts_put xs)) then),
)
well_append fasb width at (a_mark ∷ xs) ys first then = (first.0, well_append fasb width at xs ys first.1 then)

well_frames : (fasb : Bool) (width : ℕ) (at : Option (List ℕ)) (fs : List (List ℕ)) → LawfulFrames width at fs → WellPut fasb width at (map a_frame fs)
well_frames fasb width at [] l = tt
well_frames fasb width at (f ∷ fs) l = (l.0, l.1, l.2, well_frames fasb width (begun_after at (parts_in f)) fs l.3)

-- 2. What is kept.

pub keeps_idle : (fasb : Bool) (width : ℕ) → Keeps fasb width [] [] idle
keeps_idle fasb width =
    record {
      well_put = tt;
      unfinished = nothing_begun;
      packets = refl;
      short = tt;
      settled = λ _. refl;
      spent = λ _. refl;
      clear = λ some. absurd (omega arith);
      shut = λ _. refl;
      whole = λ _. refl;
    }

-- 3. A cutting.

module _ (fasb : Bool) (width : ℕ) (puts : List Put) (ps : List (List ℕ)) (k : ℕ) (begun bytes : List ℕ) where
  keeps_cut : WellPut fasb width None puts → Unfinished begun
      → packets_of None (parts_put puts ++ parts_in begun) bytes ≡ ps
      → Short (2044 + width) ps
      → (bytes ≡ [] → begun_after None (parts_put puts ++ parts_in begun) ≡ None)
      → (k ≡ 0 → begun ≡ [])
      → (fasb ≡ false → (cut k begun bytes).over ≡ [])
      → Keeps fasb width ps (puts ++ (cutting (cut k begun bytes)).puts) (cutting (cut k begun bytes)).state
  keeps_cut well u are short settled spent whole =
      let c : Cut = cut k begun bytes in
      let before : List Part = parts_put puts in
      let at : Option (List ℕ) = begun_after None before in
      let was : packets_of None (before ++ parts_in begun) bytes ≡ ended_by None before ++ packets_of at (parts_in begun) bytes =
      packets_append None before (parts_in begun) bytes in
      let own : Short (2044 + width) (packets_of at (parts_in begun) bytes) =
      all_right (λ p. length p ≤ 2044 + width) (ended_by None before) (packets_of at (parts_in begun) bytes)
      (subst (Short (2044 + width)) (sym are ∙ was) short) in
      let carries = cut_carries width k begun bytes at u own in
      let rest : List Part = parts_of c.full ++ parts_in c.unfinished in
      let all : parts_put (puts ++ map a_frame c.full) ++ parts_in c.unfinished ≡ before ++ rest =
      ap (λ (r : List Part). r ++ parts_in c.unfinished)
      (parts_append puts (map a_frame c.full) ∙ ap (λ (r : List Part). before ++ r) (parts_frames c.full))
      ∙ append_assoc before (parts_of c.full) (parts_in c.unfinished) in
      record {
        well_put = well_append fasb width None puts (map a_frame c.full) well (well_frames fasb width at c.full carries.frames);
        unfinished = carries.unfinished;
        packets =
            ap (λ (r : List Part). packets_of None r c.over) all
            ∙ packets_append None before rest c.over
            ∙ ap (λ (r : List (List ℕ)). ended_by None before ++ r) carries.same
            ∙ sym was ∙ are;
        short = short;
        settled = λ none.
            ap (begun_after None) all ∙ begun_append None before rest
            ∙ carries.settled (λ gone. sym (begun_append None before (parts_in begun)) ∙ settled gone) none;
        spent = λ none. carries.spent spent none;
        clear = λ some. nil_from_length c.over (left_clear k begun bytes some);
        shut = λ e. absurd (both_ways true e refl);
        whole = whole;
      }

pub keeps_opening : {fasb : Bool} {width : ℕ} {ps : List (List ℕ)} {puts : List Put} {s : State} (n : ℕ) → Keeps fasb width ps puts s
    → s.opened ≡ false → 0 < n → Keeps fasb width ps (puts ++ (opening n s).puts) (opening n s).state
keeps_opening {fasb} {width} {ps} {puts} {s} n keeps shut some =
    let none : s.begun ≡ [] = keeps.spent (keeps.shut shut) in
    keeps_cut fasb width puts ps n [] s.over keeps.well_put nothing_begun
    (ap (λ (b : List ℕ). packets_of None (parts_put puts ++ parts_in b) s.over) (sym none) ∙ keeps.packets)
    keeps.short
    (λ gone. ap (λ (b : List ℕ). begun_after None (parts_put puts ++ parts_in b)) (sym none) ∙ keeps.settled gone)
    (λ _. refl)
    (λ off.
    let gone = ap length (keeps.whole off) in
    let over = cut_over n [] s.over (omega arith) in
    nil_from_length (cut n [] s.over).over (omega arith))

pub keeps_offering : {fasb : Bool} {width : ℕ} {ps : List (List ℕ)} {puts : List Put} {s : State} (bytes : List ℕ) → Keeps fasb width ps puts s
    → 1 ≤ length bytes → length bytes ≤ 2044 + width → cond fasb 1 (length bytes) ≤ free s.left s.begun
    → Keeps fasb width (ps ++ bytes ∷ []) (puts ++ (offering bytes s).puts) (offering bytes s).state
keeps_offering {fasb} {width} {ps} {puts} {s} bytes keeps some few fits =
    let parts : List Part = parts_put puts ++ parts_in s.begun in
    let left : 0 < s.left = has_left fasb fits in
    let none : begun_after None parts ≡ None = keeps.settled (keeps.clear left) in
    let ended : ended_by None parts ≡ ps =
    sym (append-nil (ended_by None parts))
    ∙ ap₂ (λ (b : Option (List ℕ)) (o : List ℕ). ended_by None parts ++ not_ended b o) (sym none) (sym (keeps.clear left))
    ∙ keeps.packets in
    keeps_cut fasb width puts (ps ++ bytes ∷ []) s.left s.begun bytes keeps.well_put keeps.unfinished
    (ap₂ (λ (e : List (List ℕ)) (b : Option (List ℕ)). e ++ not_ended b bytes) ended none
    ∙ ap (λ (r : List (List ℕ)). ps ++ r) (not_ended_some None bytes some))
    (All-push (λ p. length p ≤ 2044 + width) ps bytes keeps.short few)
    (λ gone. absurd (let e = ap length gone in omega arith))
    keeps.spent
    (λ off.
    let over = cut_over s.left s.begun bytes keeps.unfinished.short in
    let enough : length bytes ≤ free s.left s.begun = subst (λ (b : Bool). cond b 1 (length bytes) ≤ free s.left s.begun) off fits in
    nil_from_length (cut s.left s.begun bytes).over (omega arith))
  where
    -- where a byte is free, a frame is left
    left_from : (k : ℕ) → 1 ≤ free k s.begun → 0 < k
    left_from zero free_one = absurd (omega arith)
    left_from (suc k) free_one = omega arith

    has_left : (b : Bool) → cond b 1 (length bytes) ≤ free s.left s.begun → 0 < s.left
    has_left true enough = left_from s.left enough
    has_left false enough = left_from s.left (omega arith)

pub keeps_closing : {fasb : Bool} {width : ℕ} {ps : List (List ℕ)} {puts : List Put} {s : State} → Keeps fasb width ps puts s
    → Keeps fasb width ps (puts ++ (closing s).puts) (closing s).state
keeps_closing {fasb} {width} {ps} {puts} {s} keeps =
    let before : List Part = parts_put puts in
    let at : Option (List ℕ) = begun_after None before in
    let pads : List (List ℕ) = paddings s.left s.begun in
    let was : (over : List ℕ) → packets_of None (before ++ parts_in s.begun) over ≡ ended_by None before ++ packets_of at (parts_in s.begun) over =
    λ over. packets_append None before (parts_in s.begun) over in
    let carries =
    pads_carry width s.left at s.begun keeps.unfinished keeps.spent
    (λ some.
    all_right (λ p. length p ≤ 2044 + width) (ended_by None before) (packets_of at (parts_in s.begun) [])
    (subst (Short (2044 + width))
    (sym keeps.packets ∙ ap (packets_of None (before ++ parts_in s.begun)) (keeps.clear some) ∙ was [])
    keeps.short))
    (λ some. sym (begun_append None before (parts_in s.begun)) ∙ keeps.settled (keeps.clear some)) in
    let frames : parts_put (map a_frame pads) ≡ parts_in s.begun = parts_frames pads ∙ carries.parts in
    let all : parts_put (puts ++ (map a_frame pads ++ a_mark ∷ [])) ++ parts_in [] ≡ before ++ parts_in s.begun =
    append-nil (parts_put (puts ++ (map a_frame pads ++ a_mark ∷ [])))
    ∙ parts_append puts (map a_frame pads ++ a_mark ∷ [])
    ∙ ap (λ (r : List Part). before ++ r) (parts_append (map a_frame pads) (a_mark ∷ []) ∙ append-nil (parts_put (map a_frame pads)) ∙ frames) in
    record {
      well_put =
          well_append fasb width None puts (map a_frame pads ++ a_mark ∷ []) keeps.well_put
          (well_append fasb width at (map a_frame pads) (a_mark ∷ []) (well_frames fasb width at pads carries.frames) (
            λ off.
                ap (begun_after at) frames ∙ sym (begun_append None before (parts_in s.begun)) ∙ keeps.settled (keeps.whole off),
            tt,
          ));
      unfinished = nothing_begun;
      packets = ap (λ (r : List Part). packets_of None r s.over) all ∙ keeps.packets;
      short = keeps.short;
      settled = λ none. ap (begun_after None) all ∙ keeps.settled none;
      spent = λ _. refl;
      clear = λ some. absurd (omega arith);
      shut = λ _. refl;
      whole = keeps.whole;
    }
