-- The questions on a header's facts are answered yes exactly where the facts are lawful.
use Rattle.std.proofs.Common.{◌≡◌, ℕ, ◌<◌, Bool, true, false, not, ◌&&◌, ◌||◌, eqb, [], ◌∷◌, is_some, Some, None, Option, sym, refl, ap, arith}
use Rattle.std.proofs.lemmas.Bool.{eqb-false, le-leb, leb-true, and_parts, and_from}
use Rattle.service.specs.Asking.{Question, AllYes}
use Rattle.service.specs.Encoding.{frame_id_in_range, field_questions}
use Rattle.service.specs.Map.{number_of_kind, map_of, map_questions, has_frame, can_enter, can_skip, same}
use Rattle.service.specs.Spelling.{Below, Fit, Lawful}
use Rattle.service.specs.declared.header.Kind.{Kind}
use Rattle.service.specs.declared.header.Kind.TheVariants.{Video, Audio, TimedData, Adaptation}
use Rattle.service.specs.declared.header.SyncHeader.{SyncHeader}
use Rattle.service.proofs.Asked.{yes_first, yes_more}
use Rattle.service.proofs.Maps.{same_true}

-- a field that is absent, or that holds a number below the limit
pub none_below : (limit : ℕ) → Below limit None
none_below limit n e = cc e

pub some_below : (k limit : ℕ) → k < limit → Below limit (Some k)
some_below k limit h n e = let same : k ≡ n = cc in omega arith

implies_yes : (b c : Bool) → (b ≡ true → c ≡ true) → (not b || c) ≡ true
implies_yes true c f = f refl
implies_yes false c f = refl

yes_implies : (b c : Bool) → (not b || c) ≡ true → b ≡ true → c ≡ true
yes_implies true c e h = e
yes_implies false c e h = cc h

same_yes : (b c : Bool) → b ≡ c → same b c ≡ true
same_yes true c e = sym e
same_yes false c e = ap not (sym e)

range_yes : (k : Kind) (id : Option ℕ) → (k ≡ Video → Below 60 id) → frame_id_in_range k id ≡ true
range_yes k None f = refl
range_yes Video (Some n) f = le-leb n 59 (omega (arith, f refl n refl))
range_yes Audio (Some n) f = refl
range_yes TimedData (Some n) f = refl
range_yes Adaptation (Some n) f = refl

-- kinds of different numbers
unequal : (k l : Kind) → k ≡ l → eqb (number_of_kind k) (number_of_kind l) ≡ false → ⊥
unequal k l same apart = eqb-false (number_of_kind k) (number_of_kind l) apart (ap number_of_kind same)

yes_range : (k : Kind) (id : Option ℕ) → frame_id_in_range k id ≡ true → k ≡ Video → Below 60 id
yes_range k None e v = none_below 60
yes_range Video (Some m) e v = some_below m 60 (omega (arith, leb-true m 59 e))
yes_range Audio (Some m) e v = absurd (unequal Audio Video v refl)
yes_range TimedData (Some m) e v = absurd (unequal TimedData Video v refl)
yes_range Adaptation (Some m) e v = absurd (unequal Adaptation Video v refl)

-- the two questions on the map of h
abbrev framed : SyncHeader → Bool
framed h = same (is_some h.frame_id) (has_frame h.kind)

abbrev entered : SyncHeader → Bool
entered h = not h.access_point || can_enter h.kind

abbrev skipped : SyncHeader → Bool
skipped h = not h.unreferenced || can_skip h.kind

pub lawful_map : (h : SyncHeader) → Lawful h → AllYes (map_questions (map_of h))
lawful_map h l =
    let e₅ = implies_yes h.access_point (can_enter h.kind) l.entry in
    let e₆ = implies_yes h.unreferenced (can_skip h.kind) l.skip in
    let q₃₃ : Question = (33, entered h && skipped h) in
    yes_more (32, framed h) (q₃₃ ∷ []) (same_yes (is_some h.frame_id) (has_frame h.kind) l.frame)
    (yes_more q₃₃ [] (and_from (entered h) (skipped h) e₅ e₆) refl)

pub lawful_fields : (h : SyncHeader) → Lawful h → AllYes (field_questions h)
lawful_fields h l =
    yes_more (35, frame_id_in_range h.kind h.frame_id) [] (range_yes h.kind h.frame_id l.video) refl

pub yes_lawful : (h : SyncHeader) → Fit h → AllYes (map_questions (map_of h)) → AllYes (field_questions h) → Lawful h
yes_lawful h fits maps fields =
    let q₃₃ : Question = (33, entered h && skipped h) in
    let y₃₂ = yes_first (32, framed h) (q₃₃ ∷ []) maps in
    let y₃₃ = yes_first q₃₃ [] y₃₂.1 in
    let y₃₅ = yes_first (35, frame_id_in_range h.kind h.frame_id) [] fields in
    let flags = and_parts (entered h) (skipped h) y₃₃.0 in
    record {
      frame = same_true (is_some h.frame_id) (has_frame h.kind) y₃₂.0;
      entry = yes_implies h.access_point (can_enter h.kind) flags.0;
      skip = yes_implies h.unreferenced (can_skip h.kind) flags.1;
      video = yes_range h.kind h.frame_id y₃₅.0;
      fits = fits;
    }
