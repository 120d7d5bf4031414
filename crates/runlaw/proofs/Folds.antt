-- Each fold over a list put together is the fold over its parts.
use Rattle.std.proofs.Common.{◌≡◌, ℕ, Bool, true, false, cond, List, [], ◌∷◌, ◌++◌, Option, refl, ap, ◌∙◌}
use Rattle.framing.specs.declared.slot.Slot.{Slot}
use Rattle.framing.specs.Fragments.{fragments}
use Rattle.channel.specs.Sending.{Sent, sent_frame, sent_mark, became}
use Rattle.runlaw.specs.Packets.{Piece, grouped, still_begun, is_clear, clear_only}
use Rattle.runlaw.specs.Writing.{stands_after_all, stands_after, Written}

-- the slots before what follows `s`, the nearest first
abbrev pub slots_before : List Slot → List Sent → List Slot
slots_before before [] = before
slots_before before (it ∷ s) = slots_before (became it ∷ before) s

pub begun_append : (b xs ys : List Piece) → still_begun b (xs ++ ys) ≡ still_begun (still_begun b xs) ys
begun_append b [] ys = refl
begun_append b (q ∷ xs) ys =
    elim q.ends as (λ e. cond e (still_begun [] (xs ++ ys)) (still_begun (b ++ (q ∷ [])) (xs ++ ys)) ≡ still_begun (cond e (still_begun [] xs) (still_begun (b ++ (q ∷ [])) xs)) ys) [
      | true ↦ begun_append [] xs ys
      | false ↦ begun_append (b ++ (q ∷ [])) xs ys
    ]

pub groups_append : (b xs ys : List Piece) → grouped b (xs ++ ys) ≡ grouped b xs ++ grouped (still_begun b xs) ys
groups_append b [] ys = refl
groups_append b (q ∷ xs) ys =
    let g = b ++ (q ∷ []) in
    elim q.ends as (λ e. cond e (g ∷ grouped [] (xs ++ ys)) (grouped g (xs ++ ys)) ≡ cond e (g ∷ grouped [] xs) (grouped g xs) ++ grouped (cond e (still_begun [] xs) (still_begun g xs)) ys) [
      | true ↦ ap (λ r. g ∷ r) (groups_append [] xs ys)
      | false ↦ groups_append g xs ys
    ]

pub kept_append : (a b : List (List Piece)) → clear_only (a ++ b) ≡ clear_only a ++ clear_only b
kept_append [] b = refl
kept_append (g ∷ a) b =
    let ih = kept_append a b in
    elim (is_clear g) as (λ e. cond e (g ∷ clear_only (a ++ b)) (clear_only (a ++ b)) ≡ cond e (g ∷ clear_only a) (clear_only a) ++ clear_only b) [
      | true ↦ ap (λ r. g ∷ r) ih
      | false ↦ ih
    ]

-- the clear packets among those that some pieces end, `b` being begun before
abbrev pub clear_from : List Piece → List Piece → List (List Piece)
clear_from b xs = clear_only (grouped b xs)

pub clear_append : (b xs ys : List Piece) → clear_from b (xs ++ ys) ≡ clear_from b xs ++ clear_from (still_begun b xs) ys
clear_append b xs ys = ap clear_only (groups_append b xs ys) ∙ kept_append (grouped b xs) (grouped (still_begun b xs) ys)

-- What a writer owes, and where it stands, from one call to the next.

pub stands_append : (at : Option ℕ) (s t : List Sent) → stands_after at (s ++ t) ≡ stands_after (stands_after at s) t
stands_append at [] t = refl
stands_append at (sent_frame f x ∷ s) t = stands_append (stands_after_all at (fragments f)) s t
stands_append at (sent_mark ∷ s) t = stands_append at s t

pub written_append : (fasb : Bool) (width : ℕ) (at : Option ℕ) (s t : List Sent)
    → Written fasb width at s → Written fasb width (stands_after at s) t → Written fasb width at (s ++ t)
written_append fasb width at [] t w v = v
written_append fasb width at (sent_frame f x ∷ s) t w v = (w.0, w.1, written_append fasb width (stands_after_all at (fragments f)) s t w.2 v)
written_append fasb width at (sent_mark ∷ s) t w v = (w.0, written_append fasb width at s t w.1 v)
