-- Laws of the padding at a superframe's end.
use Rattle.std.proofs.Common.{◌≡◌, ℕ, zero, suc, ◌+◌, ◌-◌, ◌<◌, List, [], ◌∷◌, ◌++◌, map, length, take, drop, replicate, sym, refl, ap, ◌∙◌, subst, ap₂, arith}
use Rattle.std.proofs.lemmas.List.{append-nil, append_assoc, map-append, length-append, drop-replicate, length-replicate, take_all}
use Rattle.framing.specs.declared.slot.Slot.{Slot}
use Rattle.channel.specs.Sending.{Put, a_frame, a_mark}
use Rattle.flow.specs.Cutting.{padded, paddings}
use Rattle.flow.specs.Sending.{Puts}
use Rattle.flow.specs.Writing.{State}
use Rattle.flow.proofs.Sends.{puts_join}

pub paddings_more : (k : ℕ) (begun : List ℕ) → 0 < k → paddings k begun ≡ padded begun ∷ paddings (k - 1) []
unfolding paddings
paddings_more zero begun some = absurd (omega arith)
paddings_more (suc k) begun some =
    let e : suc k - 1 ≡ k = omega arith in ap (λ (m : ℕ). padded begun ∷ paddings m []) (sym e)

pub paddings_none : (k : ℕ) (begun : List ℕ) → k ≡ 0 → paddings k begun ≡ []
unfolding paddings
paddings_none zero begun none = refl
paddings_none (suc k) begun none = absurd (omega arith)

-- as many as are left
pub paddings_count : (k : ℕ) (begun : List ℕ) → length (paddings k begun) ≡ k
unfolding paddings
paddings_count zero begun = refl
paddings_count (suc k) begun = ap suc (paddings_count k [])

-- the padding header behind what is begun, and zeros to the end of the frame
pub padded_is : (begun pushed : List ℕ) (header n : ℕ) → header ≡ 127 → pushed ≡ begun ++ header ∷ [] → n ≡ length pushed
    → pushed ++ take (122 - n) (drop n (replicate 122 0)) ≡ padded begun
padded_is begun pushed header n h p e =
    let long : n ≡ length begun + 1 = e ∙ ap length p ∙ length-append begun (header ∷ []) in
    ap₂ (λ (front zeros : List ℕ). front ++ zeros) (p ∙ ap (λ (b : ℕ). begun ++ b ∷ []) h)
    (ap (take (122 - n)) (drop-replicate n 122 0)
    ∙ take_all (122 - n) (replicate (122 - n) 0) (omega (arith, length-replicate {A = ℕ} (122 - n) 0))
    ∙ ap (λ (m : ℕ). replicate (122 - m) 0) long)
    ∙ append_assoc begun (127 ∷ []) (replicate (122 - (length begun + 1)) 0)

-- a superframe that is being filled with padding: the frames put so far, and those to come
pub record Padding
    {C : Type 0} (slots : C → List Slot) (space : C → ℕ) (made : List ℕ → Slot → Type 0) (tied : C → Type 0)
    (start at : State) (old new : C) : Type 0 where
  pub done : List (List ℕ)
  pub pads : paddings start.left start.begun ≡ done ++ paddings at.left at.begun
  pub over : at.over ≡ start.over
  pub puts : Puts slots space made tied (map a_frame done) old new

module _ {C : Type 0} {slots : C → List Slot} {space : C → ℕ} {made : List ℕ → Slot → Type 0} {tied : C → Type 0} where
  -- one frame more
  pub padding_more :
      {start at next : State} {old new new' : C} (frame : List ℕ)
      → Padding slots space made tied start at old new
      → 0 < at.left
      → frame ≡ padded at.begun
      → next ≡ record { opened = at.opened; left = at.left - 1; begun = []; over = at.over }
      → Puts slots space made tied (a_frame frame ∷ []) new new'
      → Padding slots space made tied start next old new'
  padding_more {start} {at} {next} {old} {new} {new'} frame p some is next-is puts =
      record {
        done = p.done ++ frame ∷ [];
        pads =
            p.pads
            ∙ ap
            (λ (fs : List (List ℕ)). p.done ++ fs)
            (paddings_more at.left at.begun some
            ∙ ap₂
            (λ (f : List ℕ) (s : State). f ∷ paddings s.left s.begun)
            (sym is)
            (sym next-is))
            ∙ sym (append_assoc p.done (frame ∷ []) (paddings next.left next.begun));
        over = ap (λ (s : State). s.over) next-is ∙ p.over;
        puts =
            subst (λ (ps : List Put). Puts slots space made tied ps old new') (sym (map-append a_frame p.done (frame ∷ [])))
            (puts_join slots space made tied (map a_frame p.done) (a_frame frame ∷ []) old new new' p.puts puts);
      }

  -- and the mark
  pub padding_ends :
      {start at : State} {old new new' : C}
      → Padding slots space made tied start at old new
      → at.left ≡ 0
      → Puts slots space made tied (a_mark ∷ []) new new'
      → Puts slots space made tied (map a_frame (paddings start.left start.begun) ++ a_mark ∷ []) old new'
  padding_ends {start} {at} {old} {new} {new'} p none puts =
      let all : p.done ≡ paddings start.left start.begun =
      sym (p.pads ∙ ap (λ (fs : List (List ℕ)). p.done ++ fs) (paddings_none at.left at.begun none) ∙ append-nil p.done) in
      subst
      (λ (fs : List (List ℕ)). Puts slots space made tied (map a_frame fs ++ a_mark ∷ []) old new')
      all
      (puts_join slots space made tied (map a_frame p.done) (a_mark ∷ []) old new new' p.puts puts)
