-- Puts in a row, and a cutting on its way.
use Rattle.std.proofs.Common.{◌≡◌, ℕ, List, [], ◌∷◌, ◌++◌, map, Result, sym, ap, ◌∙◌, subst, arith}
use Rattle.std.proofs.lemmas.List.{append-nil, append_assoc, map-append, length-append}
use Rattle.framing.specs.declared.slot.Slot.{Slot}
use Rattle.channel.specs.declared.channel.Full.{Full}
use Rattle.channel.specs.Answers.{PutAnswer}
use Rattle.channel.specs.Sending.{Put, a_frame}
use Rattle.channel.proofs.Sends.{went_join, went_put}
use Rattle.flow.specs.Cutting.{Cut, cut, behind, uncutted}
use Rattle.flow.specs.Sending.{Puts}
use Rattle.flow.specs.Writing.{State, Cutted}

module _ {C : Type 0} (slots : C → List Slot) (space : C → ℕ) (made : List ℕ → Slot → Type 0) (tied : C → Type 0) where
  pub puts_one : (p : Put) (r : Result (Unit {0}) Full) (old new : C) → PutAnswer slots space made tied p r old new → Puts slots space made tied (p ∷ []) old new
  puts_one p r old new put safe room = (went_put r (space old) put.asked (omega arith) (put.joins safe), put.keeps safe)

  pub puts_join : (p q : List Put) (a b c : C) → Puts slots space made tied p a b → Puts slots space made tied q b c → Puts slots space made tied (p ++ q) a c
  puts_join p q a b c first then safe room =
      let both = length-append p q in
      let went = first safe (omega arith) in
      let fell = went.0.fell in
      let more = then went.1 (omega arith) in
      (went_join went.0 more.0, more.1)

-- what is put so far, and the rest that is to be cut
pub record Underway
    {C : Type 0} (slots : C → List Slot) (space : C → ℕ) (made : List ℕ → Slot → Type 0) (tied : C → Type 0)
    (whole : Cut) (start at : State) (rest : List ℕ) (old new : C) : Type 0 where
  pub done : List (List ℕ)
  pub cuts : whole ≡ behind done (cut at.left at.begun rest)
  pub opened : at.opened ≡ start.opened
  pub puts : Puts slots space made tied (map a_frame done) old new

behind_join : (fs gs : List (List ℕ)) (c : Cut) → behind fs (behind gs c) ≡ behind (fs ++ gs) c
behind_join fs gs c =
    ap
    (λ (all : List (List ℕ)). record { full = all; unfinished = c.unfinished; left = c.left; over = c.over })
    (sym (append_assoc fs gs c.full))

module _ {C : Type 0} {slots : C → List Slot} {space : C → ℕ} {made : List ℕ → Slot → Type 0} {tied : C → Type 0} where
  -- one step more: `fs` are the frames that it filled, and `later` is then still to be cut
  pub underway_more :
      {whole : Cut} {start at next : State} {rest later : List ℕ} {old new new' : C} (fs : List (List ℕ))
      → Underway slots space made tied whole start at rest old new
      → cut at.left at.begun rest ≡ behind fs (cut next.left next.begun later)
      → next.opened ≡ at.opened
      → Puts slots space made tied (map a_frame fs) new new'
      → Underway slots space made tied whole start next later old new'
  underway_more {whole} {start} {at} {next} {rest} {later} {old} {new} {new'} fs u cuts same puts =
      record {
        done = u.done ++ fs;
        cuts = u.cuts ∙ ap (behind u.done) cuts ∙ behind_join u.done fs (cut next.left next.begun later);
        opened = same ∙ u.opened;
        puts =
            subst (λ (ps : List Put). Puts slots space made tied ps old new') (sym (map-append a_frame u.done fs))
            (puts_join slots space made tied (map a_frame u.done) (map a_frame fs) old new new' u.puts puts);
      }

  -- the end, where nothing more can be cut
  pub underway_ends :
      {whole : Cut} {start at : State} {rest : List ℕ} {old new : C}
      → Underway slots space made tied whole start at rest old new
      → cut at.left at.begun rest ≡ uncutted at.left at.begun rest
      → Cutted whole start at rest × Puts slots space made tied (map a_frame whole.full) old new
  underway_ends {whole} {start} {at} {rest} {old} {new} u ends =
      let is = u.cuts ∙ ap (behind u.done) ends in
      let full : u.done ≡ whole.full = sym (ap (λ (c : Cut). c.full) is ∙ append-nil u.done) in (
        record {
          unfinished = sym (ap (λ (c : Cut). c.unfinished) is);
          left = sym (ap (λ (c : Cut). c.left) is);
          rest_is = sym (ap (λ (c : Cut). c.over) is);
          opened = u.opened;
        },
        subst (λ (fs : List (List ℕ)). Puts slots space made tied (map a_frame fs) old new) full u.puts,
      )
