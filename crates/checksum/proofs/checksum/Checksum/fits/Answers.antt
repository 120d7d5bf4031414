-- That a value does not fit after a change within one stretch is the interface's law.
use Rattle.std.proofs.Common.{◌≡◌, ℕ, Bool, true, false, List, take, Decides, sym, refl, ap, ◌∙◌}
use Rattle.std.proofs.lemmas.Slice.Eq.{slice_eq-Decides}
use Rattle.std.proofs.lemmas.Bool.Decides.{Decides-eqb}
use Rattle.checksum.proofs.checksum.Checksum.fits.Goals as goal

refuted : (r : Bool) → (r ≡ true → ⊥) → r ≡ false
refuted true f = absurd (f refl)
refuted false f = refl

pub returns-clause-detects : goal.returns-clause-detects
returns-clause-detects g c =
    let m : List ℕ = c.args.message.now in
    let v : List ℕ = c.args.received.now in
    let expected : List ℕ = take c.value_len-width.result c.value_of.result in
    let front : expected ≡ g.Self.Checksum.value m = ap (λ (n : ℕ). take n c.value_of.result) c.value_len-width.ensures ∙ c.value_of.ensures.front in
    let decides : Decides c.eq.result (expected ≡ v) = slice_eq-Decides Decides-eqb expected v c.eq.result c.eq.ensures in
    λ s u. refuted c.eq.result λ e. g.met.Self.Checksum.detects s m v u (sym front ∙ decides.0 e)
