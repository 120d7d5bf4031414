use Rattle.std.proofs.Common.{◌≡◌, ℕ, List, [], ◌∷◌, sym, subst, ap₂, lit≤}
use Rattle.checksum.specs.Stretch.{ChangedInOneStretch, bits}
use Rattle.checksum.proofs.Missed.{one_bit, fits_everything}
use Rattle.checksum.proofs.none.NoChecksum.undetected_pair.Goals as goal

pub returns : goal.returns
returns c =
    let pair : ◌≡◌ {A = List ℕ × List ℕ} (c.message.result, c.message-2.result) (0 ∷ [], 1 ∷ []) =
    ap₂ (λ (a b : List ℕ). (a, b)) c.message.ensures c.message-2.ensures
    in
    record {
      pair = pair;
      one_bit = subst (λ (p : List ℕ × List ℕ). ChangedInOneStretch 1 (bits p.0) (bits p.1)) (sym pair) (one_bit 1 (lit≤ tt) []);
      no_reach = fits_everything;
    }
