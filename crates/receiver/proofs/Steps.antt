-- Going through the fragments of a frame, one after another.
use Rattle.std.proofs.Common.{◌≡◌, ℕ, ◌+◌, ◌≤◌, true, false, List, [], ◌++◌, map, length, Some, sym, refl, ap, ◌∙◌, arith}
use Rattle.std.proofs.lemmas.List.{drop_all, length-append}
use Rattle.framing.specs.Header.{headers_from}
use Rattle.framing.specs.Fragments.{Fragment, body, notional, padding, fragment_of, fragments_from}
use Rattle.receiver.specs.Accounting.{body_size}
use Rattle.receiver.specs.Reading.{Standing, aligned, gathering, seeking, dropped, after_one, completed}

-- 1. Over the rules.

-- A fragment that completes a packet leaves the reader aligned, and the packet is what was held and the body.
pub record Completes (r : Standing) (f : Fragment) (p : List ℕ) : Type 0 where
  pub turns : after_one r f ≡ aligned
  pub size : length p ≡ dropped r + body_size f

pub completing : (r : Standing) (f : Fragment) (p : List ℕ) → completed r f ≡ Some p → Completes r f p
completing aligned (body at b true) p e = let same : b ≡ p = cc in let long = ap length same in record { turns = refl; size = omega arith }
completing (gathering a) (body at b true) p e = let same : a ++ b ≡ p = cc in record { turns = refl; size = sym (ap length same) ∙ length-append a b }
completing aligned (body at b false) p e = cc
completing aligned (notional at) p e = cc
completing aligned (padding at) p e = cc
completing (gathering a) (body at b false) p e = cc
completing (gathering a) (notional at) p e = cc
completing (gathering a) (padding at) p e = cc
completing seeking (body at b l) p e = cc
completing seeking (notional at) p e = cc
completing seeking (padding at) p e = cc

-- 2. Over the code's reader.

pub nothing_past : (frame : List ℕ) (at : ℕ) → length frame ≤ at → fragments_from frame at ≡ []
nothing_past frame at past = ap (λ r. map fragment_of (headers_from (at + 1) 0 r)) (drop_all at frame past)
