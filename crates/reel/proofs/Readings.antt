-- Laws of reading a reel block by block.
use Rattle.std.proofs.Common.{◌≡◌, ℕ, zero, suc, ◌+◌, ◌-◌, ◌<◌, ◌≤◌, List, [], ◌∷◌, length, drop, Some, None, Option, sym, refl, ap, ◌∙◌, ap₂, arith}
use Rattle.reel.specs.Block.{block_size, superframe, refusal}
use Rattle.reel.specs.Reel.{ended, stopped, before, onward, reading_from}
use Rattle.reel.proofs.Questions.{lawful, within}

pub reading_none : (place : ℕ) (bytes : List ℕ) → length bytes ≡ 0 → reading_from 0 place bytes ≡ ended
unfolding reading_from
reading_none place [] none = refl
reading_none place (b ∷ bytes) none = absurd (omega arith)

-- the bytes passed over play no part
passing : (over place : ℕ) (bytes : List ℕ) → over ≤ length bytes
    → reading_from over place bytes ≡ reading_from 0 (place + over) (drop over bytes)
unfolding reading_from
passing zero place bytes fits = let e : place + 0 ≡ place = omega arith in ap (λ (p : ℕ). reading_from 0 p bytes) (sym e)
passing (suc over) place [] fits = absurd (omega arith)
passing (suc over) place (b ∷ bytes) fits =
    let e : place + 1 + over ≡ place + suc over = omega arith in
    passing over (place + 1) bytes (omega arith) ∙ ap (λ (p : ℕ). reading_from 0 p (drop over bytes)) e

-- a lawful block, and then what is read behind it
pub reading_block : (place : ℕ) (bytes : List ℕ) → 0 < length bytes → refusal bytes ≡ None
    → reading_from 0 place bytes ≡ before (superframe bytes) (reading_from 0 (place + block_size bytes) (drop (block_size bytes) bytes))
unfolding reading_from
reading_block place [] some yes' = absurd (omega arith)
reading_block place (b ∷ bytes) some yes' =
    let whole = b ∷ bytes in
    let fits = (within whole (lawful whole yes')).whole in
    let far : place + 1 + (block_size whole - 1) ≡ place + block_size whole = omega arith in
    let one : suc (block_size whole - 1) ≡ block_size whole = omega arith in
    ap (λ (r : Option ℕ). onward r place (superframe whole) (reading_from (block_size whole - 1) (place + 1) bytes)) yes'
    ∙ ap (before (superframe whole)) (passing (block_size whole - 1) (place + 1) bytes (omega arith)
    ∙ ap₂ (λ (p n : ℕ). reading_from 0 p (drop n whole)) far one)

-- an unlawful block
pub reading_stops : (place number : ℕ) (bytes : List ℕ) → 0 < length bytes → refusal bytes ≡ Some number
    → reading_from 0 place bytes ≡ stopped number place
unfolding reading_from
reading_stops place number [] some no' = absurd (omega arith)
reading_stops place number (b ∷ bytes) some no' =
    let whole = b ∷ bytes in
    ap (λ (r : Option ℕ). onward r place (superframe whole) (reading_from (block_size whole - 1) (place + 1) bytes)) no'
