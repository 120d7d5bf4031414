use Rattle.std.proofs.Common.{◌≡◌, ℕ, Some, codes, decimal, refl, rules}
use Rattle.service.specs.Words.{access_words, reference_words}
use Rattle.spelling.proofs.Optionals.{optional_known}
use Rattle.service.proofs.words.SyncHeaderDisplay.fmt.Goals as goal
use Rattle.service.proofs.words.SyncHeaderDisplay.fmt.Goals.{then-self, else-self, then-self-2, else-self-2}

pub returns-clause-writes : goal.returns-clause-writes
returns-clause-writes g c =
    let header = c.args.self.now in
    let access : c.if-self.access.now ≡ access_words header.access_point =
    elim c.if-self.branch [ then-self w ↦ search rules | else-self w ↦ search rules ] in
    let reference : c.if-self-2.reference.now ≡ reference_words header.unreferenced =
    elim c.if-self-2.branch [ then-self-2 w ↦ search rules | else-self-2 w ↦ search rules ] in
    let frame = optional_known (λ (n : ℕ). Some (decimal n)) decimal (λ n. refl) (codes "frame ") header.frame_id (codes "no frame") in
    let time = optional_known (λ (n : ℕ). Some (decimal n)) decimal (λ n. refl) (codes "timestamp ") header.timestamp (codes "no timestamp") in
    rw (access, reference, frame, time) at c.write.ensures.writes
