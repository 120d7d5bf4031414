use Rattle.std.proofs.Common.{◌≡◌, Some, arith}
use Rattle.std.proofs.lemmas.Grind.{common_steps}
use Rattle.reel.specs.Parts.{number}
use Rattle.reel.specs.Reel.{reading}
use Rattle.reel.proofs.Reels.{bytes_of}
use Rattle.console.proofs.Prefix.{before_fault}
use Rattle.console.proofs.verify.examine.Goals as goal

pub returns-in-Some : goal.returns-in-Some
returns-in-Some c =
    let reel = c.args.reel.now in
    let fault = c.in-Some.fault in
    let stop : (reading reel).stop ≡ Some (number fault.fault, fault.at) = grind (arith, common_steps) in
    (stop, before_fault reel _ _ c.survey-fault.result.contents (bytes_of reel c.type_inv.reel) stop c.survey-fault.ensures.counts)
