-- Why a script was not played to its end, in words.
use Rattle.std.specs.Prelude.{ℕ, List, codes}
use Rattle.play.specs.declared.playing.PlayFault.{PlayFault}
use Rattle.play.specs.declared.playing.PlayFault.TheVariants.{Memory, Output}

abbrev pub fault_words : PlayFault → List ℕ
fault_words Memory = codes "there is no memory to go on"
fault_words Output = codes "the output takes no more"
