use Rattle.flow.proofs.Running.{writing_law}
use Rattle.flow.proofs.laws.cutting_stands.Goals as goal

pub returns : goal.returns
returns c = writing_law
