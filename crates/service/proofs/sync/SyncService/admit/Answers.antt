use Rattle.service.proofs.Respelled.{admits_exactly}
use Rattle.service.proofs.sync.SyncService.admit.Goals as goal

pub returns-clause-exact : goal.returns-clause-exact
returns-clause-exact c = admits_exactly c.args.packet.now (λ k _. (c.type_inv.packet k).fits) _ c.judge.ensures
