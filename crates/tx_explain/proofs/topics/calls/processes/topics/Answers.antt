use Rattle.std.proofs.Common.{refl}
use Rattle.tx_explain.proofs.topics.calls.processes.topics.Goals as goal

pub returns-clause-formed : goal.returns-clause-formed
returns-clause-formed c = refl
