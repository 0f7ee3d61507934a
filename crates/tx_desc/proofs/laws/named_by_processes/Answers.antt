use Rattle.tx_desc.proofs.Running.{any_running, any_ended}
use Rattle.tx_desc.proofs.laws.named_by_processes.Goals as goal

pub returns-clause-running : goal.returns-clause-running
returns-clause-running c = any_running

pub returns-clause-ended : goal.returns-clause-ended
returns-clause-ended c = any_ended
