use Rattle.tx_kernel.proofs.SentBy.{quiet_call_is, silent_call}
use Rattle.tx_kernel.proofs.laws.quiet_calls_send_nothing.Goals as goal

pub returns : goal.returns
returns c = λ inside p called me S quiet. (silent_call c.own_calls.ensures inside p called me S (quiet_call_is called quiet)).sends
