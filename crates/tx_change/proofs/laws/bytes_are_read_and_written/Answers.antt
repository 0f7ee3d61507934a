use Rattle.tx_change.proofs.InLists.{front_is_read, back_is_write}
use Rattle.tx_change.proofs.laws.bytes_are_read_and_written.Goals as goal

pub returns-clause-front : goal.returns-clause-front
returns-clause-front c = front_is_read

pub returns-clause-back : goal.returns-clause-back
returns-clause-back c = back_is_write
