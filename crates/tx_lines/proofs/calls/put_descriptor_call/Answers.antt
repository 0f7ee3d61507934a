use Rattle.std.proofs.Common.{sym}
use Rattle.tx_lines.proofs.calls.put_descriptor_call.Goals as goal

pub returns-in-SetNonblock : goal.returns-in-SetNonblock
returns-in-SetNonblock c = rw (c.in-SetNonblock.is, sym c.switch.ensures) c.write-in-SetNonblock.ensures.bytes
