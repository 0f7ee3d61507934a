use Rattle.std.proofs.Common.{sym, append_assoc}
use Rattle.tx_lines.proofs.calls.put_other_call.Goals as goal

pub returns-in_ok-write-in-Sigprocmask : goal.returns-in_ok-write-in-Sigprocmask
returns-in_ok-write-in-Sigprocmask c = rw (c.in-Sigprocmask.is, sym c.way.ensures) (simp (c.in_ok-write-in-Sigprocmask.ensures.bytes, append_assoc) at c.put_set.ensures)

pub returns-in-ConsoleWrite : goal.returns-in-ConsoleWrite
returns-in-ConsoleWrite c = rw c.in-ConsoleWrite.is c.write-in-ConsoleWrite.ensures.bytes
