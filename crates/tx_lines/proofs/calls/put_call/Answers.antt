use Rattle.tx_lines.proofs.calls.put_call.Goals as goal

pub returns-in-SysXbegin : goal.returns-in-SysXbegin
returns-in-SysXbegin c = rw c.in-SysXbegin.is c.put-in-SysXbegin.ensures

pub returns-in-SysXbeginDefer : goal.returns-in-SysXbeginDefer
returns-in-SysXbeginDefer c = rw c.in-SysXbeginDefer.is c.put-in-SysXbeginDefer.ensures

pub returns-in-SysXabort : goal.returns-in-SysXabort
returns-in-SysXabort c = rw c.in-SysXabort.is c.put-in-SysXabort.ensures
