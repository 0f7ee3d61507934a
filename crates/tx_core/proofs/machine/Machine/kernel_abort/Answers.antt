use Rattle.tx_core.proofs.Steps.{kernel_along, kernel_err, kernel_ok}
use Rattle.tx_core.proofs.machine.Machine.kernel_abort.Goals.{in-Some, in-None+in-Inside-1, in-None+in-Aborted-1, in-None+in-Outside-1, in-None+in-Committed-1}
use Rattle.tx_core.proofs.machine.Machine.kernel_abort.Goals as goal

pub returns-clause-ok : goal.returns-clause-ok
returns-clause-ok c = elim c.match-take_kernel_abort.branch [
  | in-Some w ↦
      kernel_ok c.laws.ensures c.self.inside.content c.args.self.now c.take_kernel_abort.new.content c.self.view_is c.args.starter w.in-Some._status c.take_kernel_abort.new.inverse w.in-Some.ensures.made
      c.match-take_kernel_abort.result w.result-is
  | in-None+in-Inside-1 w ↦ kernel_err _ c.match-take_kernel_abort.result _ w.result-is
  | in-None+in-Aborted-1 w ↦ kernel_err _ c.match-take_kernel_abort.result _ w.result-is
  | in-None+in-Outside-1 w ↦ kernel_err _ c.match-take_kernel_abort.result _ w.result-is
  | in-None+in-Committed-1 w ↦ kernel_err _ c.match-take_kernel_abort.result _ w.result-is
]

pub returns-clause-history : goal.returns-clause-history
returns-clause-history c = elim c.match-take_kernel_abort.branch [
  | in-Some w ↦
      kernel_along c.laws.ensures c.self.inside.content c.args.self.now c.take_kernel_abort.new.content c.self.view_is c.args.starter w.in-Some._status c.take_kernel_abort.new.inverse w.in-Some.ensures.made
      c.match-take_kernel_abort.result w.result-is
  | in-None+in-Inside-1 w ↦ kernel_err _ c.match-take_kernel_abort.result _ w.result-is
  | in-None+in-Aborted-1 w ↦ kernel_err _ c.match-take_kernel_abort.result _ w.result-is
  | in-None+in-Outside-1 w ↦ kernel_err _ c.match-take_kernel_abort.result _ w.result-is
  | in-None+in-Committed-1 w ↦ kernel_err _ c.match-take_kernel_abort.result _ w.result-is
]
