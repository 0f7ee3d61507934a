use Rattle.std.proofs.Common.{◌≡◌, true, false}
use Rattle.tx_core.proofs.Steps.{kernel_none, kernel_takes}
use Rattle.tx_core.proofs.machine.Machine.take.Goals.{in-Some, in-None}
use Rattle.tx_core.proofs.machine.Machine.take.Goals as goal

pub returns-after-take_kernel_abort-clause-takes : goal.returns-after-take_kernel_abort-clause-takes
returns-after-take_kernel_abort-clause-takes c = elim c.match-take_kernel_abort.branch [
  | in-Some w ↦
      kernel_takes c.self.inside.content c.args.self.now c.take_kernel_abort.new.content c.args.step.now c.in-KernelAbort.starter w.in-Some.status c.take_kernel_abort.new.inverse
      c.self.view_is c.in-KernelAbort.is w.in-Some.ensures.made c.match-take_kernel_abort.result w.result-is
  | in-None w ↦
      kernel_none c.self.inside.content c.args.self.now c.take_kernel_abort.new.content c.args.step.now c.in-KernelAbort.starter c.take_kernel_abort.new.inverse
      c.self.view_is c.in-KernelAbort.is w.in-None.ensures.none (λ live. let clash : false ≡ true = w.in-None.ensures.live.1 live in cc) c.match-take_kernel_abort.result w.result-is
]
