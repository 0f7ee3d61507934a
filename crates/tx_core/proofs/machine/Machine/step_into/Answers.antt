use Rattle.std.proofs.Common.{subst, ◌∙◌}
use Rattle.tx_core.proofs.Steps.{step_along}
use Rattle.tx_model.specs.Answer.{IsAccepted}
use Rattle.tx_model.specs.Events.{process_of}
use Rattle.tx_step.specs.Steps.{replied}
use Rattle.tx_core.proofs.machine.Machine.step_into.Goals.{in-Ok, in-Err}
use Rattle.tx_core.proofs.machine.Machine.step_into.Goals as goal

pub returns-clause-history : goal.returns-clause-history
returns-clause-history c accepted start earlier lawful seen = elim c.match-take.branch [
  | in-Ok w ↦
      step_along c.laws.ensures c.args.self.now c.take.new.self c.args.step.now (replied c.take.new.self (process_of c.args.step.now) c.take.new.inverse w.in-Ok.answered) c.match-take.reply c.take.new.inverse
      w.in-Ok.ensures.takes
      (w.reply-is ∙ w.put_reply.ensures ∙ (λ j. replied (c.self.view_is j) (w.maker.ensures j) c.take.new.inverse w.in-Ok.answered))
      accepted start earlier lawful seen
  | in-Err w ↦ absurd (subst IsAccepted w.reply-is accepted)
]
