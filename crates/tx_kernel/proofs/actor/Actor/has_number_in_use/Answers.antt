use Rattle.std.proofs.Common.{ap, sym, ◌∙◌}
use Rattle.tx_base.specs.declared.steps.Call.{Call}
use Rattle.tx_change.specs.States.{state_of}
use Rattle.tx_model.specs.Answer.{is_choice_in_use}
use Rattle.tx_model.specs.Words.{chosen_in}
use Rattle.tx_kernel.proofs.actor.Actor.has_number_in_use.Goals as goal

pub returns-in-Pipe : goal.returns-in-Pipe
returns-in-Pipe c held =
    c.has_pipe_in_use.ensures held ∙ ap (λ (call : Call). is_choice_in_use (state_of held c.args.self.now.parts.now) (chosen_in call)) (sym c.in-Pipe.is)
