use Rattle.std.proofs.Common.{ap, length, sym, ◌∙◌}
use Rattle.tx_base.specs.declared.steps.Call.{Call}
use Rattle.tx_model.specs.Answer.{is_bad_choice}
use Rattle.tx_model.specs.Words.{chosen_in}
use Rattle.tx_kernel.proofs.actor.Actor.has_bad_number.Goals as goal

pub returns-in-Pipe : goal.returns-in-Pipe
returns-in-Pipe c =
    let width = length c.args.self.now.parts.now.procs in
    c.is_bad_pipe.ensures width ∙ ap (λ (call : Call). is_bad_choice width (chosen_in call)) (sym c.in-Pipe.is)
