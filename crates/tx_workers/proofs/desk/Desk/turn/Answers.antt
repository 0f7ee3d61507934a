use Rattle.std.proofs.Common.{ap, ◌∙◌}
use Rattle.tx_model.specs.Answer.{is_running}
use Rattle.tx_model.specs.View.{View, present}
use Rattle.tx_workers.proofs.Reached.{none_runs}
use Rattle.tx_workers.proofs.desk.Desk.turn.Goals as goal

pub next_process-requires-clause-top : goal.next_process-requires-clause-top
next_process-requires-clause-top g c = λ n over there.
    ap (λ (V : View). is_running ((present V).procs n)) c.machine-machine.ensures.view ∙ none_runs c.self.inside.top c.self.inside.session c.self.invariant.1 n over
