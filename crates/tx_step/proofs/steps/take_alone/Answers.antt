use Rattle.std.proofs.Common.{◌∙◌, ap, sym}
use Rattle.tx_model.specs.View.{event_on}
use Rattle.tx_content.specs.Content.{view_of}
use Rattle.tx_step.proofs.Idle.{idle_clear}
use Rattle.tx_step.proofs.RefusedSteps.{runs_early}
use Rattle.tx_step.specs.Requests.{step_of}
use Rattle.tx_step.specs.Roles.{role_alone, role_as}
use Rattle.tx_step.proofs.steps.take_alone.Goals as goal

pub beginning-requires-clause-running : goal.beginning-requires-clause-running
beginning-requires-clause-running c = runs_early c.laws.ensures c.args.content.now c.requires.content c.args.pid c.args.request (sym c.requires.early)

pub take_begin-requires-clause-through : goal.take_begin-requires-clause-through
take_begin-requires-clause-through c = (
  c.args.request,
  record {
    early = c.requires.early;
    clear = idle_clear c.args.content.now c.requires.content c.requires.idle (event_on (view_of c.args.content.now) (step_of c.args.pid c.args.request));
    is = ap (λ begins. role_as c.args.pid.0 (role_alone begins)) (sym c.in-Transaction.is) ∙ c.beginning.ensures;
  },
)

pub take_outside-requires-clause-through : goal.take_outside-requires-clause-through
take_outside-requires-clause-through c = record {
  early = c.requires.early;
  clear = idle_clear c.args.content.now c.requires.content c.requires.idle (event_on (view_of c.args.content.now) (step_of c.args.pid c.args.request));
  is = ap (λ begins. role_as c.args.pid.0 (role_alone begins)) (sym c.in-Nothing.is) ∙ c.beginning.ensures;
}

pub returns-in-Transaction : goal.returns-in-Transaction
returns-in-Transaction c = c.take_begin.ensures c.args.request (record {
  early = c.requires.early;
  clear = idle_clear c.args.content.now c.requires.content c.requires.idle (event_on (view_of c.args.content.now) (step_of c.args.pid c.args.request));
  is = ap (λ begins. role_as c.args.pid.0 (role_alone begins)) (sym c.in-Transaction.is) ∙ c.beginning.ensures;
})
