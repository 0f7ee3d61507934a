use Rattle.std.proofs.Common.{sym, ◌∙◌}
use Rattle.tx_step.proofs.RefusedSteps.{refused_early}
use Rattle.tx_step.proofs.steps.take_request.Goals as goal

pub returns-in-Some : goal.returns-in-Some
returns-in-Some c = refused_early c.laws.ensures c.args.content.now c.requires c.args.pid c.args.request c.in-Some.why (sym c.early_refusal.ensures ∙ c.in-Some.is) c.args.content.now (λ j. c.args.content.now)

pub take_alone-requires-clause-early : goal.take_alone-requires-clause-early
take_alone-requires-clause-early c = sym c.early_refusal.ensures ∙ c.in_default.is

pub take_beside-requires-clause-early : goal.take_beside-requires-clause-early
take_beside-requires-clause-early c = sym c.early_refusal.ensures ∙ c.in_default.is
