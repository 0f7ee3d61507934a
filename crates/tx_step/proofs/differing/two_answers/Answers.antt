use Rattle.std.proofs.Common.{sym, ap, not, true, false, ◌∙◌}
use Rattle.tx_base.specs.declared.steps.Step.{Step}
use Rattle.tx_content.specs.Content.{view_of}
use Rattle.tx_step.proofs.StepAnswers.{dead_none, kernel_none, live_told}
use Rattle.tx_step.specs.TwoAnswers.{two_answers}
use Rattle.tx_step.proofs.differing.two_answers.Goals as goal

pub returns-then-is_none : goal.returns-then-is_none
returns-then-is_none c =
    sym (dead_none (view_of c.args.content.now) c.args.step.now c.args.starter.0
    (live_told c.args.content.now c.args.starter.0 c.get.result false c.requires.kept c.get.ensures (c.is_none.ensures ∙ ap not c.if-is_none.true)))

pub answers_of_request-requires-clause-live : goal.answers_of_request-requires-clause-live
answers_of_request-requires-clause-live c =
    live_told c.args.content.now c.args.starter.0 c.get.result true c.requires.kept c.get.ensures (c.is_none.ensures ∙ ap not c.if-is_none.false)

pub answers_of_request-requires-in-Deliver-clause-live : goal.answers_of_request-requires-in-Deliver-clause-live
answers_of_request-requires-in-Deliver-clause-live c =
    live_told c.args.content.now c.args.starter.0 c.get.result true c.requires.kept c.get.ensures (c.is_none.ensures ∙ ap not c.if-is_none.false)

pub returns-in-KernelAbort : goal.returns-in-KernelAbort
returns-in-KernelAbort c =
    sym (ap (λ (step : Step). two_answers (view_of c.args.content.now) step c.args.starter.0) c.in-KernelAbort.is ∙ kernel_none (view_of c.args.content.now) c.in-KernelAbort.field-0 c.args.starter.0)
