use Rattle.tx_step.proofs.RefusedSteps.{numbers_early, refused_busy, runs_early}
use Rattle.tx_step.proofs.Through.{let_through}
use Rattle.tx_step.specs.declared.roles.StepRole.TheVariants as role
use Rattle.std.proofs.Common.{sym}
use Rattle.tx_step.proofs.steps.take_beside.Goals as goal

pub role-role-requires-clause-running : goal.role-role-requires-clause-running
role-role-requires-clause-running c = runs_early c.laws.ensures c.args.content.now c.requires.content c.args.pid c.args.request (sym c.requires.early)

pub way-requires-clause-running : goal.way-requires-clause-running
way-requires-clause-running c = runs_early c.laws.ensures c.args.content.now c.requires.content c.args.pid c.args.request (sym c.requires.early)

pub way-requires-clause-numbers : goal.way-requires-clause-numbers
way-requires-clause-numbers c = numbers_early c.laws.ensures c.args.content.now c.requires.content c.args.pid c.args.request (sym c.requires.early)

pub take_outside-requires-clause-through : goal.take_outside-requires-clause-through
take_outside-requires-clause-through c = let_through c.args.content.now c.args.pid c.args.request c.role-role.result role.Outside c.way.result c.requires.early c.in_default.is c.way.ensures.starter_in_way c.role-role.ensures c.in-Outside.is

pub take_inside-requires-clause-through : goal.take_inside-requires-clause-through
take_inside-requires-clause-through c = let_through c.args.content.now c.args.pid c.args.request c.role-role.result (role.Inside c.in-Inside.starter c.in-Inside.progress) c.way.result c.requires.early c.in_default.is c.way.ensures.starter_in_way c.role-role.ensures c.in-Inside.is

pub take_end-requires-clause-through : goal.take_end-requires-clause-through
take_end-requires-clause-through c = let_through c.args.content.now c.args.pid c.args.request c.role-role.result (role.Commits c.in-Commits.starter) c.way.result c.requires.early c.in_default.is c.way.ensures.starter_in_way c.role-role.ensures c.in-Commits.is

pub take_begin-requires-clause-through : goal.take_begin-requires-clause-through
take_begin-requires-clause-through c = (c.args.request, let_through c.args.content.now c.args.pid c.args.request c.role-role.result (role.Begins c.in-Begins.defers) c.way.result c.requires.early c.in_default.is c.way.ensures.starter_in_way c.role-role.ensures c.in-Begins.is)

pub returns-in-Begins : goal.returns-in-Begins
returns-in-Begins c = c.take_begin.ensures c.args.request (let_through c.args.content.now c.args.pid c.args.request c.role-role.result (role.Begins c.in-Begins.defers) c.way.result c.requires.early c.in_default.is c.way.ensures.starter_in_way c.role-role.ensures c.in-Begins.is)

pub take_abort-requires-clause-through : goal.take_abort-requires-clause-through
take_abort-requires-clause-through c = (c.args.request, let_through c.args.content.now c.args.pid c.args.request c.role-role.result (role.Aborts c.in-Aborts.starter) c.way.result c.requires.early c.in_default.is c.way.ensures.starter_in_way c.role-role.ensures c.in-Aborts.is)

pub returns-in-Aborts : goal.returns-in-Aborts
returns-in-Aborts c = c.take_abort.ensures c.args.request (let_through c.args.content.now c.args.pid c.args.request c.role-role.result (role.Aborts c.in-Aborts.starter) c.way.result c.requires.early c.in_default.is c.way.ensures.starter_in_way c.role-role.ensures c.in-Aborts.is)

pub returns-in-Some : goal.returns-in-Some
returns-in-Some c =
    refused_busy c.laws.ensures c.args.content.now c.requires.content c.args.pid c.args.request (sym c.requires.early) c.way.result c.in-Some.starter
    c.in-Some.is c.way.ensures.starter_in_way c.args.content.now (λ j. c.args.content.now)
