use Rattle.tx_step.specs.declared.roles.StepRole.TheVariants as role
use Rattle.tx_step.proofs.EndTaken.{end_is, live_is, refused, signals, taken, unowned}
use Rattle.tx_step.proofs.RefusedSteps.{of_process}
use Rattle.tx_step.proofs.Taken.{runs}
use Rattle.tx_step.specs.declared.answered.Answered.TheVariants.{Committed}
use Rattle.tx_step.proofs.ends.take_end.Goals as goal

pub commit-requires-clause-running : goal.commit-requires-clause-running
commit-requires-clause-running c = runs c.laws.ensures c.args.content.now c.requires.content c.args.pid c.args.request (role.Commits c.args.starter) c.requires.through

pub commit-requires-clause-live : goal.commit-requires-clause-live
commit-requires-clause-live c = live_is c.laws.ensures c.args.content.now c.requires.content c.args.pid c.args.starter c.args.request c.requires.through

pub commit-requires-clause-unowned : goal.commit-requires-clause-unowned
commit-requires-clause-unowned c =
    unowned c.laws.ensures c.args.content.now c.requires.content c.args.pid c.args.starter c.args.request c.requires.through c.act-act.result c.act-act.ensures

pub commit-requires-clause-end : goal.commit-requires-clause-end
commit-requires-clause-end c =
    end_is c.laws.ensures c.args.content.now c.requires.content c.args.pid c.args.starter c.args.request c.requires.through c.act-act.result c.act-act.ensures

pub commit-requires-clause-signals : goal.commit-requires-clause-signals
commit-requires-clause-signals c =
    signals c.laws.ensures c.args.content.now c.requires.content c.args.pid c.args.starter c.args.request c.requires.through c.act-act.result c.act-act.ensures

pub returns-in-Ok : goal.returns-in-Ok
returns-in-Ok c =
    of_process c.args.content.now c.args.pid c.args.request c.commit.new.self c.commit.new.inverse Committed
    (taken c.laws.ensures c.args.content.now c.requires.content c.args.pid c.args.starter c.args.request c.requires.through c.act-act.result c.act-act.ensures
    c.commit.new.self c.commit.new.inverse c.in-Ok.ensures.made c.in-Ok.ensures.answer)

pub returns-in-Err : goal.returns-in-Err
returns-in-Err c =
    refused c.laws.ensures c.args.content.now c.requires.content c.args.pid c.args.starter c.args.request c.requires.through c.act-act.result c.act-act.ensures
    c.commit.new.self c.in-Err.ensures.err
