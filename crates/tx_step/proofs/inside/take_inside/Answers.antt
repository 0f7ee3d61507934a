use Rattle.std.proofs.Common.{sym, subst}
use Rattle.tx_base.specs.Slots.{slot_at}
use Rattle.tx_step.specs.declared.roles.StepRole.TheVariants as role
use Rattle.tx_step.proofs.InsideTaken.{child_is, footprint_is, free, live_is, refused, taken, was_refused}
use Rattle.tx_content.specs.Made.{IsRunning}
use Rattle.tx_content.specs.declared.content.Content.{Content}
use Rattle.tx_step.proofs.RefusedSteps.{of_process}
use Rattle.tx_step.proofs.Taken.{runs}
use Rattle.tx_step.specs.declared.answered.Answered.TheVariants.{Acted}
use Rattle.tx_step.proofs.inside.take_inside.Goals as goal

pub make_inside-requires-clause-running : goal.make_inside-requires-clause-running
make_inside-requires-clause-running c =
    runs c.laws.ensures c.args.content.now c.requires.content c.args.member.pid c.args.request (role.Inside c.args.member.starter c.args.member.progress) c.requires.through

pub make_inside-requires-clause-live : goal.make_inside-requires-clause-live
make_inside-requires-clause-live c =
    live_is c.laws.ensures c.args.content.now c.requires.content c.args.member.pid c.args.member.starter c.args.member.progress c.args.request c.requires.through

pub make_inside-requires-clause-child : goal.make_inside-requires-clause-child
make_inside-requires-clause-child c =
    child_is c.laws.ensures c.args.content.now c.requires.content c.args.member.pid c.args.member.starter c.args.member.progress c.args.request c.requires.through

pub make_inside-requires-clause-footprint : goal.make_inside-requires-clause-footprint
make_inside-requires-clause-footprint c =
    footprint_is c.laws.ensures c.args.content.now c.requires.content c.args.member.pid c.args.member.starter c.args.member.progress c.args.request c.requires.through
    c.act-act.result c.act-act.ensures c.args.footprint.now c.requires.footprint

pub make_inside-requires-clause-free : goal.make_inside-requires-clause-free
make_inside-requires-clause-free c =
    free c.laws.ensures c.args.content.now c.requires.content c.args.member.pid c.args.member.starter c.args.member.progress c.args.request c.requires.through
    c.act-act.result c.act-act.ensures c.args.footprint.now c.requires.footprint

pub late_refusal-requires-clause-running : goal.late_refusal-requires-clause-running
late_refusal-requires-clause-running c =
    subst (λ (k : Content). IsRunning (slot_at k.parts.procs c.args.member.pid.0)) (sym c.in-Err.ensures.err)
    (runs c.laws.ensures c.args.content.now c.requires.content c.args.member.pid c.args.request (role.Inside c.args.member.starter c.args.member.progress) c.requires.through)

pub late_refusal-requires-clause-refused : goal.late_refusal-requires-clause-refused
late_refusal-requires-clause-refused c =
    was_refused c.laws.ensures c.args.content.now c.requires.content c.args.member.pid c.args.member.starter c.args.member.progress c.args.request c.requires.through c.act-act.result c.act-act.ensures
    c.make_inside.new.self c.in-Err.ensures.err c.in-Err.why c.in-Err.ensures.refused

pub returns-in-Ok : goal.returns-in-Ok
returns-in-Ok c =
    of_process c.args.content.now c.args.member.pid c.args.request c.make_inside.new.self c.make_inside.new.inverse (Acted c.in-Ok.outcome)
    (taken c.laws.ensures c.args.content.now c.requires.content c.args.member.pid c.args.member.starter c.args.member.progress c.args.request c.requires.through
    c.act-act.result c.act-act.ensures c.make_inside.new.self c.make_inside.new.inverse c.in-Ok.outcome c.in-Ok.ensures.made c.in-Ok.ensures.answer)

pub returns-in-Err : goal.returns-in-Err
returns-in-Err c =
    refused c.laws.ensures c.args.content.now c.requires.content c.args.member.pid c.args.member.starter c.args.member.progress c.args.request c.requires.through
    c.act-act.result c.act-act.ensures c.make_inside.new.self c.in-Err.ensures.err c.late_refusal.result c.late_refusal.ensures
