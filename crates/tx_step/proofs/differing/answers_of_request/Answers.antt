use Rattle.std.proofs.Common.{sym, ap, ◌∙◌}
use Rattle.tx_base.specs.Slots.{slot_at}
use Rattle.tx_content.specs.Content.{view_of}
use Rattle.tx_model.specs.View.{event_on, role_on}
use Rattle.tx_step.proofs.StepAnswers.{abort_none, answers_made, idle_none, live_marked, not_named, runs_seen}
use Rattle.tx_step.proofs.Taken.{running_in}
use Rattle.tx_step.proofs.WaysTold.{not_abort}
use Rattle.tx_step.specs.Requests.{step_of}
use Rattle.tx_step.specs.Roles.{role_as}
use Rattle.tx_step.proofs.differing.answers_of_request.Goals as goal

pub returns-then-not-is_running : goal.returns-then-not-is_running
returns-then-not-is_running c =
    let k = c.args.content.now in
    sym (idle_none (view_of k) (step_of c.args.pid c.args.request) c.args.starter.0 c.requires.live c.requires.unnamed
    (runs_seen k c.args.pid c.args.request c.laws.ensures.present ∙ sym c.is_running.ensures.told ∙ c.if-not-is_running.true))

pub returns-in-Aborts : goal.returns-in-Aborts
returns-in-Aborts c =
    let k = c.args.content.now in
    sym (answers_made (view_of k) (step_of c.args.pid c.args.request) c.args.starter.0 c.requires.live c.requires.unnamed
    (runs_seen k c.args.pid c.args.request c.laws.ensures.present ∙ sym c.is_running.ensures.told ∙ c.if-not-is_running.false)
    ∙ abort_none k c.args.pid c.args.request c.args.starter.0 c.in-Aborts.field-0 c.requires.content (ap (role_as c.args.pid.0) (sym c.in-Aborts.is) ∙ c.role-role.ensures))

pub posted_difference-requires : goal.posted_difference-requires
posted_difference-requires c = record { content = c.requires.content; live = live_marked c.args.content.now c.args.starter.0 c.requires.live }

pub returns : goal.returns
returns c =
    let k = c.args.content.now in
    let step = step_of c.args.pid c.args.request in
    let run = sym c.is_running.ensures.told ∙ c.if-not-is_running.false in
    let no_abort = not_abort c.args.pid.0 c.role-role.result (role_on (view_of k) step) c.in_default.not-Aborts c.role-role.ensures in
    c.posted_difference.ensures (event_on (view_of k) step) c.sends-first.ensures
    (not_named k c.args.pid c.args.request c.args.starter.0 c.laws.ensures.of_event c.laws.ensures.present (running_in (slot_at k.parts.procs c.args.pid.0) run) no_abort c.requires.unnamed)
    ∙ sym (answers_made (view_of k) step c.args.starter.0 c.requires.live c.requires.unnamed (runs_seen k c.args.pid c.args.request c.laws.ensures.present ∙ run))
