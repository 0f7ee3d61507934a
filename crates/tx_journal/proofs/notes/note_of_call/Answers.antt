use Rattle.tx_base.specs.declared.steps.Step.TheVariants.{Call as Calls}
use Rattle.tx_step.specs.Roles.{role_as}
use Rattle.tx_step.specs.Ways.{posted_with}
use Rattle.tx_journal.proofs.NotesTaken.{note_on}
use Rattle.tx_journal.proofs.notes.note_of_call.Goals as goal

pub returns : goal.returns
returns c =
    let k = c.args.content.now in
    note_on c.laws.ensures k (Calls c.args.pid c.args.call.now) c.note_by.result (role_as c.args.pid.0 c.role_of_call-role.result) c.looks_at_signals.result
    (posted_with k c.role_of_call-role.result c.sends_of_call-first.result) c.note_by.ensures c.role_of_call-role.ensures c.looks_at_signals.ensures
    (c.laws.ensures.call k c.args.pid c.actor_of.result c.actor_of.ensures c.args.call.now c.role_of_call-role.result c.sends_of_call-first.result c.role_of_call-role.ensures c.sends_of_call-first.ensures)
