use Rattle.std.proofs.Common.{true, refl}
use Rattle.tx_base.specs.declared.steps.Step.TheVariants.{Deliver}
use Rattle.tx_step.specs.Roles.{role_as}
use Rattle.tx_step.specs.Ways.{posted_with}
use Rattle.tx_journal.proofs.NotesTaken.{note_on}
use Rattle.tx_journal.proofs.notes.note_of_delivery.Goals as goal

pub returns : goal.returns
returns c =
    let k = c.args.content.now in
    note_on c.laws.ensures k (Deliver c.args.pid c.args.signo) c.note_by.result (role_as c.args.pid.0 c.role_of_delivery-role.result) true
    (posted_with k c.role_of_delivery-role.result c.sends_of_delivery-first.result) c.note_by.ensures c.role_of_delivery-role.ensures refl
    (c.laws.ensures.delivery k c.args.pid c.actor_of.result c.actor_of.ensures c.args.signo c.role_of_delivery-role.result c.sends_of_delivery-first.result c.role_of_delivery-role.ensures c.sends_of_delivery-first.ensures)
