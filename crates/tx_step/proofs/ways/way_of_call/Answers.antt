use Rattle.std.proofs.Common.{sym, ap, subst, ◌∙◌}
use Rattle.tx_base.specs.declared.steps.Step.TheVariants.{Call as Calls}
use Rattle.tx_step.proofs.AbortWays.{note_footprint, note_member, note_sends}
use Rattle.tx_step.proofs.OwnWays.{own_set, quiet_event}
use Rattle.tx_step.proofs.WaysTold.{aborted, call_member, footprint_is, not_abort}
use Rattle.tx_step.specs.InWay.{IsOfMember}
use Rattle.tx_step.specs.Roles.{role_as}
use Rattle.tx_content.specs.Content.{view_of}
use Rattle.tx_content.specs.Insides.{IsFootprint}
use Rattle.tx_model.specs.Events.{Event, Note}
use Rattle.tx_model.specs.Words.{called_by_status}
use Rattle.tx_model.specs.Numbers.{negative}
use Rattle.tx_model.specs.View.{event_on, starter_in_way, role_on}
use Rattle.tx_step.proofs.ways.way_of_call.Goals as goal

pub returns-in-Aborts-clause-footprint : goal.returns-in-Aborts-clause-footprint
returns-in-Aborts-clause-footprint c =
    let k = c.args.content.now in
    let told = aborted k c.args.pid c.args.call.now c.in-Aborts.starter c.requires.content (ap (role_as c.args.pid.0) (sym c.in-Aborts.is) ∙ c.requires.role) in
    subst (λ (E : Event). IsFootprint k E c.way_of_process.new.footprint) (sym told.1)
    (note_footprint k c.in-Aborts.starter.0 (negative called_by_status) c.way_of_process.new.footprint c.requires.content.shaped told.0 c.way_of_process.ensures.set)

pub returns-in-Aborts-clause-starter_in_way : goal.returns-in-Aborts-clause-starter_in_way
returns-in-Aborts-clause-starter_in_way c =
    let k = c.args.content.now in
    let s = c.in-Aborts.starter.0 in
    let r = negative called_by_status in
    let told = aborted k c.args.pid c.args.call.now c.in-Aborts.starter c.requires.content (ap (role_as c.args.pid.0) (sym c.in-Aborts.is) ∙ c.requires.role) in
    c.way_of_process.ensures.starter_in_way (Note s r)
    (note_footprint k s r c.way_of_process.new.footprint c.requires.content.shaped told.0 c.way_of_process.ensures.set)
    (note_sends k s r) (note_member k s r told.0)
    ∙ ap (starter_in_way (view_of k)) (sym told.1)

pub returns-in_default : goal.returns-in_default
returns-in_default c =
    let k = c.args.content.now in
    let step = Calls c.args.pid c.args.call.now in
    let no_abort = not_abort c.args.pid.0 c.args.role (role_on (view_of k) step) c.in_default.not-Aborts c.requires.role in
    let itself = c.concerns_itself.ensures c.if-concerns_itself.true in
    let named = footprint_is c.way_laws.ensures k c.args.pid step c.way_of_process-in_default.new.footprint c.requires.content c.requires.running c.requires.numbers no_abort
    (own_set k c.args.pid c.args.call.now c.way_of_process-in_default.new.footprint itself c.way_of_process-in_default.ensures.set) in
    record {
      footprint = named;
      starter_in_way = c.way_of_process-in_default.ensures.starter_in_way (event_on (view_of k) step) named
          (quiet_event k c.args.pid c.args.call.now c.args.role itself.sends c.requires.running c.in_default.not-Commits c.requires.role)
          (subst (λ own. IsOfMember k own (event_on (view_of k) step)) (sym c.starter_of.ensures) (call_member c.way_laws.ensures k c.args.pid c.args.call.now no_abort));
    }
