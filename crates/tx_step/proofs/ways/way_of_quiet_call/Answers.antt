use Rattle.std.proofs.Common.{[], ℕ, Option, None, refl, option_map, subst, sym, ◌∙◌}
use Rattle.tx_base.specs.Slots.{slot_at}
use Rattle.tx_base.specs.declared.steps.Step.TheVariants.{Call as Calls}
use Rattle.tx_step.proofs.InWay.{lesser_none, starter_in_way_is}
use Rattle.tx_step.proofs.OwnWays.{quiet_event, quiet_last}
use Rattle.tx_step.proofs.WaysTold.{call_member, call_set, footprint_is}
use Rattle.tx_step.specs.InWay.{starter_in}
use Rattle.tx_content.specs.Content.{view_of}
use Rattle.tx_model.specs.View.{event_on}
use Rattle.tx_reserve.specs.Objects.{is_in}
use Rattle.tx_reserve.specs.Reservations.{IsLeast, number_of, owner_of, unless}
use Rattle.tx_step.proofs.ways.way_of_quiet_call.Goals as goal

pub returns-clause-footprint : goal.returns-clause-footprint
returns-clause-footprint c =
    let k = c.args.content.now in
    footprint_is c.way_laws.ensures k c.args.pid (Calls c.args.pid c.args.call.now) c.footprint_of_call.new.set c.requires.content c.requires.running c.requires.numbers c.requires.no_abort
    (call_set k c.args.pid c.actor_of-actor.result c.actor_of-actor.ensures c.way_laws.ensures c.requires.content c.requires.running c.args.role None
    (quiet_last k c.args.role c.requires.no_commit) c.footprint_of_call.new.set c.args.call.now c.requires.role c.footprint_of_call.ensures)

pub returns-clause-starter_in_way : goal.returns-clause-starter_in_way
returns-clause-starter_in_way c =
    let k = c.args.content.now in
    let set = c.footprint_of_call.new.set in
    let own = starter_in (slot_at k.marks c.args.pid.0) in
    let owner = option_map number_of c.conflict.result in
    sym (lesser_none owner)
    ∙ starter_in_way_is k c.requires.content.kept own set [] (event_on (view_of k) (Calls c.args.pid c.args.call.now)) (returns-clause-footprint c)
    (quiet_event k c.args.pid c.args.call.now c.args.role c.requires.quiet c.requires.running c.requires.no_commit c.requires.role)
    (call_member c.way_laws.ensures k c.args.pid c.args.call.now c.requires.no_abort)
    c.answers_of_faces.ensures.starter_in_way owner None
    (subst (λ (x : Option ℕ). IsLeast (is_in set) (λ o. unless x (owner_of k.owners o)) owner) c.starter_of.ensures c.conflict.ensures) refl
