use Rattle.std.specs.Option.{option_copied}
use Rattle.tx_base.specs.declared.steps.Step.TheVariants.{Call as Calls}
use Rattle.tx_step.proofs.WaysTold.{call_member, call_posted, call_set, footprint_is}
use Rattle.tx_content.specs.Content.{view_of}
use Rattle.tx_model.specs.View.{event_on}
use Rattle.tx_step.proofs.ways.way_of_others_call.Goals as goal

pub returns-clause-footprint : goal.returns-clause-footprint
returns-clause-footprint c =
    let k = c.args.content.now in
    footprint_is c.way_laws.ensures k c.args.pid (Calls c.args.pid c.args.call.now) c.footprint_of_call.new.set c.requires.content c.requires.running c.requires.numbers c.requires.no_abort
    (call_set k c.args.pid c.actor_of-actor.result c.actor_of-actor.ensures c.way_laws.ensures c.requires.content c.requires.running c.args.role (option_copied c.last_by-last.result)
    c.last_by-last.ensures c.footprint_of_call.new.set c.args.call.now c.requires.role c.footprint_of_call.ensures)

pub returns-clause-starter_in_way : goal.returns-clause-starter_in_way
returns-clause-starter_in_way c =
    let k = c.args.content.now in
    c.find_in_way.ensures (event_on (view_of k) (Calls c.args.pid c.args.call.now)) (returns-clause-footprint c)
    (call_posted k c.args.pid c.actor_of-actor.result c.actor_of-actor.ensures c.args.call.now c.args.role c.sends_of_call-first.result c.requires.role c.sends_of_call-first.ensures)
    (call_member c.way_laws.ensures k c.args.pid c.args.call.now c.requires.no_abort)
