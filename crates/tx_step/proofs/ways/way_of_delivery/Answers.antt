use Rattle.std.proofs.Common.{refl}
use Rattle.std.specs.Option.{option_copied}
use Rattle.tx_base.specs.declared.steps.Step.TheVariants.{Deliver}
use Rattle.tx_step.proofs.WaysTold.{delivery_member, delivery_no_abort, delivery_posted, delivery_set, footprint_is}
use Rattle.tx_content.specs.Content.{view_of}
use Rattle.tx_model.specs.View.{event_on}
use Rattle.tx_step.proofs.ways.way_of_delivery.Goals as goal

pub returns-clause-footprint : goal.returns-clause-footprint
returns-clause-footprint c =
    let k = c.args.content.now in
    footprint_is c.way_laws.ensures k c.args.pid (Deliver c.args.pid c.args.signo) c.footprint_of_delivery.new.set c.requires.content c.requires.running refl
    (delivery_no_abort k c.args.pid c.args.signo)
    (delivery_set k c.args.pid c.actor_of-actor.result c.actor_of-actor.ensures c.way_laws.ensures c.requires.content c.requires.running c.args.role (option_copied c.last_by-last.result)
    c.last_by-last.ensures c.footprint_of_delivery.new.set c.args.signo c.requires.role c.footprint_of_delivery.ensures)

pub returns-clause-starter_in_way : goal.returns-clause-starter_in_way
returns-clause-starter_in_way c =
    let k = c.args.content.now in
    c.find_in_way.ensures (event_on (view_of k) (Deliver c.args.pid c.args.signo)) (returns-clause-footprint c)
    (delivery_posted k c.args.pid c.actor_of-actor.result c.actor_of-actor.ensures c.args.signo c.args.role c.sends_of_delivery-first.result c.requires.role c.sends_of_delivery-first.ensures)
    (delivery_member c.way_laws.ensures k c.args.pid c.args.signo (delivery_no_abort k c.args.pid c.args.signo))
