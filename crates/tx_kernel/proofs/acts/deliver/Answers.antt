use Rattle.std.proofs.Common.{refl}
use Rattle.tx_kernel.proofs.Made.{made_at, of_delivery}
use Rattle.tx_kernel.proofs.PostedWhole.{made_whole}
use Rattle.tx_kernel.proofs.acts.deliver.Goals as goal
use Rattle.tx_model.specs.Deliveries.{delivery_page}

pub returns-clause-ok : goal.returns-clause-ok
returns-clause-ok c =
    made_at c.laws.ensures c.in_ok-at.field-0 c.args.parts.now c.args.pid c.args.inside (delivery_page c.args.signo.0) _ (of_delivery c.args.signo) c.args.log.now c.plan_delivery.new.log c.make_from.new.self c.len-from.result
    c.make_from.new.parts (record { outcome = c.in_ok-outcome.outcome; sends = c.plan_delivery.new.sends }) c.in_ok-at.ensures.ok c.in_ok-at.ensures.same c.len-from.ensures c.in_ok-outcome.ensures.ok c.make_from.ensures.parts c.make_from.ensures.log

pub returns-clause-whole : goal.returns-clause-whole
returns-clause-whole c =
    made_whole c.appended.ensures.sizes_back c.well_formed-2.ensures.kept c.well_formed-2.ensures.held c.args.parts.now c.args.pid c.args.inside _ c.args.log.now c.make_from.new.self
    c.make_from.new.parts (record { outcome = c.in_ok-outcome.outcome; sends = c.plan_delivery.new.sends }) c.requires refl (returns-clause-ok c)
