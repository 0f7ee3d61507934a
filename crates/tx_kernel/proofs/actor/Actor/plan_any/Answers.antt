use Rattle.std.proofs.Common.{◌≡◌, true, rules}
use Rattle.tx_kernel.proofs.StepPlans.{quiet_call}
use Rattle.tx_kernel.specs.Actors.{effect_by, names_by}
use Rattle.tx_kernel.specs.Calls.{sends_nothing}
use Rattle.tx_model.specs.Book.{page_of_call}
use Rattle.tx_kernel.proofs.actor.Actor.plan_any.Goals as goal

pub returns-in_default : goal.returns-in_default
returns-in_default c =
    let actor = c.args.self.now in
    let page = page_of_call c.args.call.now in
    let quiet : sends_nothing c.args.call.now ≡ true = search rules in
    record {
      ok = quiet_call c.plan_quiet.result actor c.args.log.now c.plan_quiet.new.log (effect_by actor page.outcome) (names_by actor page.names) (c.plan_quiet.ensures.ok quiet);
      refused = c.plan_quiet.ensures.refused;
      numbers = c.plan_quiet.ensures.numbers;
      log = c.plan_quiet.ensures.log;
    }
