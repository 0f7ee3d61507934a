use Rattle.std.proofs.Common.{sym, subst}
use Rattle.tx_core.proofs.MadeAgain.{goes_with, machine_before, taken_back}
use Rattle.tx_core.specs.Undo.{LeadsBack}
use Rattle.tx_content.specs.Crossings.{HoldsBack}
use Rattle.tx_content.specs.declared.content.Content.{Content}
use Rattle.tx_core.proofs.machine.Machine.take_back.Goals as goal

pub take_back-requires-clause-fits : goal.take_back-requires-clause-fits
take_back-requires-clause-fits c =
    goes_with c.self.inside.content c.args.crossing.now (subst (λ (k : Content). HoldsBack c.args.crossing.now (LeadsBack k)) (sym c.self.view_is) c.requires.leads)

pub invariant_of-self : goal.invariant_of-self
invariant_of-self c =
    machine_before c.self.inside.content c.take_back.new.self c.args.crossing.now (subst (λ (k : Content). HoldsBack c.args.crossing.now (LeadsBack k)) (sym c.self.view_is) c.requires.leads) c.take_back.ensures.before

pub returns-clause-again : goal.returns-clause-again
returns-clause-again c =
    rw (← c.self.view_is) (taken_back c.self.inside.content c.take_back.new.self c.args.crossing.now c.take_back.new.crossing c.args.stack.now.items c.take_back.new.stack.items c.self.invariant
    (subst (λ (k : Content). HoldsBack c.args.crossing.now (LeadsBack k)) (sym c.self.view_is) c.requires.leads) c.take_back.ensures.before c.take_back.ensures.again)
