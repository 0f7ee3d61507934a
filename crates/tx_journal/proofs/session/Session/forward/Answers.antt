use Rattle.std.proofs.Common.{◌+◌, arith, ap, ◌∙◌}
use Rattle.tx_journal.proofs.Moves.{forward_moved, kept_before_end, leads_on, went_forward}
use Rattle.tx_journal.specs.Sessions.{position_of, SessionState}
use Rattle.std.proofs.lemmas.Grind.{common_steps}
use Rattle.tx_journal.proofs.session.Session.forward.Goals as goal

pub forward-requires-clause-leads : goal.forward-requires-clause-leads
forward-requires-clause-leads c = leads_on c.self.inside.machine c.self.inside.journal c.self.inside.width c.self.inside.count c.self.invariant

pub invariant_of-self-2 : goal.invariant_of-self-2
invariant_of-self-2 c =
    went_forward c.self.inside.machine c.self.inside.journal c.self.inside.width c.self.inside.count c.self.invariant c.forward.result c.forward.new.machine c.forward.new.self
    (c.keeps_next.ensures.0 c.if-not-keeps_next.false) c.forward.ensures.forward c.forward.ensures.err c.forward.ensures.machine_err

pub invariant_of-self : goal.invariant_of-self
invariant_of-self c = grind (arith, common_steps, went_forward)

pub returns-clause-moved : goal.returns-clause-moved
returns-clause-moved c =
    forward_moved c.self.inside.machine c.self.inside.journal c.self.inside.width c.self.inside.count c.self.invariant c.forward.new.machine c.forward.new.self (c.keeps_next.ensures.0 c.if-not-keeps_next.false) c.in-Ok.ensures.forward
    ∙ ap (λ (k : SessionState). position_of k + 1) c.self.view_is

pub returns-clause-end : goal.returns-clause-end
returns-clause-end c = grind (arith, common_steps, kept_before_end)

pub returns-in_default-clause-end : goal.returns-in_default-clause-end
returns-in_default-clause-end c = grind (arith, common_steps, kept_before_end)
