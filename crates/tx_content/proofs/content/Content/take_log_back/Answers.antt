use Rattle.std.proofs.Common.{None, refl}
use Rattle.tx_content.proofs.OutsideAgain.{outside_again}
use Rattle.tx_content.proofs.content.Content.take_log_back.Goals as goal

pub returns-clause-again : goal.returns-clause-again
returns-clause-again c = λ before stack.
    outside_again c.laws.ensures c.args.self.now c.args.log.now c.lead_back.new.self None None c.args.self.now.txns stack c.requires
    c.lead_back.ensures.log refl refl refl before
