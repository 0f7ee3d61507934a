use Rattle.std.proofs.Common.{is_some, ap, ◌∙◌}
use Rattle.tx_signal.proofs.pending.Pending.deliverable.Goals as goal

pub returns : goal.returns
returns c = λ me. c.is_some.ensures ∙ ap is_some (c.delivered.ensures me)
