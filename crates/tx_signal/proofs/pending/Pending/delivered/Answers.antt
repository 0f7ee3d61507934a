use Rattle.std.proofs.Common.{sym, ◌∙◌}
use Rattle.tx_signal.proofs.pending.Pending.delivered.Goals as goal

pub returns : goal.returns
returns c = λ me. rw (sym (c.is_blocked.ensures me) ∙ c.if-is_blocked.false) (c.value.ensures me)

pub returns-then-is_blocked : goal.returns-then-is_blocked
returns-then-is_blocked c = λ me. rw (sym (c.is_blocked.ensures me) ∙ c.if-is_blocked.true)
