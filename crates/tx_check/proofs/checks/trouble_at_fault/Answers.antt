use Rattle.std.proofs.Common.{inr}
use Rattle.tx_check.proofs.checks.trouble_at_fault.Goals as goal

pub returns-in-None-clause-kind : goal.returns-in-None-clause-kind
returns-in-None-clause-kind c =
    let none = c.in-None.ensures in
    inr (record {
      may = record { short = none.short; room = none.room; ended = none.ended; right = none.right; once = none.once };
      linked = none.linked;
    })
