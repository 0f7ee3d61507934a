use Rattle.std.proofs.Common.{sym, ◌∙◌}
use Rattle.tx_journal.proofs.After.{not_refused, xabort_place}
use Rattle.tx_journal.proofs.making.record.Goals as goal

pub returns-then-is_err-clause-xabort : goal.returns-then-is_err-clause-xabort
returns-then-is_err-clause-xabort c xabort same =
    not_refused c.prepare.result (c.prepare.ensures.aborts (xabort_place c.args.machine.now c.args.step.now xabort)) (sym c.is_err.ensures.value ∙ c.if-is_err.true)
