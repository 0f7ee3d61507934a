use Rattle.tx_journal.proofs.retrace.Retrace.boot.Goals as goal

pub invariant_of-result : goal.invariant_of-result
invariant_of-result c =
    c.laws.ensures.content c.in_ok-content.content c.args.width c.args.count c.requires.low c.requires.high c.in_ok-content.ensures.shaped c.in_ok-content.ensures.kept c.in_ok-content.ensures.view
