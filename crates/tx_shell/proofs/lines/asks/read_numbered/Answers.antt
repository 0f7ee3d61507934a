use Rattle.tx_shell.proofs.Numbers.{no_numbers}
use Rattle.tx_shell.proofs.lines.asks.read_numbered.Goals as goal

pub returns-in_err-number-clause-none : goal.returns-in_err-number-clause-none
returns-in_err-number-clause-none c none =
    no_numbers c.args.line.now c.in_default.ensures c.in_default-rest_after.ensures c.in_default-rest_after-2.ensures c.in_default-rest_after-3.ensures c.in_default-byte_after.ensures.only c.in_err-number.ensures.only
