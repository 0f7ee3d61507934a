use Rattle.std.proofs.Common.{rules}
use Rattle.std.proofs.lemmas.Fmt.{decimal_digit}
use Rattle.tx_expect.proofs.agreement.is_digit.Goals as goal

pub returns : goal.returns
returns c = rw (decimal_digit c.args.digit c.requires) (search rules)
