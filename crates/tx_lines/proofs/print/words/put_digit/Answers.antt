use Rattle.std.proofs.Common.{rules}
use Rattle.std.proofs.lemmas.Fmt.{decimal_digit}
use Rattle.tx_lines.proofs.print.words.put_digit.Goals as goal

pub returns : goal.returns
returns c = rw (decimal_digit c.args.digit c.requires) (search rules)
