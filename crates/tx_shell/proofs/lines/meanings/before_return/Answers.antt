use Rattle.std.proofs.Common.{sym, ap, ◌∙◌}
use Rattle.tx_translate.specs.OwnLines.{without_return}
use Rattle.tx_shell.proofs.LineEnds.{before_end, without_end}
use Rattle.tx_shell.proofs.lines.meanings.before_return.Goals as goal

pub returns-in-Some : goal.returns-in-Some
returns-in-Some c = sym (ap without_return c.in-Some.ensures ∙ before_end c.in-Some.front.now)

pub returns-in-None : goal.returns-in-None
returns-in-None c = sym (without_end c.args.line.now c.in-None.ensures)
