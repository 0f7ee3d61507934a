use Rattle.std.proofs.Common.{◌∙◌, sym}
use Rattle.tx_shell.proofs.NameBytes.{name_utf8}
use Rattle.tx_shell.proofs.lines.asks.read_name_word.Goals as goal

pub unreachable-requires : goal.unreachable-requires
unreachable-requires c = c.in-Err.ensures.cases.0 (name_utf8 c.args.word.now (sym c.is_name.ensures ∙ c.if-not-is_name.false))
