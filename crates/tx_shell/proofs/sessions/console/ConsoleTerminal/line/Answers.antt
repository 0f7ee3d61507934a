use Rattle.std.proofs.Common.{refl, rules, sym}
use Rattle.tx_shell.proofs.Consoles.{end_came, nothing_went}
use Rattle.tx_shell.proofs.sessions.console.ConsoleTerminal.line.Goals as goal

pub returns-then-is_empty-clause-end : goal.returns-then-is_empty-clause-end
returns-then-is_empty-clause-end g c =
    let takes = rw (c.if-is_ended.false, c.clear.ensures.items, c.prompt.ensures.reader, sym c.end_prompt.ensures.reader) at c.in-Ok.ensures.takes in
    λ is. record { logged = refl; came = end_came _ _ _ takes (search rules); went = nothing_went _ _ (search rules) }
