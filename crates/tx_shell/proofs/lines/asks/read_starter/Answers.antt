use Rattle.std.proofs.lemmas.Option.{none-some}
use Rattle.tx_base.specs.declared.names.Pid.{Pid}
use Rattle.tx_shell.proofs.lines.asks.read_starter.Goals as goal

pub returns-in_err-starter-clause-none : goal.returns-in_err-starter-clause-none
returns-in_err-starter-clause-none c none starter small spelled =
    let pid : Pid = record { 0 = starter } in
    none-some pid (c.in_err-starter.ensures.only pid small spelled)
