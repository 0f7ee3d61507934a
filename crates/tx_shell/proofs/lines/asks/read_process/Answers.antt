use Rattle.std.proofs.Common.{◌≡◌, Some, ap, arith}
use Rattle.std.proofs.lemmas.Option.{none-some}
use Rattle.tx_base.specs.declared.names.Pid.{Pid}
use Rattle.tx_shell.proofs.lines.asks.read_process.Goals.{then-process-lt1-via-then-process-lt1, then-process-lt1-via-else-process-lt1+then-process-gt256}
use Rattle.tx_shell.proofs.lines.asks.read_process.Goals as goal

pub returns-in_err-process-clause-none : goal.returns-in_err-process-clause-none
returns-in_err-process-clause-none c none process low high spelled =
    let pid : Pid = record { 0 = process } in
    none-some pid (c.in_err-process.ensures.only pid (omega (arith, high)) spelled)

pub returns-then-process-lt1-clause-none : goal.returns-then-process-lt1-clause-none
returns-then-process-lt1-clause-none c none process low high spelled =
    let pid : Pid = record { 0 = process } in
    let found : Some c.in_ok-process.process ≡ Some pid = c.in_ok-process.ensures.only pid (omega (arith, high)) spelled in
    let same : c.in_ok-process.process ≡ pid = cc in
    let number : c.in_ok-process.process.0 ≡ process = ap (λ (p : Pid). p.0) same in
    elim c.then-process-lt1.branch [
      | then-process-lt1-via-then-process-lt1 w ↦ absurd (omega (arith, w.if-process-lt1.true, number, low))
      | then-process-lt1-via-else-process-lt1+then-process-gt256 w ↦ absurd (omega (arith, w.if-process-gt256.true, number, high))
    ]
