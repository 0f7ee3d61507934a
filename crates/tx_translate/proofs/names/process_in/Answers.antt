use Rattle.std.proofs.Common.{rules, ◌≡◌, ◌≢◌, ◌∙◌, ◌≤◌, ◌<◌, ◌^◌, ℕ, List, Some, None, option_map, ap, sym, arith}
use Rattle.std.proofs.lemmas.Bool.Decides.{nat_tests}
use Rattle.std.specs.Fmt.{decimal}
use Rattle.tx_translate.proofs.NamingWords.{process_found, process_none, process_out}
use Rattle.tx_translate.proofs.names.process_in.Goals as goal
use Rattle.tx_translate.proofs.names.process_in.Goals.{then-process-eq0-via-then-process-eq0, then-process-eq0-via-else-process-eq0+then-process-gt256}

pub returns-in_err-process : goal.returns-in_err-process
returns-in_err-process c =
    let none = process_none c.args.word.now (λ m some inside same.
    let read = c.read_pid.ensures.only (record { 0 = m }) (omega (arith, inside)) same in
    absurd (search rules)) in
    search rules

pub returns-then-process-eq0 : goal.returns-then-process-eq0
returns-then-process-eq0 c =
    let n = c.in_ok-process.process.0 in
    let is = c.in_ok-process.ensures.found in
    let small : n < 2 ^ 64 = omega (arith, c.in_ok-process.ensures.fits) in
    elim c.then-process-eq0.branch [
      | then-process-eq0-via-then-process-eq0 w ↦ sym (process_out c.args.word.now n is small (λ m some inside same. omega (arith, some, same, w.if-process-eq0)))
      | then-process-eq0-via-else-process-eq0+then-process-gt256 w ↦ sym (process_out c.args.word.now n is small (λ m some inside same. omega (arith, inside, same, w.if-process-gt256)))
    ]

pub returns : goal.returns
returns c =
    let n = c.in_ok-process.process.0 in
    sym (process_found c.args.word.now n c.in_ok-process.ensures.found (search rules) (search rules))
