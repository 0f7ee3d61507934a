use Rattle.std.proofs.Common.{◌≡◌, ℕ, ◌∷◌, ◌++◌, List, Some, arith, ap, sym, ◌∙◌}
use Rattle.std.proofs.lemmas.Option.{none-some}
use Rattle.std.specs.Fmt.{decimal}
use Rattle.tx_shell.proofs.TwoNumbers.{same_words, two_words, whole_of}
use Rattle.tx_shell.proofs.lines.pieces.read_pid_byte.Goals as goal

pub returns-in_err-first-clause-only : goal.returns-in_err-first-clause-only
returns-in_err-first-clause-only c pid byte small other spelled =
    absurd (none-some (decimal pid.0, decimal byte) (c.in_err-first.ensures ∙ two_words c.args.words.now pid.0 byte (omega (arith, small)) spelled))

pub returns-in_err-pid-clause-only : goal.returns-in_err-pid-clause-only
returns-in_err-pid-clause-only c pid byte small other spelled =
    absurd (none-some pid (c.in_err-pid.ensures.only pid small (same_words c.args.words.now c.in_ok-first.first.now c.in_ok-first.last.now pid.0 byte (omega (arith, small)) (sym c.in_ok-first.ensures) spelled).0))

pub returns-in_err-byte-clause-only : goal.returns-in_err-byte-clause-only
returns-in_err-byte-clause-only c pid byte small other spelled =
    absurd (none-some byte (c.in_err-byte.ensures.only byte other (same_words c.args.words.now c.in_ok-first.first.now c.in_ok-first.last.now pid.0 byte (omega (arith, small)) (sym c.in_ok-first.ensures) spelled).1))

pub returns-clause-found : goal.returns-clause-found
returns-clause-found c =
    whole_of c.args.words.now c.in_ok-first.first.now c.in_ok-first.last.now (sym c.in_ok-first.ensures)
    ∙ ap (λ (front : List ℕ). front ++ 32 ∷ c.in_ok-first.last.now) c.in_ok-pid.ensures.found
    ∙ ap (λ (back : List ℕ). decimal c.in_ok-pid.pid.0 ++ 32 ∷ back) c.in_ok-byte.ensures.found

pub returns-clause-only : goal.returns-clause-only
returns-clause-only c pid byte small other spelled =
    let words = same_words c.args.words.now c.in_ok-first.first.now c.in_ok-first.last.now pid.0 byte (omega (arith, small)) (sym c.in_ok-first.ensures) spelled in
    let one : Some c.in_ok-pid.pid ≡ Some pid = c.in_ok-pid.ensures.only pid small words.0 in
    let two : Some c.in_ok-byte.byte ≡ Some byte = c.in_ok-byte.ensures.only byte other words.1 in
    let first : c.in_ok-pid.pid ≡ pid = cc in
    let last : c.in_ok-byte.byte ≡ byte = cc in
    λ i. Some (first i, last i)
