use Rattle.std.proofs.Common.{ℕ, ◌∷◌, ◌++◌, List, ap, sym, ◌∙◌}
use Rattle.std.proofs.lemmas.Option.{none-some}
use Rattle.std.specs.Fmt.{decimal}
use Rattle.tx_shell.proofs.TwoNumbers.{same_words, two_words, whole_of}
use Rattle.tx_shell.proofs.lines.asks.two_numbers.Goals as goal

pub returns-in_err-first-clause-none : goal.returns-in_err-first-clause-none
returns-in_err-first-clause-none c none first last small other spelled =
    none-some (decimal first, decimal last) (c.in_err-first.ensures ∙ two_words c.args.numbers.now first last small spelled)

pub returns-in_err-first-2-clause-none : goal.returns-in_err-first-2-clause-none
returns-in_err-first-2-clause-none c none first last small other spelled =
    none-some first (c.in_err-first-2.ensures.only first small (same_words c.args.numbers.now c.in_ok-first.first.now c.in_ok-first.last.now first last small (sym c.in_ok-first.ensures) spelled).0)

pub returns-in_err-last-clause-none : goal.returns-in_err-last-clause-none
returns-in_err-last-clause-none c none first last small other spelled =
    none-some last (c.in_err-last.ensures.only last other (same_words c.args.numbers.now c.in_ok-first.first.now c.in_ok-first.last.now first last small (sym c.in_ok-first.ensures) spelled).1)

pub returns-clause-found : goal.returns-clause-found
returns-clause-found c =
    whole_of c.args.numbers.now c.in_ok-first.first.now c.in_ok-first.last.now (sym c.in_ok-first.ensures)
    ∙ ap (λ (front : List ℕ). front ++ 32 ∷ c.in_ok-first.last.now) c.in_ok-first-2.ensures.found
    ∙ ap (λ (back : List ℕ). decimal c.in_ok-first-2.first ++ 32 ∷ back) c.in_ok-last.ensures.found
