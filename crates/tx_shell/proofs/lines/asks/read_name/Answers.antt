use Rattle.std.proofs.Common.{◌≡◌, ◌∙◌, ℕ, List, ◌∷◌, ◌++◌, true, false, ap, arith, codes, refl, sym}
use Rattle.std.proofs.lemmas.Option.{none-some}
use Rattle.std.specs.Fmt.{decimal}
use Rattle.tx_translate.specs.Names.{is_name}
use Rattle.tx_shell.proofs.NameAsks.{no_name}
use Rattle.tx_shell.proofs.TwoNumbers.{number_first, same_first, whole_of}
use Rattle.tx_shell.proofs.lines.asks.read_name.Goals as goal

pub returns-in_err-number-clause-none : goal.returns-in_err-number-clause-none
returns-in_err-number-clause-none c none =
    no_name c.args.version c.args.words.now
    (λ process name low high is spelled. none-some (decimal process, name) (c.in_err-number.ensures ∙ number_first c.args.words.now process name (omega (arith, high)) spelled))

pub returns-in_err-process-clause-none : goal.returns-in_err-process-clause-none
returns-in_err-process-clause-none c none =
    no_name c.args.version c.args.words.now
    (λ process name low high is spelled.
    c.in_err-process.ensures.none refl process low high
    (same_first c.args.words.now c.in_ok-number.number.now c.in_ok-number.name.now process name (omega (arith, high)) (sym c.in_ok-number.ensures) spelled).0)

pub returns-in_err-name-clause-none : goal.returns-in_err-name-clause-none
returns-in_err-name-clause-none c none =
    no_name c.args.version c.args.words.now
    (λ process name low high is spelled.
    let parts = same_first c.args.words.now c.in_ok-number.number.now c.in_ok-number.name.now process name (omega (arith, high)) (sym c.in_ok-number.ensures) spelled in
    let bad : true ≡ false = sym is ∙ ap is_name (sym parts.1) ∙ c.in_err-name.ensures in
    absurd (cc))

pub returns-clause-found : goal.returns-clause-found
returns-clause-found c =
    ap (λ (words : List ℕ). codes "name " ++ words)
    (whole_of c.args.words.now c.in_ok-number.number.now c.in_ok-number.name.now (sym c.in_ok-number.ensures)
    ∙ ap (λ (front : List ℕ). front ++ 32 ∷ c.in_ok-number.name.now) c.in_ok-process.ensures.found
    ∙ ap (λ (back : List ℕ). decimal c.in_ok-process.process.0 ++ 32 ∷ back) (sym c.in_ok-name.ensures.0))
