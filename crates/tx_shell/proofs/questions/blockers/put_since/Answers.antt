use Rattle.std.proofs.Common.{◌≡◌, List, ◌++◌, ◌∙◌, ap, append_assoc, codes, option_map, string_bytes, subst, sym, ℕ}
use Rattle.std.proofs.lemmas.Result.{on_ok_weaker}
use Rattle.std.specs.Fmt.{decimal}
use Rattle.std.specs.Prelude.{OnOk}
use Rattle.tx_journal.specs.Since.{numbered}
use Rattle.tx_shell.specs.Names.{named, step_made_text}
use Rattle.tx_shell.specs.Reasons.{since_text}
use Rattle.tx_shell.proofs.questions.blockers.put_since.Goals as goal

pub returns-in_ok-write-in-Some : goal.returns-in_ok-write-in-Some
returns-in_ok-write-in-Some c =
    let before = string_bytes c.args.text.now in
    let touch = c.in-Some.touch in
    let step : List ℕ = step_made_text (named c.args.names) touch.step.now in
    subst (λ since. OnOk c.put_step_made.result (string_bytes c.put_step_made.new.text ≡ before ++ since_text (named c.args.names) (option_map numbered since))) (sym c.in-Some.is)
    (on_ok_weaker c.put_step_made.result
    (λ put.
    put
    ∙ ap (λ (t : List ℕ). t ++ step) c.in_ok-write-in-Some.ensures.bytes
    ∙ append_assoc before (codes " since step " ++ (decimal touch.number ++ codes ": ")) step
    ∙ ap (λ (t : List ℕ). before ++ (codes " since step " ++ t)) (append_assoc (decimal touch.number) (codes ": ") step)) c.put_step_made.ensures)
