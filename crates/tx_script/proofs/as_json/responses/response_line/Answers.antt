use Rattle.std.proofs.Common.{◌∙◌, ℕ, IfOk, string_bytes, subst}
use Rattle.tx_journal.specs.Entries.{history_of}
use Rattle.tx_journal.specs.Sessions.{position_of, start_of}
use Rattle.tx_json.specs.Answers.{state_answer}
use Rattle.tx_json.specs.Line.{IsLineOf}
use Rattle.tx_model.specs.View.{View}
use Rattle.tx_script.proofs.StepsMade.{shown_at}
use Rattle.tx_script.specs.Debug.{view_at}
use Rattle.tx_script.proofs.as_json.responses.response_line.Goals as goal

pub returns-in-State : goal.returns-in-State
returns-in-State c =
    let k = c.args.session.now in
    let answered : ℕ → View → Type 0 = λ at V. IfOk c.state_answer.result (λ text. IsLineOf (state_answer at V) (string_bytes text)) in
    rw c.in-State.is (subst (λ (at : ℕ). answered at (view_at (start_of k) (history_of k.entries) (position_of k))) c.position.ensures.count
    (subst (answered c.position.result) (c.machine.ensures.view ∙ shown_at k) c.state_answer.ensures))
