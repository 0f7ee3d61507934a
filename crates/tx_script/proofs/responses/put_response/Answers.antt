use Rattle.std.proofs.Common.{◌≡◌, ◌++◌, ◌∙◌, OnOk, string_bytes, subst}
use Rattle.tx_model.specs.View.{View}
use Rattle.tx_script.proofs.StepsMade.{shown_at}
use Rattle.tx_state_text.specs.State.{state_text}
use Rattle.tx_script.proofs.responses.put_response.Goals as goal

pub returns-in-State : goal.returns-in-State
returns-in-State c =
    let printed : View → Type 0 = λ V. OnOk c.put_state.result (string_bytes c.put_state.new.text ≡ string_bytes c.args.text.now ++ state_text V) in
    rw c.in-State.is (subst printed (c.machine.ensures.view ∙ shown_at c.args.session.now) c.put_state.ensures)
