use Rattle.std.proofs.Common.{◌≡◌, ◌∙◌, ℕ, Bool, List, Option, None, Some, ap, if◌then◌else◌, sym, true}
use Rattle.std.specs.Prelude.{is_some}
use Rattle.tx_json.specs.declared.holders.Holder.{Holder}
use Rattle.tx_model.specs.State.{ReadSide, WriteSide}
use Rattle.tx_model.specs.View.{present}
use Rattle.tx_shell.specs.Held.{HeldPipe}
use Rattle.tx_waits.specs.Holders.{holders}
use Rattle.tx_shell.specs.Places.{view_at}
use Rattle.tx_shell.proofs.questions.held.pipe_holders.Goals as goal

abbrev held_by : List Holder → List Holder → Option HeldPipe
held_by readers writers = Some (record { readers = readers; writers = writers })

pub returns : goal.returns
returns c =
    let S = present (view_at c.args.session.now) in
    let number = c.args.number.0 in
    let there : is_some (S.pipes number) ≡ true = sym c.has_pipe.ensures ∙ c.if-not-has_pipe.false in
    let readers : c.in_ok-holders_of.field-0.items ≡ holders S ReadSide number = c.in_ok-holders_of.ensures ∙ ap (λ (k : ℕ). holders S ReadSide k) c.from-number.ensures in
    let writers : c.in_ok-holders_of-2.field-0.items ≡ holders S WriteSide number = c.in_ok-holders_of-2.ensures ∙ ap (λ (k : ℕ). holders S WriteSide k) c.from-number.ensures in
    (λ i. held_by (readers i) (writers i)) ∙ ap (λ (b : Bool). if b then held_by (holders S ReadSide number) (holders S WriteSide number) else None) (sym there)
