use Rattle.std.proofs.Common.{◌≡◌, Bool, ◌&&◌, ap, sym, ◌∙◌, true, false}
use Rattle.tx_model.specs.Deliveries.{action_at}
use Rattle.tx_model.specs.Words.{is_full}
use Rattle.tx_model.specs.State.{Process}
use Rattle.tx_proc.specs.Parts.{process_of}
use Rattle.tx_workers.specs.Offers.{is_catch}
use Rattle.tx_workers.proofs.offers.is_passed_over.Goals as goal

pub returns-then-is_full : goal.returns-then-is_full
returns-then-is_full c =
    let me : Process = process_of c.args.proc.now in
    let full : is_full me ≡ true = sym (c.is_full.ensures me) ∙ c.if-is_full.true in
    c.is_catch.ensures ∙ ap is_catch (c.get.ensures me) ∙ ap (λ (b : Bool). b && is_catch (action_at c.args.signo.0 me)) (sym full)

pub returns-else-is_full : goal.returns-else-is_full
returns-else-is_full c =
    let me : Process = process_of c.args.proc.now in
    let full : is_full me ≡ false = sym (c.is_full.ensures me) ∙ c.if-is_full.false in
    c.if-is_full.false ∙ ap (λ (b : Bool). b && is_catch (action_at c.args.signo.0 me)) (sym full)
