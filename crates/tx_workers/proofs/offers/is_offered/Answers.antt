use Rattle.std.proofs.Common.{◌≡◌, Bool, not, ◌&&◌, refl, sym, ◌∙◌, true, false, is_some}
use Rattle.std.specs.Option.{option_copied}
use Rattle.tx_model.specs.Deliveries.{delivered_value, is_deferred}
use Rattle.tx_model.specs.Membership.{inside_by}
use Rattle.tx_model.specs.State.{Process}
use Rattle.tx_proc.specs.Parts.{process_of}
use Rattle.tx_workers.specs.Offers.{is_passed_over}
use Rattle.tx_workers.proofs.offers.is_offered.Goals.{then-not-deliverable-via-then-not-deliverable, then-not-deliverable-via-else-not-deliverable+then-is_deferred}
use Rattle.tx_workers.proofs.offers.is_offered.Goals as goal

-- what is offered goes with what is so of the signal
together : (a a' b b' c c' : Bool) → a ≡ a' → b ≡ b' → c ≡ c' → a && (not b && not c) ≡ a' && (not b' && not c')
together a a' b b' c c' x y z = (λ j. x j && (not (y j) && not (z j)))

pub returns-then-not-deliverable : goal.returns-then-not-deliverable
returns-then-not-deliverable c t =
    let me : Process = process_of c.args.proc.now in
    let signo = c.args.signo.0 in
    let can : Bool = is_some (delivered_value signo me) in
    let defers : Bool = is_deferred (inside_by t (option_copied c.args.mark)) signo in
    let passed : Bool = is_passed_over me signo in
    elim c.then-not-deliverable.branch [
      | then-not-deliverable-via-then-not-deliverable w ↦ together false can defers defers passed passed (sym w.if-not-deliverable.true ∙ c.deliverable.ensures me) refl refl
      | then-not-deliverable-via-else-not-deliverable+then-is_deferred w ↦
          together true can true defers passed passed (sym w.if-not-deliverable.false ∙ c.deliverable.ensures me) (sym w.if-is_deferred.true ∙ w.is_deferred.ensures t) refl
    ]

pub returns : goal.returns
returns c t =
    let me : Process = process_of c.args.proc.now in
    let signo = c.args.signo.0 in
    together true (is_some (delivered_value signo me)) false (is_deferred (inside_by t (option_copied c.args.mark)) signo) c.is_passed_over.result (is_passed_over me signo)
    (sym c.if-not-deliverable.false ∙ c.deliverable.ensures me) (sym c.if-is_deferred.false ∙ c.is_deferred.ensures t) c.is_passed_over.ensures
