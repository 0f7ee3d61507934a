use Rattle.std.proofs.Common.{◌≡◌, ℕ, List, ◌∷◌, eqb-true, sym, ap, subst, ◌∙◌}
use Rattle.std.proofs.lemmas.Bool.{not-true, not-false}
use Rattle.std.specs.Option.{option_or}
use Rattle.tx_step.proofs.TwoFaces.{post_elsewhere}
use Rattle.tx_step.specs.Faces.{difference}
use Rattle.tx_step.specs.declared.faces.Faces.{Faces}
use Rattle.tx_kernel.specs.Plans.{sending_of}
use Rattle.tx_model.specs.State.{Sending}
use Rattle.tx_step.proofs.faces.Faces.post.Goals as goal

pub returns-then-ne : goal.returns-then-ne
returns-then-ne c = λ ms. post_elsewhere c.args.pid.0 (sending_of c.args.sending.now) ms c.args.self.now (not-true _ (sym c.ne.ensures ∙ c.if-ne.true))

pub returns : goal.returns
returns c = λ (ms : List Sending).
    let m = sending_of c.args.sending.now in
    let new : Faces = record { present = c.after_if.result; kept = c.after.result } in
    let it = eqb-true m.target c.args.pid.0 (not-false _ (sym c.ne.ensures ∙ c.if-ne.false)) in
    subst (λ (p : ℕ). difference p (m ∷ ms) c.args.self.now ≡ option_or c.answers-answers.result (difference p ms new)) it
    (c.answers-answers.ensures.first ms
    ∙ ap (λ (faces : Faces). option_or c.answers-answers.result (difference m.target ms faces)) (λ j. record { present = sym c.after_if.ensures j; kept = sym c.after.ensures j }))
