use Rattle.std.proofs.Common.{List, Some, [], eq-eqb, refl, sym, ap, ◌∙◌, w64, of_z, to_z}
use Rattle.std.proofs.lemmas.Int.{to_z-of_z}
use Rattle.tx_step.proofs.TwoFaces.{answer_told, none_otherwise, post_otherwise, post_same}
use Rattle.tx_step.specs.Faces.{both_posted_to}
use Rattle.tx_step.specs.TwoAnswers.{answered_twice}
use Rattle.tx_kernel.specs.Plans.{sending_of}
use Rattle.tx_model.specs.State.{Sending}
use Rattle.tx_step.proofs.faces.Faces.answers.Goals as goal

pub returns-then-present-after_abort-clause-first : goal.returns-then-present-after_abort-clause-first
returns-then-present-after_abort-clause-first c = λ (ms : List Sending).
    let m = sending_of c.args.sending.now in
    post_same m.target m ms c.args.self.now c.number-present.result c.number-after_abort.result
    (eq-eqb m.target m.target refl)
    (c.number-present.ensures ∙ c.answer.ensures)
    (c.number-after_abort.ensures ∙ answer_told c.args.self.now.kept m c.answer-2.result c.answer-2.ensures)
    (sym (to_z-of_z w64 c.number-present.result (record { sfits = c.number-present.type_inv }))
    ∙ ap (to_z w64) c.if-present-after_abort.true
    ∙ to_z-of_z w64 c.number-after_abort.result (record { sfits = c.number-after_abort.type_inv }))

pub returns-clause-first : goal.returns-clause-first
returns-clause-first c = λ (ms : List Sending).
    let m = sending_of c.args.sending.now in
    post_otherwise m.target m ms c.args.self.now c.number-present.result c.number-after_abort.result
    (eq-eqb m.target m.target refl)
    (c.number-present.ensures ∙ c.answer.ensures)
    (c.number-after_abort.ensures ∙ answer_told c.args.self.now.kept m c.answer-2.result c.answer-2.ensures)
    (λ same. c.if-present-after_abort.false (ap (of_z w64) same))
    ∙ (λ j. Some (answered_twice m
    (sym (to_z-of_z w64 c.number-present.result (record { sfits = c.number-present.type_inv })) j)
    (sym (to_z-of_z w64 c.number-after_abort.result (record { sfits = c.number-after_abort.type_inv })) j)))

pub returns-then-present-after_abort-clause-alone : goal.returns-then-present-after_abort-clause-alone
returns-then-present-after_abort-clause-alone c =
    let m = sending_of c.args.sending.now in
    returns-then-present-after_abort-clause-first c [] ∙ none_otherwise m.target (both_posted_to m c.args.self.now)

pub returns-clause-alone : goal.returns-clause-alone
returns-clause-alone c = returns-clause-first c []
