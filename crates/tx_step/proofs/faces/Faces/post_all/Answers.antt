use Rattle.std.proofs.Common.{◌++◌, ◌+◌, ◌∙◌, List, Option, ap, drop, get_or, map, sym}
use Rattle.std.specs.Option.{option_or}
use Rattle.tx_kernel.specs.Plans.{sending_of}
use Rattle.tx_model.specs.State.{Sending}
use Rattle.tx_step.proofs.TwoFaces.{difference_next, none_is, post_elsewhere, sends_end}
use Rattle.tx_step.specs.Faces.{difference}
use Rattle.tx_step.specs.declared.differing.TwoAnswers.{TwoAnswers}
use Rattle.tx_step.proofs.faces.Faces.post_all.Goals.{then-eq+else-is_some, else-eq}
use Rattle.tx_step.proofs.faces.Faces.post_all.Goals as goal

pub loop-place-preserved : goal.loop-place-preserved
loop-place-preserved c = λ ms.
    let rest : List Sending = map sending_of (drop (c.loop-place.place + 1) c.args.held.now) ++ ms in
    elim c.if-eq.branch [
      | then-eq+else-is_some w ↦
          ap (difference c.args.pid.0 rest) w.self-is
          ∙ sym (w.post-answers.ensures rest ∙ ap (λ (x : Option TwoAnswers). option_or x (difference c.args.pid.0 rest w.post-answers.new.self)) (none_is w.post-answers.result (sym w.is_some.ensures ∙ w.if-is_some.false)))
          ∙ difference_next c.args.pid.0 c.args.held.now c.loop-place.place _ ms c.loop-place.self c.loop-place-test.true
          ∙ c.loop-place.invariant ms
      | else-eq w ↦
          ap (difference c.args.pid.0 rest) w.self-is
          ∙ sym (post_elsewhere c.args.pid.0 (sending_of (get_or c.args.held.now c.loop-place.place _)) rest c.loop-place.self (sym c.eq.ensures ∙ w.if-eq.false))
          ∙ difference_next c.args.pid.0 c.args.held.now c.loop-place.place _ ms c.loop-place.self c.loop-place-test.true
          ∙ c.loop-place.invariant ms
    ]

pub returns : goal.returns
returns c = λ ms.
    sym (c.loop-place.invariant ms)
    ∙ ap (λ (xs : List Sending). difference c.args.pid.0 (xs ++ ms) c.loop-place.self) (sends_end c.args.held.now c.loop-place.place c.loop-place-test.false)
