use Rattle.std.proofs.Common.{◌≡◌, ◌++◌, ◌∷◌, [], List, ℤ, pos, to_z, w64, arith, refl, sym, ap, subst, ◌∙◌}
use Rattle.std.proofs.lemmas.Int.{ints}
use Rattle.tx_change.specs.Counts.{desc_changes}
use Rattle.tx_change.specs.declared.change.Change.{Change}
use Rattle.tx_change.specs.declared.change.Change.TheVariants.{Part}
use Rattle.tx_desc.specs.declared.plans.NewDesc.{NewDesc}
use Rattle.tx_kernel.proofs.Forked.{fork_plans, makes_child}
use Rattle.tx_kernel.specs.Actors.{effect_by, names_by}
use Rattle.tx_kernel.specs.Own.{answer_after}
use Rattle.tx_kernel.specs.Plans.{Plans, quiet}
use Rattle.tx_kernel.specs.declared.planned.Outcome.TheVariants.{Done}
use Rattle.tx_kernel.specs.declared.planned.Planned.{Planned}
use Rattle.tx_model.specs.Processes.{child_of}
use Rattle.tx_model.specs.State.{Process}
use Rattle.tx_model.specs.Words.{fork_objects}
use Rattle.tx_proc.specs.Parts.{process_of}
use Rattle.tx_proc.specs.declared.proc.Part.TheVariants.{Answer as SetAnswer}
use Rattle.tx_kernel.proofs.actor.Actor.plan_child.Goals as goal

pub plan_raise_all-descs-requires : goal.plan_raise_all-descs-requires
plan_raise_all-descs-requires c =
    let actor = c.args.self.now in
    let is = c.requires.actor in
    c.laws.ensures.rooms actor.parts.now actor.pid.0 actor.proc.now.descriptors is.number is.whole.counts is.whole.places is.whole.few (actor.proc.now, is.there, is.runs, refl)

pub returns-clause-ok : goal.returns-clause-ok
returns-clause-ok c =
    let actor = c.args.self.now in
    let told : to_z w64 c.args.child.0 ≡ pos c.args.child.0 = omega (arith, ints) in
    let descs = c.plan_raise_all-descs.ensures in
    let shared : Process → Process = λ me. record me { memory = actor.proc.now.space } in
    let copy : process_of c.share_pages.new.self ≡ child_of actor.pid.0 (process_of actor.proc.now)
    = ap process_of c.in_ok-share_pages.ensures ∙ ap shared (ap process_of c.in_ok-boxed.ensures ∙ c.child.ensures) in
    subst (λ (planned : Planned). Plans actor c.args.log.now c.push_answer.new.log planned (effect_by actor (makes_child c.args.child.0)) (names_by actor (λ d. fork_objects c.args.child.0 d.process)))
    (sym (ap (λ (r : ℤ). quiet (Done r)) told))
    (fork_plans c.laws.ensures actor c.args.child c.share_pages.new.self c.plan_raise_all-descs.result.items c.args.log.now c.push_descs.new.log c.push.new.self c.push_answer.new.log c.sized.ensures
    c.requires.actor c.requires.number c.requires.free copy
    descs.counts descs.descriptions descs.once descs.numbers
    (c.in_ok-push_descs.ensures.ok ∙ ap (λ (xs : List NewDesc). c.reserve.new.self ++ desc_changes xs) c.as_slice.ensures.value
    ∙ ap (λ (old : List Change). old ++ desc_changes c.plan_raise_all-descs.result.items) c.in_ok-reserve.ensures)
    c.in_ok-push.ensures.ok
    (c.in_ok-push_answer.ensures.ok ∙ ap (λ (v : ℤ). c.push.new.self ++ Part actor.pid (SetAnswer (answer_after v actor)) ∷ []) told))
