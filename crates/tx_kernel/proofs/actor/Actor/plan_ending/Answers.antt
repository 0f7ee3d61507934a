use Rattle.std.proofs.Common.{◌++◌, List, refl, ap, sym, subst, ◌∙◌}
use Rattle.tx_change.specs.Counts.{desc_changes}
use Rattle.tx_change.specs.declared.change.Change.{Change}
use Rattle.tx_desc.specs.declared.plans.NewDesc.{NewDesc}
use Rattle.tx_kernel.proofs.EndPlans.{DropsAll, ending_plans, only_removes}
use Rattle.tx_kernel.proofs.Ended.{pipes_left}
use Rattle.tx_kernel.specs.Endings.{OnlyRemoves, gone_changes, plain_with}
use Rattle.tx_proc.specs.Parts.{process_of}
use Rattle.tx_kernel.proofs.actor.Actor.plan_ending.Goals as goal

pub plan_drop_all-descs-requires : goal.plan_drop_all-descs-requires
plan_drop_all-descs-requires c =
    let actor = c.args.self.now in
    let is = c.requires.actor in
    c.laws.ensures.rooms actor.parts.now actor.pid.0 actor.proc.now.descriptors is.number is.whole.counts is.whole.places is.whole.few (actor.proc.now, is.there, is.runs, refl)

pub push_gone-requires-clause-removes : goal.push_gone-requires-clause-removes
push_gone-requires-clause-removes c =
    let actor = c.args.self.now in
    let descs : List NewDesc = c.plan_drop_all-descs.result.items in
    let planned = c.plan_drop_all-descs.ensures in
    let drops : DropsAll actor descs = record { counts = planned.counts; descriptions = planned.descriptions; once = planned.once; numbers = planned.numbers } in
    subst (λ (news : List NewDesc). OnlyRemoves news actor.parts.now.descs) (sym c.as_slice-2.ensures.value)
    (only_removes c.laws.ensures c.named_by_processes.ensures.ended actor c.args.status descs c.requires.actor drops)

pub returns-clause-ok : goal.returns-clause-ok
returns-clause-ok c =
    let actor = c.args.self.now in
    let descs : List NewDesc = c.plan_drop_all-descs.result.items in
    let planned = c.plan_drop_all-descs.ensures in
    let drops : DropsAll actor descs = record { counts = planned.counts; descriptions = planned.descriptions; once = planned.once; numbers = planned.numbers } in
    ending_plans c.laws.ensures c.named_by_processes.ensures.ended actor c.args.status descs c.in_ok-boxed.boxed c.tells_parent.result
    c.args.log.now c.push_descs.new.log c.push.new.self c.push_orphans.new.log c.push_gone.new.log c.sized.ensures c.requires.actor c.requires.other drops
    (ap process_of c.in_ok-boxed.ensures ∙ c.ended.ensures)
    (c.in_ok-push_descs.ensures.ok ∙ ap (λ (xs : List NewDesc). c.reserve.new.self ++ desc_changes xs) c.as_slice.ensures.value ∙ ap (λ (log : List Change). log ++ desc_changes descs) c.in_ok-reserve.ensures)
    c.in_ok-push.ensures.ok c.in_ok-push_orphans.ensures.ok
    (c.in_ok-push_gone.ensures.ok ∙ ap (λ (xs : List NewDesc). c.push_orphans.new.log ++ gone_changes (pipes_left actor) (plain_with xs actor.parts.now)) c.as_slice-2.ensures.value)
    c.tells_parent.ensures.at_once c.tells_parent.ensures.at_commit
