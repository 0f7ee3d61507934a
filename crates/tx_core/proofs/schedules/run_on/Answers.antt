use Rattle.std.proofs.Common.{◌≡◌, ◌+◌, ◌++◌, ◌∷◌, [], Result, Ok, Err, OnOk, List, false, is_err, take, sym, subst, ◌∙◌, ap, true≢false}
use Rattle.std.proofs.lemmas.List.{take_more, take_all}
use Rattle.tx_base.specs.declared.steps.Step.{Step}
use Rattle.tx_core.specs.Runs.{RunsFrom}
use Rattle.tx_core.proofs.SoFar.{run_starts}
use Rattle.tx_core.proofs.schedules.run_on.Goals as goal

-- what a call leaves that did not fail
where_ok : {T E P : Type 0} (r : Result T E) → is_err r ≡ false → OnOk r P → P
where_ok (Ok x) none left = left
where_ok (Err y) none left = absurd (true≢false none)

pub loop-i-init : goal.loop-i-init
loop-i-init c start same = run_starts start c.args.machine c.new-history.result.items c.new-history.ensures.items same

pub loop-i-preserved : goal.loop-i-preserved
loop-i-preserved c start same =
    let steps = c.args.steps.now in
    let i = c.loop-i.i in
    let more : take i steps ++ c.index-steps-i.result ∷ [] ≡ take (i + 1) steps =
    ap (λ (x : Step). take i steps ++ x ∷ []) c.index-steps-i.is ∙ sym (take_more steps i c.index-steps-i.result c.loop-i-test.true) in
    subst (λ (made : List Step). RunsFrom start made c.run_step.new.machine c.run_step.new.history.items) more
    (where_ok c.run_step.result (sym c.is_err.ensures.value ∙ c.if-is_err.false) c.run_step.ensures.run start (take i steps) (c.loop-i.invariant start same))

pub returns-clause-run : goal.returns-clause-run
returns-clause-run c start same =
    subst (λ (made : List Step). RunsFrom start made c.loop-i.machine c.loop-i.history.items) (take_all c.loop-i.i c.args.steps.now c.loop-i-test.false) (c.loop-i.invariant start same)
