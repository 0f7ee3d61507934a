use Rattle.std.proofs.Common.{sym, ap, subst, ◌∙◌}
use Rattle.std.specs.Option.{option_copied}
use Rattle.tx_content.proofs.FirstSteps.{as_begun}
use Rattle.tx_content.specs.Begins.{StartsOf}
use Rattle.tx_content.proofs.begins.begun.Goals as goal

pub returns-in-Ok-clause-boxed : goal.returns-in-Ok-clause-boxed
returns-in-Ok-clause-boxed c =
    as_begun c.args.parts.now c.args.pid c.args.defers c.unwrap-proc.result.now c.deref_mut.result.now c.plan.new.log (record { outcome = c.in-Ok._outcome; sends = c.plan.new.sends })
    (sym c.proc.ensures ∙ ap option_copied c.unwrap-proc.ensures)
    (subst (StartsOf c.args.pid c.args.defers c.unwrap-proc.result.now) (sym c.deref_mut.ensures.value) c.in_ok-boxed.ensures.boxed)
    c.in-Ok.ensures.named c.in-Ok.ensures.planned
