use Rattle.std.proofs.Common.{ℕ, List, ◌++◌, Some, drop, take, refl, ap, subst, ◌∙◌}
use Rattle.tx_change.specs.Exchange.{applied, exchanged}
use Rattle.tx_change.specs.declared.change.Change.{Change}
use Rattle.tx_txn.specs.Txns.{inside_at}
use Rattle.tx_kernel.specs.Acts.{event_of, Makes}
use Rattle.tx_model.specs.Effects.{Inside as TheInside}
use Rattle.tx_content.proofs.inside.make_in.Goals as goal

pub returns-clause-made : goal.returns-clause-made
returns-clause-made c =
    record {
      inside = c.inside-inside.result;
      is = c.inside-inside.ensures.transaction;
      held = c.inside-inside.ensures.held;
      makes = subst (λ (log : List Change). Makes c.args.parts.now c.args.pid (Some c.inside-inside.result) (event_of (Some (inside_at c.args.txn.now c.args.marks.now)) c.args.pid c.args.act.now) log c.make_from.new.self c.make_from.new.parts (record { outcome = c.in_ok-outcome.outcome; sends = c.plan.new.sends }))
          c.settle.ensures (subst (λ (inside : TheInside). Makes c.args.parts.now c.args.pid (Some c.inside-inside.result) (event_of (Some inside) c.args.pid c.args.act.now) c.settle.new.self c.make_from.new.self c.make_from.new.parts (record { outcome = c.in_ok-outcome.outcome; sends = c.plan.new.sends }))
          c.inside-inside.ensures.transaction
          (c.in_ok-outcome.ensures.planned c.make_from.new.parts c.make_from.new.self
          (c.make_from.ensures.parts ∙ ap (λ (k : ℕ). applied c.args.parts.now (drop k c.plan.new.log)) c.len-from.ensures)
          (c.make_from.ensures.log ∙ ap (λ (k : ℕ). take k c.plan.new.log ++ exchanged c.args.parts.now (drop k c.plan.new.log)) c.len-from.ensures)));
      outbox = λ j. record { sendings = c.in-Ok.ensures.sendings j; posts = c.in-Ok.ensures.posts j };
      rest = refl;
    }
