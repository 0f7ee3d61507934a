use Rattle.std.proofs.Common.{◌≡◌, false, length, subst}
use Rattle.tx_change.specs.declared.parts.Parts.{Parts}
use Rattle.tx_kernel.proofs.Made.{made_at, of_call}
use Rattle.tx_kernel.proofs.PostedWhole.{made_whole}
use Rattle.tx_model.specs.Answer.{is_bad_choice}
use Rattle.tx_model.specs.Words.{chosen_in}
use Rattle.tx_model.specs.Book.{page_of_call}
use Rattle.tx_kernel.proofs.acts.act.Goals as goal

pub returns-clause-ok : goal.returns-clause-ok
returns-clause-ok c =
    made_at c.laws.ensures c.in_ok-at.field-0 c.args.parts.now c.args.pid c.args.inside (page_of_call c.args.call.now) _ (of_call c.args.call.now) c.args.log.now c.plan_call.new.log c.make_from.new.self c.len-from.result
    c.make_from.new.parts (record { outcome = c.in_ok-outcome.outcome; sends = c.plan_call.new.sends }) c.in_ok-at.ensures.ok c.in_ok-at.ensures.same c.len-from.ensures c.in_ok-outcome.ensures.ok c.make_from.ensures.parts c.make_from.ensures.log

pub returns-clause-whole : goal.returns-clause-whole
returns-clause-whole c =
    made_whole c.appended.ensures.sizes_back c.well_formed-2.ensures.kept c.well_formed-2.ensures.held c.args.parts.now c.args.pid c.args.inside _ c.args.log.now c.make_from.new.self
    c.make_from.new.parts (record { outcome = c.in_ok-outcome.outcome; sends = c.plan_call.new.sends }) c.requires (subst (λ (p : Parts). is_bad_choice (length p.procs) (chosen_in c.args.call.now) ≡ false) c.in_ok-at.ensures.same.0 c.in_ok-outcome.ensures.numbers) (returns-clause-ok c)
