use Rattle.std.proofs.Common.{None, refl}
use Rattle.tx_kernel.specs.Acts.{event_of}
use Rattle.tx_content.proofs.Outsides.{outside_answers, outside_made}
use Rattle.tx_content.proofs.Planned.{makes_all}
use Rattle.tx_content.specs.declared.content.Content.{Content}
use Rattle.tx_content.proofs.content.Content.make_logged.Goals as goal

pub post_sends-requires : goal.post_sends-requires
post_sends-requires c =
    (makes_all c.args.self.now.parts c.args.pid None (event_of None c.args.pid c.args.act.now) c.args.log.now c.plan.new.log (record { outcome = c.in_ok-outcome.outcome; sends = c.plan.new.sends }) c.requires.empty c.in_ok-outcome.ensures.planned).signal

pub returns-clause-made : goal.returns-clause-made
returns-clause-made c =
    let old : Content = c.args.self.now in
    let makes = makes_all old.parts c.args.pid None (event_of None c.args.pid c.args.act.now) c.args.log.now c.plan.new.log (record { outcome = c.in_ok-outcome.outcome; sends = c.plan.new.sends }) c.requires.empty c.in_ok-outcome.ensures.planned in
    outside_made c.laws.ensures old (record old { parts = c.lead_forward.new.parts; txns = c.post_sends.new.txns }) c.args.pid (event_of None c.args.pid c.args.act.now) c.plan.new.log c.lead_forward.new.self
    (record { outcome = c.in_ok-outcome.outcome; sends = c.plan.new.sends }) c.post_sends.result c.requires.shaped c.requires.kept c.requires.unowned makes c.lead_forward.ensures.parts c.lead_forward.ensures.log refl refl
    c.post_sends.ensures.posted c.post_sends.ensures.back c.post_sends.ensures.starter

pub returns-clause-answer : goal.returns-clause-answer
returns-clause-answer c =
    let old : Content = c.args.self.now in
    let makes = makes_all old.parts c.args.pid None (event_of None c.args.pid c.args.act.now) c.args.log.now c.plan.new.log (record { outcome = c.in_ok-outcome.outcome; sends = c.plan.new.sends }) c.requires.empty c.in_ok-outcome.ensures.planned in
    outside_answers old (record old { parts = c.lead_forward.new.parts; txns = c.post_sends.new.txns }) c.args.pid (event_of None c.args.pid c.args.act.now) c.plan.new.log (record { outcome = c.in_ok-outcome.outcome; sends = c.plan.new.sends }) makes c.lead_forward.ensures.parts
