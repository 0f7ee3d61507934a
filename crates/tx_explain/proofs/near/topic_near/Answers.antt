use Rattle.std.proofs.Common.{◌∙◌, sym, ap, arith}
use Rattle.std.specs.Option.{option_copied}
use Rattle.tx_explain.specs.Edits.{is_near_topic}
use Rattle.tx_explain.proofs.FoundAt.{found_in, none_and_group}
use Rattle.tx_explain.proofs.near.topic_near.Goals as goal

pub returns-in-Some : goal.returns-in-Some
returns-in-Some c =
    sym (found_in (is_near_topic c.args.most c.args.word.now) c.args.groups.now c.loop-group.group-index _ _ (omega (arith, c.loop-group-test.true)) c.loop-group.invariant
    (sym (ap option_copied (sym c.in-Some.is) ∙ c.in_ok-topic.ensures)))

pub loop-group-preserved : goal.loop-group-preserved
loop-group-preserved c =
    none_and_group (is_near_topic c.args.most c.args.word.now) c.args.groups.now c.loop-group.group-index _ (omega (arith, c.loop-group-test.true)) c.loop-group.invariant
    (sym (ap option_copied (sym c.in_default.is) ∙ c.in_ok-topic.ensures))
