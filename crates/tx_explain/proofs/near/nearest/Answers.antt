use Rattle.std.proofs.Common.{◌∙◌, ◌+◌, length, sym, ap, arith}
use Rattle.std.specs.Prelude.{List, option_map}
use Rattle.std.specs.Option.{option_copied}
use Rattle.tx_explain.specs.declared.topic.Topic.{Topic}
use Rattle.tx_explain.specs.declared.topic.Group.{Group}
use Rattle.tx_explain.specs.Edits.{is_near_topic, most_edits}
use Rattle.tx_explain.specs.Topics.{topics_in}
use Rattle.std.specs.List.{find}
use Rattle.tx_explain.proofs.NearWord.{found_below, near_among, none_below}
use Rattle.tx_explain.proofs.near.nearest.Goals as goal

pub returns-in-Some : goal.returns-in-Some
returns-in-Some c =
    let found = ap option_copied (sym c.in-Some.is) ∙ c.in_ok-topic.ensures
    ∙ ap (λ (gs : List Group). find (is_near_topic c.loop-edits.edits c.args.word.now) (topics_in gs)) c.as_slice.ensures in
    let near = near_among _ c.args.word.now _ c.groups-groups.ensures.rows ∙ sym (ap (option_map (λ (t : Topic). t.word.now)) found) in
    sym (found_below c.loop-edits.edits (most_edits (length c.args.word.now) + 1) c.args.word.now _ (omega (arith, c.min-most.ensures, c.loop-edits-test.true)) c.loop-edits.invariant near)

pub loop-edits-preserved : goal.loop-edits-preserved
loop-edits-preserved c =
    let found = ap option_copied (sym c.in_default.is) ∙ c.in_ok-topic.ensures
    ∙ ap (λ (gs : List Group). find (is_near_topic c.loop-edits.edits c.args.word.now) (topics_in gs)) c.as_slice.ensures in
    let near = near_among _ c.args.word.now _ c.groups-groups.ensures.rows ∙ sym (ap (option_map (λ (t : Topic). t.word.now)) found) in
    none_below c.loop-edits.edits c.args.word.now c.loop-edits.invariant near
