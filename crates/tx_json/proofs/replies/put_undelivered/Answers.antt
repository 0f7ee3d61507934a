use Rattle.std.proofs.Common.{rules, ◌<◌, length}
use Rattle.tx_json.specs.EachLaws.{each_more}
use Rattle.tx_json.specs.Replies.{missed_tokens}
use Rattle.tx_json.proofs.replies.put_undelivered.Goals as goal

pub loop-i-preserved : goal.loop-i-preserved
loop-i-preserved c =
    let inside : c.loop-i.i < length c.args.undelivered.now = search rules in
    each_more missed_tokens c.args.undelivered.now c.loop-i.i _ c.begin_list.new.writer c.loop-i.writer c.put_missed.new.writer inside c.loop-i.invariant c.in_ok-put_missed.ensures
