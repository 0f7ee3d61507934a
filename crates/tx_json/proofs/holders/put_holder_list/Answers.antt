use Rattle.std.proofs.Common.{rules, ◌<◌, length}
use Rattle.tx_json.specs.EachLaws.{each_more}
use Rattle.tx_json.specs.Holders.{holder_tokens}
use Rattle.tx_json.proofs.holders.put_holder_list.Goals as goal

pub loop-i-preserved : goal.loop-i-preserved
loop-i-preserved c =
    let inside : c.loop-i.i < length c.args.holders.now = search rules in
    each_more holder_tokens c.args.holders.now c.loop-i.i _ c.begin_list.new.writer c.loop-i.writer c.put_holder.new.writer inside c.loop-i.invariant c.in_ok-put_holder.ensures
