use Rattle.std.proofs.Common.{rules, ◌<◌, length}
use Rattle.tx_json.specs.EachLaws.{each_more}
use Rattle.tx_json.specs.Lists.{number_item}
use Rattle.tx_json.proofs.lists.put_numbers.Goals as goal

pub loop-i-preserved : goal.loop-i-preserved
loop-i-preserved c =
    let inside : c.loop-i.i < length c.args.numbers.now = search rules in
    each_more number_item c.args.numbers.now c.loop-i.i _ c.begin_list.new.writer c.loop-i.writer c.put_number_item.new.writer inside c.loop-i.invariant c.in_ok-put_number_item.ensures
