use Rattle.tx_json.specs.EachLaws.{upto_more, upto_none}
use Rattle.tx_content.specs.Content.{view_of}
use Rattle.tx_shell.specs.Members.{listed_item}
use Rattle.tx_shell.specs.Owners.{owns_one}
use Rattle.tx_shell.proofs.answers.as_json.owners.put_owned.Goals as goal

pub loop-number-init : goal.loop-number-init
loop-number-init c = upto_none (listed_item (owns_one (view_of c.args.machine.now) c.args.starter.0 c.args.kind)) c.begin_list.new.writer

pub loop-number-preserved : goal.loop-number-preserved
loop-number-preserved c =
    upto_more (listed_item (owns_one (view_of c.args.machine.now) c.args.starter.0 c.args.kind)) c.loop-number.number c.begin_list.new.writer c.loop-number.writer c.put_number.new.writer c.loop-number.invariant
    c.in_ok-put_number.ensures
