use Rattle.std.proofs.Common.{◌+◌}
use Rattle.tx_json.specs.EachLaws.{upto_more, upto_none}
use Rattle.tx_content.specs.Content.{view_of}
use Rattle.tx_shell.specs.Members.{owner_item}
use Rattle.tx_shell.proofs.answers.as_json.owners.put_owners.Goals as goal

pub loop-done-init : goal.loop-done-init
loop-done-init c = upto_none (λ done. owner_item (view_of c.args.machine.now) (done + 1)) c.begin_list.new.writer

pub loop-done-preserved : goal.loop-done-preserved
loop-done-preserved c =
    upto_more (λ done. owner_item (view_of c.args.machine.now) (done + 1)) c.loop-done.done c.begin_list.new.writer c.loop-done.writer c.put_owner.new.writer c.loop-done.invariant c.in_ok-put_owner.ensures
