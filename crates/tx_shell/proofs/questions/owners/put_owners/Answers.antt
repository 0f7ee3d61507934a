use Rattle.std.proofs.Common.{◌+◌, string_bytes}
use Rattle.tx_content.specs.Content.{view_of}
use Rattle.tx_shell.specs.Names.{named}
use Rattle.tx_shell.specs.Owners.{owner_line}
use Rattle.tx_state_text.specs.EachLaws.{upto_more, upto_none}
use Rattle.tx_shell.proofs.questions.owners.put_owners.Goals as goal

pub loop-done-init : goal.loop-done-init
loop-done-init c = upto_none (λ done. owner_line (named c.args.names) (view_of c.args.machine.now) (done + 1)) (string_bytes c.args.text.now)

pub loop-done-preserved : goal.loop-done-preserved
loop-done-preserved c =
    upto_more (λ done. owner_line (named c.args.names) (view_of c.args.machine.now) (done + 1)) c.loop-done.done (string_bytes c.args.text.now) (string_bytes c.loop-done.text) (string_bytes c.put_owner.new.text) c.loop-done.invariant c.in_ok-put_owner.ensures
