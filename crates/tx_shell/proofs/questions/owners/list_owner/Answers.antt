use Rattle.std.proofs.Common.{◌≡◌, ◌∙◌, ap, string_bytes}
use Rattle.std.proofs.lemmas.Result.{IfOk-weaker}
use Rattle.tx_content.specs.Content.{view_of}
use Rattle.tx_shell.proofs.Owned.{said_there}
use Rattle.tx_shell.specs.Names.{named}
use Rattle.tx_shell.specs.Owners.{or_no_transaction, owner_line}
use Rattle.tx_shell.specs.Places.{view_at}
use Rattle.tx_shell.proofs.questions.owners.list_owner.Goals as goal

pub returns : goal.returns
returns c =
    let k = c.args.session.now in
    IfOk-weaker c.or_no_transaction.result (λ text. string_bytes text ≡ or_no_transaction (string_bytes c.put_owner.new.text)) (λ text. string_bytes text ≡ or_no_transaction (owner_line (named c.args.names) (view_at k) c.args.starter))
    (λ text report. report ∙ ap or_no_transaction (said_there (λ V. owner_line (named c.args.names) V c.args.starter) (view_at k) (view_of c.machine.result.now) (string_bytes c.new-text.result) (string_bytes c.put_owner.new.text) c.machine.ensures.view c.new-text.ensures.bytes c.in_ok-put_owner.ensures)) c.or_no_transaction.ensures
