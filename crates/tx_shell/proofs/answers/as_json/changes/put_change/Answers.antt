use Rattle.std.proofs.Common.{◌++◌, ◌∙◌, Option, ap, append_assoc, codes, sym}
use Rattle.std.proofs.lemmas.Result.{on_ok_weaker}
use Rattle.tx_base.specs.declared.steps.Accepted.{Accepted}
use Rattle.tx_journal.specs.Entries.{accepted_of, entry_at}
use Rattle.tx_journal.specs.Sessions.{position_of}
use Rattle.tx_json.specs.Members.{object_key}
use Rattle.tx_shell.proofs.Found.{step_made}
use Rattle.tx_shell.specs.Members.{change_member, made_member, step_tokens}
use Rattle.tx_shell.specs.Places.{place_of}
use Rattle.tx_shell.specs.declared.questions.changes.Change.{Change}
use Rattle.tx_shell.proofs.answers.as_json.changes.put_change.Goals as goal

pub returns : goal.returns
returns c =
    let k = c.args.session.now in
    let entry = c.in-Some-entry.entry.now in
    let number = position_of k in
    let front = c.args.writer.now in
    on_ok_weaker c.put_made.result
    (λ put.
    put
    ∙ (λ i. c.in_ok-put_key.ensures i ++ step_tokens (c.position-position.ensures.count i) (accepted_of entry))
    ∙ append_assoc front (object_key (codes "change")) (step_tokens number (accepted_of entry))
    ∙ ap (λ (made : Option Accepted). front ++ made_member number made) (sym (step_made k.entries number entry (c.in-Some-entry.ensures ∙ ap (entry_at k.entries) c.position-position.ensures.count)))
    ∙ ap (λ (found : Option Change). front ++ change_member (place_of k) found) (sym c.in-Some.is)) c.put_made.ensures
