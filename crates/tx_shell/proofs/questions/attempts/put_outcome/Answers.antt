use Rattle.std.proofs.Common.{rules, ◌≡◌, ◌∙◌, ◌++◌, ℕ, List, ap, string_bytes}
use Rattle.std.proofs.lemmas.Result.{on_ok_weaker}
use Rattle.tx_journal.specs.Entries.{history_of}
use Rattle.tx_journal.specs.Sessions.{made_of, start_of}
use Rattle.tx_shell.specs.Attempts.{answered_text, outcome_text}
use Rattle.tx_shell.specs.Names.{named}
use Rattle.tx_shell.proofs.questions.attempts.put_outcome.Goals as goal

pub returns-in-Done : goal.returns-in-Done
returns-in-Done c =
    let k = c.args.session.now in
    let attempt = c.args.attempt.now in
    let same : answered_text attempt.reply ≡ outcome_text (named c.args.names) (start_of k) (history_of (made_of k)) attempt.step attempt.reply = search rules in
    on_ok_weaker c.put_answered.result (λ put. put ∙ ap (λ (t : List ℕ). string_bytes c.args.text.now ++ t) same) c.put_answered.ensures
