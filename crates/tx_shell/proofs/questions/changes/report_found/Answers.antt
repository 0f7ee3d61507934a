use Rattle.std.proofs.Common.{ℕ, List, Option, [], ◌∷◌, ◌++◌, ◌∙◌, ap, append_assoc, codes, string_bytes, subst, sym}
use Rattle.std.specs.Fmt.{decimal}
use Rattle.tx_journal.specs.Entries.{accepted_of, entry_at, history_of}
use Rattle.tx_journal.specs.Sessions.{position_of}
use Rattle.tx_shell.proofs.Found.{step_made}
use Rattle.tx_shell.specs.Changes.{ReportsFound}
use Rattle.tx_shell.specs.Names.{named, step_made_text}
use Rattle.tx_shell.specs.Differences.{differing}
use Rattle.tx_shell.specs.declared.questions.changes.Change.{Change}
use Rattle.tx_shell.proofs.questions.changes.report_found.Goals as goal

pub returns : goal.returns
returns c =
    let entries = c.args.session.now.entries in
    let entry = c.in-Some-entry.entry.now in
    let number = position_of c.args.session.now in
    let step : List ℕ = step_made_text (named c.args.names) entry.step in
    let report : List ℕ = differing (string_bytes c.in-Some.change.before) (string_bytes c.in-Some.change.after) in
    let front : ℕ → List ℕ = λ n. codes "at " ++ (decimal n ++ codes ": ") in
    subst (λ (found : Option Change). ReportsFound (named c.args.names) (history_of entries) number found (string_bytes c.put_differing.new.text)) (sym c.in-Some.is) (record {
      entry = accepted_of entry;
      made = step_made entries number entry (c.in-Some-entry.ensures ∙ ap (entry_at entries) c.position-position.ensures.count);
      report = c.in_ok-put_differing.ensures
          ∙ (λ i. string_bytes c.put.new.text ++ differing (c.as_str.ensures.value i) (c.as_str-2.ensures.value i))
          ∙ ap (λ (t : List ℕ). t ++ report) (c.in_ok-put.ensures ∙ ap (λ (t : List ℕ). t ++ 10 ∷ []) (c.in_ok-put_step_made.ensures ∙ ap (λ (t : List ℕ). t ++ step) (c.in_ok-text.ensures.ok ∙ ap front c.position-position.ensures.count)))
          ∙ append_assoc (front number ++ step) (10 ∷ []) report
          ∙ append_assoc (front number) step (10 ∷ report)
          ∙ ap (λ (t : List ℕ). codes "at " ++ t) (append_assoc (decimal number) (codes ": ") (step ++ 10 ∷ report));
    })
