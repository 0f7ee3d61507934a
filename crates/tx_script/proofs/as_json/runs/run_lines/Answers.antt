use Rattle.std.proofs.Common.{◌++◌, ◌∷◌, [], ◌∙◌, List, ℕ, ap, sym}
use Rattle.json.specs.Token.{Token}
use Rattle.tx_journal.specs.Entries.{history_of}
use Rattle.tx_journal.specs.Sessions.{position_of, start_of}
use Rattle.tx_journal.specs.declared.entry.Entry.{Entry}
use Rattle.tx_lines.specs.declared.read.command.Command.TheVariants as commands
use Rattle.tx_script.proofs.JsonLined.{one_line, text_append}
use Rattle.tx_script.specs.JsonLines.{command_line, line_of, text_of}
use Rattle.tx_script.specs.JsonRuns.{entry_lines}
use Rattle.tx_script.proofs.as_json.runs.run_lines.Goals as goal

pub returns-clause-text : goal.returns-clause-text
returns-clause-text c =
    let k = c.args.session.now in
    let last : List Token = command_line (start_of k) (history_of k.entries) (position_of k) commands.State in
    let entries : List (List Token) = entry_lines 1 k.entries in
    c.in_ok-put_line.ensures
    ∙ ap (λ (t : List ℕ). t ++ line_of last) (c.in_ok-put_entries.ensures.text
    ∙ ap (λ (t : List ℕ). t ++ text_of (entry_lines 1 c.entries.result.now)) c.new-text.ensures.bytes
    ∙ ap (λ (xs : List Entry). text_of (entry_lines 1 xs)) c.entries.ensures)
    ∙ ap (λ (t : List ℕ). text_of entries ++ t) (sym (one_line last))
    ∙ sym (text_append entries (last ∷ []))
