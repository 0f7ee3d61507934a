-- The lines of JSON that report a run: one for each entry of its journal, and one for the state at
-- the position.
use Rattle.std.specs.Prelude.{ℕ, ◌+◌, List, [], ◌∷◌, ◌++◌}
use Rattle.json.specs.Token.{Token}
use Rattle.tx_journal.specs.Entries.{history_of}
use Rattle.tx_journal.specs.Sessions.{position_of, start_of, SessionState}
use Rattle.tx_journal.specs.declared.entry.Entry.{Entry}
use Rattle.tx_json.specs.Answers.{entry_answer}
use Rattle.tx_lines.specs.Lines.{step_text}
use Rattle.tx_lines.specs.declared.read.command.Command.TheVariants as commands
use Rattle.tx_script.specs.JsonLines.{command_line}

-- the line of the entry of that number
abbrev pub entry_line : ℕ → Entry → List Token
entry_line number entry = entry_answer number entry.worker (step_text entry.step) entry.reply

-- the lines of entries, of which the first has that number
unfoldable pub entry_lines : ℕ → List Entry → List (List Token)
entry_lines number [] = []
entry_lines number (entry ∷ entries) = entry_line number entry ∷ entry_lines (number + 1) entries

-- all entries, and then the state, as a command asks for it
abbrev pub run_lines : SessionState → List (List Token)
run_lines k =
    entry_lines 1 k.entries
    ++ command_line (start_of k) (history_of k.entries) (position_of k) commands.State
    ∷ []
