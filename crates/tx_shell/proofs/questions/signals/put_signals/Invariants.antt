use Rattle.std.proofs.Common.{◌≡◌, ◌++◌, string_bytes}
use Rattle.tx_state_text.specs.Each.{upto}
use Rattle.tx_shell.specs.Names.{named}
use Rattle.tx_shell.specs.Reasons.{signal_line}
use Rattle.tx_journal.specs.Entries.{history_of}
use Rattle.tx_journal.specs.Sessions.{made_of, start_of}
use Rattle.tx_shell.proofs.questions.signals.put_signals.Given as goal

abbrev pub invariant-loop-number : goal.invariant-loop-number
invariant-loop-number l = string_bytes l.text ≡ string_bytes l.initial.text ++ upto (signal_line (named l.names) (start_of l.session) (history_of (made_of l.session)) l.step) l.number
