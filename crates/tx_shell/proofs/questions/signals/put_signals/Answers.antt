use Rattle.std.proofs.Common.{string_bytes}
use Rattle.tx_state_text.specs.EachLaws.{upto_more, upto_none}
use Rattle.tx_shell.specs.Names.{named}
use Rattle.tx_shell.specs.Reasons.{signal_line}
use Rattle.tx_journal.specs.Entries.{history_of}
use Rattle.tx_journal.specs.Sessions.{made_of, start_of}
use Rattle.tx_shell.proofs.questions.signals.put_signals.Goals as goal

pub loop-number-init : goal.loop-number-init
loop-number-init c = upto_none (signal_line (named c.args.names) (start_of c.args.session.now) (history_of (made_of c.args.session.now)) c.args.step.now) (string_bytes c.args.text.now)

pub loop-number-preserved : goal.loop-number-preserved
loop-number-preserved c =
    upto_more (signal_line (named c.args.names) (start_of c.args.session.now) (history_of (made_of c.args.session.now)) c.args.step.now) c.loop-number.number (string_bytes c.args.text.now) (string_bytes c.loop-number.text)
    (string_bytes c.put_signal.new.text) c.loop-number.invariant c.in_ok-put_signal.ensures
