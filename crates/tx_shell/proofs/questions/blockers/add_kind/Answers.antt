use Rattle.std.proofs.Common.{map}
use Rattle.tx_journal.specs.Entries.{history_of}
use Rattle.tx_journal.specs.Sessions.{made_of, start_of}
use Rattle.tx_waits.proofs.Gathered.{below_more, below_none}
use Rattle.tx_shell.specs.Blockers.{blocked_at, blocked_of}
use Rattle.tx_shell.proofs.questions.blockers.add_kind.Goals as goal

pub loop-number-init : goal.loop-number-init
loop-number-init c =
    below_none (blocked_at (start_of c.args.session.now) (history_of (made_of c.args.session.now)) c.args.step.now c.args.kind) (map blocked_of c.args.found.now.items)

pub loop-number-preserved : goal.loop-number-preserved
loop-number-preserved c =
    below_more (blocked_at (start_of c.args.session.now) (history_of (made_of c.args.session.now)) c.args.step.now c.args.kind) c.loop-number.number (map blocked_of c.args.found.now.items)
    (map blocked_of c.loop-number.found.items) (map blocked_of c.add_object.new.found.items) c.loop-number.invariant c.in_ok-add_object.ensures
