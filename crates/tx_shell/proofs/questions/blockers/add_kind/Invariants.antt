use Rattle.std.proofs.Common.{◌≡◌, ◌++◌, map}
use Rattle.tx_journal.specs.Entries.{history_of}
use Rattle.tx_journal.specs.Sessions.{made_of, start_of}
use Rattle.tx_shell.specs.Blockers.{blocked_at, blocked_of}
use Rattle.tx_waits.specs.Holders.{each_below}
use Rattle.tx_shell.proofs.questions.blockers.add_kind.Given as goal

abbrev pub invariant-loop-number : goal.invariant-loop-number
invariant-loop-number l =
    map blocked_of l.found.items ≡ map blocked_of l.initial.found.items ++ each_below (blocked_at (start_of l.session) (history_of (made_of l.session)) l.step l.kind) l.number
