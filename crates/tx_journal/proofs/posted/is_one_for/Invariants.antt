use Rattle.std.proofs.Common.{◌≡◌, map, drop}
use Rattle.tx_kernel.specs.Plans.{sending_of}
use Rattle.tx_laws.specs.OneMoment.{is_sent_to}
use Rattle.tx_journal.proofs.posted.is_one_for.Given as goal

abbrev pub invariant-loop-sending : goal.invariant-loop-sending
invariant-loop-sending l = is_sent_to l.pid.0 (map sending_of (drop l.sending-index l.sendings)) ≡ is_sent_to l.pid.0 (map sending_of l.sendings)
