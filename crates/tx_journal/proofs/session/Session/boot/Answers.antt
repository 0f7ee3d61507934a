use Rattle.std.proofs.Common.{inl, refl}
use Rattle.std.specs.Prelude.{vec_capacity}
use Rattle.tx_journal.proofs.Aheads.{nothing_ahead}
use Rattle.tx_journal.proofs.Booted.{journal_starts, room_starts}
use Rattle.tx_journal.specs.Sessions.{session_state}
use Rattle.tx_journal.proofs.session.Session.boot.Goals as goal

pub invariant_of-result : goal.invariant_of-result
invariant_of-result c = (
  journal_starts c.in_ok-machine.machine 64 c.args.count c.new.result c.new.ensures.entries c.new.ensures.inverses c.requires.low c.requires.high (inl refl) c.in_ok-machine.ensures.view,
  room_starts c.in_ok-machine.machine 64 c.args.count c.new.result c.new.ensures.entries (vec_capacity c.new.result.entries) c.new.result.crossings.room,
  nothing_ahead (session_state c.in_ok-machine.machine c.new.result 64 c.args.count) c.new.result.crossings.undone c.new.result.crossings.stack c.new.ensures.undone,
)
