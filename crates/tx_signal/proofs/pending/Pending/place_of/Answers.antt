use Rattle.std.proofs.Common.{◌≡◌}
use Rattle.tx_signal.specs.Entries.{place_of}
use Rattle.tx_signal.proofs.QueueFacts.{place-swapped, place-entry, place-none, place-left, place-pending}
use Rattle.tx_signal.proofs.pending.Pending.place_of.Goals as goal

pub returns-clause-first : goal.returns-clause-first
returns-clause-first c =
    let found : c.first_place.result ≡ place_of c.args.signo.0 c.args.self.now.queued = cc in
    rw found (place-swapped c.args.signo.0 c.args.self.now.queued)

pub returns-clause-entry : goal.returns-clause-entry
returns-clause-entry c =
    let found : c.first_place.result ≡ place_of c.args.signo.0 c.args.self.now.queued = cc in
    rw found (place-entry c.args.signo.0 c.args.self.now.queued)

pub returns-clause-none : goal.returns-clause-none
returns-clause-none c =
    let found : c.first_place.result ≡ place_of c.args.signo.0 c.args.self.now.queued = cc in
    rw found (place-none c.args.signo.0 c.args.self.now.queued)

pub returns-clause-left : goal.returns-clause-left
returns-clause-left c =
    let found : c.first_place.result ≡ place_of c.args.signo.0 c.args.self.now.queued = cc in
    rw found (place-left c.args.signo.0 c.args.self.now.queued)

pub returns-clause-pending : goal.returns-clause-pending
returns-clause-pending c =
    let found : c.first_place.result ≡ place_of c.args.signo.0 c.args.self.now.queued = cc in
    rw found (place-pending c.args.signo.0 c.args.self.now.queued)
