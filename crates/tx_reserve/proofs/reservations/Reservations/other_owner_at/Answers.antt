use Rattle.std.proofs.Common.{ap, option_map, rules}
use Rattle.tx_reserve.specs.Reservations.{number_of}
use Rattle.tx_reserve.proofs.Owned.{owner_read}
use Rattle.tx_reserve.proofs.reservations.Reservations.other_owner_at.Goals as goal

pub returns-in_err-owner : goal.returns-in_err-owner
returns-in_err-owner c =
    rw (owner_read _ _ c.args.place _ _ c.self.view_is c.in_err-owner.was c.self.invariant c.requires c.index.ensures) (ap (option_map number_of) c.from_residual.ensures)

pub returns-then-eq : goal.returns-then-eq
returns-then-eq c = rw (owner_read _ _ c.args.place _ _ c.self.view_is c.in_ok-owner.was c.self.invariant c.requires c.index.ensures) (search rules)

pub returns-else-eq : goal.returns-else-eq
returns-else-eq c = rw (owner_read _ _ c.args.place _ _ c.self.view_is c.in_ok-owner.was c.self.invariant c.requires c.index.ensures) (search rules)
