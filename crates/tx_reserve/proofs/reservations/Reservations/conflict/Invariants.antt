use Rattle.std.proofs.Common.{None, option_map}
use Rattle.tx_reserve.specs.Objects.{object_at}
use Rattle.tx_reserve.specs.Reservations.{IsLeastWith, number_of, owner_of, unless}
use Rattle.tx_reserve.proofs.Leasts.{IsAmong}
use Rattle.tx_reserve.proofs.reservations.Reservations.conflict.Given as goal

abbrev pub invariant-loop-word : goal.invariant-loop-word
invariant-loop-word l =
    IsLeastWith (IsAmong l.objects.words l.word) (λ place. unless (option_map number_of l.own) (owner_of l.self (object_at place))) None (option_map number_of l.least)
