use Rattle.std.proofs.Common.{ℕ, Option, option_map}
use Rattle.tx_reserve.specs.Objects.{IsInWord, object_at}
use Rattle.tx_reserve.specs.Reservations.{IsLeastWith, number_of, owner_of, unless}
use Rattle.tx_reserve.proofs.reservations.Reservations.conflict_in_word.Given as goal

-- what is the least with the bits that are left is the least with all
abbrev pub invariant-loop-rest : goal.invariant-loop-rest
invariant-loop-rest l =
    let number : ℕ → Option ℕ = λ place. unless (option_map number_of l.own) (owner_of l.self (object_at place)) in
    (x : Option ℕ) → IsLeastWith (IsInWord l.word l.rest) number (option_map number_of l.least) x
    → IsLeastWith (IsInWord l.word l.fn.rest) number (option_map number_of l.fn.least) x

abbrev pub decreases-loop-rest : goal.decreases-loop-rest
decreases-loop-rest l = l.rest
