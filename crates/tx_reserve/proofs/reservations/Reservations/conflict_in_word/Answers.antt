use Rattle.std.proofs.Common.{arith, refl, option_map}
use Rattle.tx_reserve.specs.Reservations.{number_of}
use Rattle.tx_reserve.proofs.Places.{lowest_falls, none_in_word}
use Rattle.tx_reserve.proofs.Leasts.{least_with_lowest, least_with_none}
use Rattle.tx_reserve.proofs.reservations.Reservations.conflict_in_word.Goals as goal

pub loop-rest-smaller-in-Some : goal.loop-rest-smaller-in-Some
loop-rest-smaller-in-Some c = lowest_falls c.loop-rest.rest (omega arith) (omega arith)

pub loop-rest-preserved-in-Some : goal.loop-rest-preserved-in-Some
loop-rest-preserved-in-Some c = λ x least.
    c.loop-rest.invariant x (least_with_lowest c.args.word c.loop-rest.rest _ _ _ _ x (omega arith) (omega arith) c.in-Some.ensures c.lesser-least.ensures least)

pub loop-rest-smaller : goal.loop-rest-smaller
loop-rest-smaller c = lowest_falls c.loop-rest.rest (omega arith) (omega arith)

pub loop-rest-preserved : goal.loop-rest-preserved
loop-rest-preserved c = λ x least.
    c.loop-rest.invariant x (least_with_lowest c.args.word c.loop-rest.rest _ _ _ (option_map number_of c.loop-rest.least) x (omega arith) (omega arith) c.in_default.ensures refl least)

pub returns : goal.returns
returns c = c.loop-rest.invariant _ (least_with_none _ _ _ (λ p. none_in_word _ _ p c.loop-rest-test.false))
