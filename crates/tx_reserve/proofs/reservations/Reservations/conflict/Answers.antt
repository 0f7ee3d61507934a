use Rattle.std.proofs.Common.{arith, option_map}
use Rattle.tx_model.specs.State.{Object}
use Rattle.tx_reserve.specs.Reservations.{number_of, owner_of, unless}
use Rattle.tx_reserve.proofs.Leasts.{least_of_set, least_with_both, one_more_word}
use Rattle.tx_reserve.proofs.reservations.Reservations.conflict.Goals as goal

pub loop-word-preserved : goal.loop-word-preserved
loop-word-preserved c =
    least_with_both _ _ _ _ _ _ _ (λ p. one_more_word c.args.objects.now.words c.loop-word.word _ p c.word.ensures) c.loop-word.invariant c.conflict_in_word-least.ensures

pub returns : goal.returns
returns c = least_of_set c.args.objects.now (λ (o : Object). unless (option_map number_of c.args.own) (owner_of c.args.self.now o)) _ _ (omega arith) c.loop-word.invariant
