use Rattle.tx_reserve.proofs.Members.{none_in, no_words}
use Rattle.tx_reserve.proofs.objects.Objects.new.Goals as goal

pub returns : goal.returns
returns c = λ o. none_in _ o (λ k. no_words 11 k)
