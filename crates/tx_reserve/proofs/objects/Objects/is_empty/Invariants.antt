use Rattle.tx_reserve.proofs.Members.{Tells}
use Rattle.tx_reserve.proofs.objects.Objects.is_empty.Given as goal

abbrev pub invariant-loop-i : goal.invariant-loop-i
invariant-loop-i l = Tells l.self.words l.i l.all
