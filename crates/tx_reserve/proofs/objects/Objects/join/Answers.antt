use Rattle.std.proofs.Common.{ℕ, ap, arith, bit_or, get_or, ◌∙◌}
use Rattle.std.proofs.lemmas.List.{length-set}
use Rattle.tx_reserve.proofs.Members.{joined_in, worked_on}
use Rattle.tx_reserve.proofs.objects.Objects.join.Goals as goal

pub loop-i-preserved : goal.loop-i-preserved
loop-i-preserved c =
    let other = get_or c.args.other.now.words c.loop-i.i 0 in
    let made = bit_or (get_or c.loop-i.words c.loop-i.i 0) other in
    let worked = worked_on (λ k. bit_or (get_or c.args.self.now.words k 0) (get_or c.args.other.now.words k 0)) c.args.self.now.words c.loop-i.words c.loop-i.i made
    (omega arith) (ap (λ (w : ℕ). bit_or w other) (c.loop-i.invariant.ahead c.loop-i.i (omega arith))) c.loop-i.invariant.done c.loop-i.invariant.ahead in
    record { sized = length-set c.loop-i.words c.loop-i.i made ∙ c.loop-i.invariant.sized; done = worked.0; ahead = worked.1 }

pub returns : goal.returns
returns c = λ o. joined_in c.args.self.now c.args.other.now _ o (λ k lt. c.loop-i.invariant.done k (omega arith))
