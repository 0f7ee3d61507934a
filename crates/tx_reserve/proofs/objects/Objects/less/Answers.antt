use Rattle.std.proofs.Common.{ℕ, ◌<◌, ◌^◌, ap, arith, bit_and, get_or, w32, ◌∙◌}
use Rattle.std.proofs.lemmas.List.{length-set}
use Rattle.std.specs.Int.{bit_not}
use Rattle.tx_reserve.proofs.Members.{less_in, one_more, worked_on}
use Rattle.tx_reserve.proofs.objects.Objects.less.Goals as goal

pub loop-i-preserved : goal.loop-i-preserved
loop-i-preserved c =
    let other = get_or c.args.other.now.words c.loop-i.i 0 in
    let fits : get_or c.args.other.now.words c.loop-i.i 0 < 2 ^ 32 = omega arith in
    let made = bit_and (get_or c.loop-i.words c.loop-i.i 0) (bit_not w32 other) in
    let worked = worked_on (λ k. bit_and (get_or c.args.self.now.words k 0) (bit_not w32 (get_or c.args.other.now.words k 0))) c.args.self.now.words c.loop-i.words c.loop-i.i made
    (omega arith) (ap (λ (w : ℕ). bit_and w (bit_not w32 other)) (c.loop-i.invariant.ahead c.loop-i.i (omega arith))) c.loop-i.invariant.done c.loop-i.invariant.ahead in
    record {
      sized = length-set c.loop-i.words c.loop-i.i made ∙ c.loop-i.invariant.sized;
      fits = one_more c.args.other.now.words c.loop-i.i fits c.loop-i.invariant.fits;
      done = worked.0;
      ahead = worked.1;
    }

pub returns : goal.returns
returns c = λ o. less_in c.args.self.now c.args.other.now _ o (λ k lt. c.loop-i.invariant.fits k (omega arith)) (λ k lt. c.loop-i.invariant.done k (omega arith))
