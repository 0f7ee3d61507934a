use Rattle.std.proofs.Common.{◌≡◌, ◌≤◌, ◌+◌, ◌-◌, ◌++◌, length, arith, sym, ◌∙◌, ap}
use Rattle.std.proofs.lemmas.Slice.{take-put_mid}
use Rattle.tx_pages.proofs.Ranges.{bytes_from_append, length_written}
use Rattle.tx_pages.proofs.space.Space.copy_out.Goals as goal

pub loop-done-preserved : goal.loop-done-preserved
loop-done-preserved c =
    let some = length c.part-part.result.now in
    let few : c.loop-done.done + some ≤ length c.loop-done.out = omega (arith, c.part-part.ensures.count) in
    let width : c.loop-done.done + some - c.loop-done.done ≡ some = omega arith in
    let long : length c.copy_from_slice.new.self ≡ some = ap length c.copy_from_slice.ensures.after in
    let whole = length_written c.loop-done.done (c.loop-done.done + some - c.loop-done.done) c.loop-done.out c.copy_from_slice.new.self (long ∙ sym width) (omega arith) in
    record {
      same =
          take-put_mid c.loop-done.done (c.loop-done.done + some - c.loop-done.done) c.loop-done.out c.copy_from_slice.new.self
          (c.loop-done.done + some) (ap (λ n. c.loop-done.done + n) (sym long)) c.loop-done.invariant.few
          ∙ (λ i. c.loop-done.invariant.same i ++ (c.copy_from_slice.ensures.after ∙ c.part-part.ensures.bytes) i)
          ∙ sym (bytes_from_append c.args.self.now c.args.start c.loop-done.done some);
      few = rw whole few;
      sized = whole ∙ c.loop-done.invariant.sized;
    }
