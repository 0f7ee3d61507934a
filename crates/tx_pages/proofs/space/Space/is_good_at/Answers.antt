use Rattle.std.proofs.Common.{◌≡◌, ◌≤◌, ◌+◌, ◌/◌, ◌%◌, true, arith, sym, ◌∙◌}
use Rattle.tx_model.specs.Memory.{page_at}
use Rattle.tx_pages.proofs.Ranges.{all_good_page}
use Rattle.tx_pages.specs.Access.{test_of}
use Rattle.tx_pages.proofs.space.Space.is_good_at.Goals as goal

-- src/space.rt:350:9
pub loop-left-preserved : goal.loop-left-preserved
loop-left-preserved c =
    let some = c.min-some.result in
    let few : c.min-some.result ≤ c.loop-left.left = omega (arith, c.min-some.ensures) in
    let within : c.loop-left.address % 64 + c.min-some.result ≤ 64 = omega (arith, c.min-some.ensures) in
    let passes : test_of c.args.access (page_at c.args.self.now (c.loop-left.address / 64)) ≡ true = sym c.serves.ensures ∙ c.if-not-serves.false in
    record {
      same =
          sym (all_good_page (test_of c.args.access) c.args.self.now c.loop-left.address c.loop-left.left c.min-some.result few c.if-address-ge-ADDRESSES.false within passes)
          ∙ c.loop-left.invariant.same;
      sum = omega arith;
      inside = omega arith;
    }
