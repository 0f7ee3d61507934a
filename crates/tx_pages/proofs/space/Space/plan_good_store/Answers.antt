use Rattle.std.proofs.Common.{◌≡◌, ◌<◌, ◌≤◌, ◌+◌, length, arith, refl}
use Rattle.std.proofs.lemmas.Bool.Decides.{nat_tests}
use Rattle.tx_pages.specs.declared.plans.NewPage.{NewPage}
use Rattle.tx_pages.proofs.Writes.{store_more, fresh_more, numbered_push}
use Rattle.tx_pages.proofs.space.Space.plan_good_store.Goals as goal

pub loop-rest-preserved : goal.loop-rest-preserved
loop-rest-preserved c =
    let now = c.loop-rest.invariant in
    let new : NewPage = record { number = c.loop-rest.number; page = c.in_ok-page.page } in
    let split = c.split_at.ensures in
    let some : 0 < length c.loop-rest.rest.now = grind (arith, nat_tests) in
    let below : c.loop-rest.number < 16 = omega arith in
    let fits : c.loop-rest.offset + length c.split_at.result.0.now ≤ 64 = omega arith in
    let whole : 0 < length c.split_at.result.1.now → c.loop-rest.offset + length c.split_at.result.0.now ≡ 64 = λ some. omega arith in
    record {
      same =
          store_more c.args.self.now c.loop-rest.pages.items c.push.new.self.items new c.loop-rest.number c.loop-rest.offset c.loop-rest.rest.now
          c.split_at.result.0.now c.split_at.result.1.now _ c.in_ok-push.ensures.ok refl c.in_ok-page.ensures split.by_index.0 now.sized below fits whole
          (now.fresh c.loop-rest.number (omega arith)) now.same;
      fresh = fresh_more c.args.self.now c.loop-rest.pages.items c.push.new.self.items new c.loop-rest.number c.in_ok-push.ensures.ok refl now.fresh;
      numbers = rw c.in_ok-push.ensures.ok (numbered_push c.loop-rest.pages.items new now.numbers below);
      sized = now.sized;
      inside = omega arith;
      offset = omega arith;
    }
