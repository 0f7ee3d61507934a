use Rattle.std.proofs.Common.{◌≡◌, ◌<◌, ◌≤◌, ◌+◌, ◌%◌, length, Some, arith, rules}
use Rattle.std.proofs.lemmas.Bool.Decides.{nat_tests}
use Rattle.tx_model.specs.Memory.{address_of}
use Rattle.tx_pages.proofs.Patches.{remembers_patch}
use Rattle.tx_pages.proofs.space.Space.plan_store_on_page.Goals as goal

pub returns-clause-answer : goal.returns-clause-answer
returns-clause-answer c d same =
    let there : address_of c.args.address ≡ Some c.in_ok-start.start = search rules in
    let low : c.in_ok-start.start < 1024 = search rules in
    let some : 0 < length c.args.bytes.now = grind (arith, nat_tests) in
    let within : c.in_ok-start.start % 64 + length c.args.bytes.now ≤ 64 = omega arith in
    let sized : length c.args.self.now ≡ 16 = search rules in
    remembers_patch c.args.self.now c.args.address c.in_ok-start.start c.args.bytes.now c.plan_patch.result d sized there low some within c.plan_patch.ensures same
