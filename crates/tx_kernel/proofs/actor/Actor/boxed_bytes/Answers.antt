use Rattle.std.proofs.Common.{◌≤◌, ℤ, w64, rules, sym, ap, ◌∙◌}
use Rattle.std.proofs.lemmas.Int.{to_z-of_z}
use Rattle.tx_base.specs.Numbers.{below}
use Rattle.tx_kernel.specs.Actors.{me_of}
use Rattle.tx_kernel.proofs.PipedCalls.{good_inside}
use Rattle.tx_model.specs.Memory.{is_mapped}
use Rattle.tx_kernel.proofs.actor.Actor.boxed_bytes.Goals as goal

pub put_into-requires-clause-inside : goal.put_into-requires-clause-inside
put_into-requires-clause-inside c =
    let low : c.in-Some.start ≤ 1024 = search rules in
    let read = to_z-of_z w64 c.args.address c.ranges.address in
    good_inside is_mapped (me_of c.args.self.now).memory c.args.address c.in-Some.start c.args.n
    (sym (ap (λ (z : ℤ). below 1024 z) read) ∙ sym c.in-Some.ensures) low c.requires.good
