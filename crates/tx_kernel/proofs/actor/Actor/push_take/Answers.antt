use Rattle.std.proofs.Common.{[], ◌∷◌, refl, take, w64, to_z, of_z}
use Rattle.std.proofs.lemmas.Int.{to_z-of_z}
use Rattle.std.proofs.lemmas.Result.{on_ok_weaker}
use Rattle.std.specs.Prelude.{slice_set}
use Rattle.tx_change.specs.States.{state_of}
use Rattle.tx_kernel.proofs.PageCalls.{stored_by}
use Rattle.tx_kernel.specs.Actors.{caller_of}
use Rattle.tx_kernel.proofs.actor.Actor.push_take.Goals as goal

pub returns-in-Some-Ok-clause-ok : goal.returns-in-Some-Ok-clause-ok
returns-in-Some-Ok-clause-ok c =
    let actor = c.args.self.now in
    let caller = caller_of actor (state_of (λ starter. []) actor.parts.now) in
    let new = c.in-Some-Ok.new in
    on_ok_weaker c.push_take_to_page.result
    (λ pushed. record {
      pages = new ∷ [];
      numbered = (rw c.in-Some-Ok.field-0-is at c.in-Some-Ok.ensures.number, tt);
      memory = simp (to_z-of_z w64 c.args.address c.ranges.address, c.held_bytes.ensures.held) at
          (stored_by (to_z w64 (of_z w64 c.args.address)) (take c.args.n c.held_bytes.result.now) (slice_set actor.proc.now.space new.number new.page) caller (rw c.in-Some-Ok.field-0-is at (c.in-Some-Ok.ensures.answer caller refl)));
      added = pushed;
    })
    c.push_take_to_page.ensures.ok
