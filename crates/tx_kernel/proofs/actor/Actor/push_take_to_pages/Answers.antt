use Rattle.std.proofs.Common.{[], ◌∷◌, map, refl, take, w64, to_z, of_z}
use Rattle.std.proofs.lemmas.Int.{to_z-of_z}
use Rattle.tx_change.specs.States.{state_of}
use Rattle.tx_change.specs.declared.change.Change.TheVariants.{Pipe}
use Rattle.tx_change.specs.declared.pipes.PipePart.TheVariants.{Front}
use Rattle.tx_kernel.proofs.NamedCalls.{appended2}
use Rattle.tx_kernel.proofs.PageCalls.{stored_by}
use Rattle.tx_kernel.specs.Actors.{caller_of}
use Rattle.tx_kernel.specs.Own.{page_change}
use Rattle.tx_pages.specs.Outcomes.{with_pages}
use Rattle.tx_kernel.proofs.actor.Actor.push_take_to_pages.Goals as goal

pub returns-clause-ok : goal.returns-clause-ok
returns-clause-ok c =
    let caller = caller_of c.args.self.now (state_of (λ starter. []) c.args.self.now.parts.now) in
    record {
      pages = c.in-Ok.new.pages.items;
      numbered = c.in-Ok.ensures.numbers;
      memory = simp (to_z-of_z w64 c.args.address c.ranges.address, c.held_bytes.ensures.held) at
          (stored_by (to_z w64 (of_z w64 c.args.address)) (take c.args.n c.held_bytes.result.now) (with_pages c.args.self.now.proc.now.space c.in-Ok.new.pages.items) caller (c.in-Ok.ensures.answer caller refl));
      added = appended2 c.args.log.now (Pipe c.args.pipe (Front c.args.n []) ∷ []) (map (page_change c.args.self.now.pid) c.in-Ok.new.pages.items) c.push.new.self c.push_pages.new.log
          (rw (c.in_ok-none.ensures, c.new.ensures, c.reserve.ensures) at c.in_ok-push.ensures.ok) c.in_ok-push_pages.ensures.ok;
    }
