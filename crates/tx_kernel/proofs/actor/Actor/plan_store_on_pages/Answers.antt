use Rattle.std.proofs.Common.{◌≢◌, rules, refl, w64}
use Rattle.std.proofs.lemmas.Int.{to_z-of_z}
use Rattle.tx_kernel.proofs.PageCalls.{is_fault}
use Rattle.tx_kernel.proofs.PartsOwned.{owned_page}
use Rattle.tx_kernel.specs.Actors.{caller_of}
use Rattle.tx_model.specs.Book.{store, with_memory}
use Rattle.tx_pages.specs.Outcomes.{with_pages}
use Rattle.tx_pages.specs.declared.errors.PageError.TheVariants.{Invalid, NoMemory}
use Rattle.tx_kernel.proofs.actor.Actor.plan_store_on_pages.Goals as goal

pub returns-in-Ok-clause-ok : goal.returns-in-Ok-clause-ok
returns-in-Ok-clause-ok c =
    owned_page c.plan_pages.result c.args.self.now c.args.log.now c.plan_pages.new.log (λ k. with_memory (with_pages k.process.memory c.in-Ok.new.pages.items) k) (store c.args.address c.args.bytes.now)
    (λ S. simp (to_z-of_z w64 c.args.address c.ranges.address) at (c.in-Ok.ensures.answer (caller_of c.args.self.now S) refl)) c.plan_pages.ensures.ok

pub returns-in-Err : goal.returns-in-Err
returns-in-Err c =
    let some : c.in-Err.field-0 ≢ NoMemory = search rules in
    let other : c.in-Err.field-0 ≢ Invalid = search rules in
    record {
      ok = c.plan_error.ensures.page (store c.args.address c.args.bytes.now)
          (λ S. simp (to_z-of_z w64 c.args.address c.ranges.address) at (is_fault c.in-Err.field-0 _ _ (caller_of c.args.self.now S) some other (c.in-Err.ensures.answer (caller_of c.args.self.now S) refl)));
      err = search rules;
    }
