use Rattle.std.proofs.Common.{◌≢◌, rules, refl, w64}
use Rattle.std.proofs.lemmas.Int.{to_z-of_z}
use Rattle.tx_kernel.proofs.PageCalls.{is_invalid}
use Rattle.tx_kernel.specs.Actors.{caller_of}
use Rattle.tx_model.specs.Book.{map}
use Rattle.tx_pages.specs.declared.errors.PageError.TheVariants.{Fault, NoMemory}
use Rattle.tx_kernel.proofs.actor.Actor.plan_map.Goals as goal

pub returns-in-Ok-clause-ok : goal.returns-in-Ok-clause-ok
returns-in-Ok-clause-ok c =
    c.plan_page.ensures.page (map c.args.page) (λ S. simp (to_z-of_z w64 c.args.page c.ranges.page) at (c.in-Ok.ensures.answer (caller_of c.args.self.now S) refl))

pub returns-in-Err : goal.returns-in-Err
returns-in-Err c =
    let some : c.in-Err.field-0 ≢ NoMemory = search rules in
    let other : c.in-Err.field-0 ≢ Fault = search rules in
    record {
      ok = c.plan_error.ensures.page (map c.args.page)
          (λ S. simp (to_z-of_z w64 c.args.page c.ranges.page) at (is_invalid c.in-Err.field-0 _ _ (caller_of c.args.self.now S) some other (c.in-Err.ensures.answer (caller_of c.args.self.now S) refl)));
      err = search rules;
    }
