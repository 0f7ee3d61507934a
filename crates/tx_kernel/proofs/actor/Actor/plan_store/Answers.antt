use Rattle.std.proofs.Common.{◌≡◌, ◌≢◌, List, ℕ, rules, refl, subst, slice_set, w64}
use Rattle.std.proofs.lemmas.Int.{to_z-of_z}
use Rattle.tx_base.specs.declared.errors.Errno.TheVariants.{BadAddress}
use Rattle.tx_kernel.proofs.PageCalls.{is_fault}
use Rattle.tx_kernel.specs.Actors.{caller_of, me_of}
use Rattle.tx_model.specs.Book.{store, with_memory}
use Rattle.tx_model.specs.Forms.{fails}
use Rattle.tx_pages.specs.declared.errors.PageError.TheVariants.{Invalid, NoMemory}
use Rattle.tx_kernel.proofs.actor.Actor.plan_store.Goals as goal

pub returns-in-Some-Ok-clause-ok : goal.returns-in-Some-Ok-clause-ok
returns-in-Some-Ok-clause-ok c =
    let actor = c.args.self.now in
    let new = c.in-Some-Ok.new in
    c.plan_page.ensures.page (store c.args.address c.args.bytes.now.items)
    (λ S. rw c.in-Some-Ok.new-is (subst (λ (bytes : List ℕ). store c.args.address bytes (caller_of actor S) ≡ with_memory (slice_set (me_of actor).memory new.number new.page) (caller_of actor S))
    c.as_slice-bytes.ensures.value
    (simp (to_z-of_z w64 c.args.address c.ranges.address) at (rw c.in-Some-Ok.field-0-is at (c.in-Some-Ok.ensures.answer (caller_of actor S) refl)))))

pub returns-in-Some-Err : goal.returns-in-Some-Err
returns-in-Some-Err c =
    let actor = c.args.self.now in
    let why = c.in-Some-Err.field-0-0 in
    let some : why ≢ NoMemory = search rules in
    let other : why ≢ Invalid = search rules in
    record {
      ok = c.plan_error.ensures.page (store c.args.address c.args.bytes.now.items)
          (λ S. subst (λ (bytes : List ℕ). store c.args.address bytes (caller_of actor S) ≡ fails BadAddress) c.as_slice-bytes.ensures.value
          (simp (to_z-of_z w64 c.args.address c.ranges.address) at (is_fault why _ _ (caller_of actor S) some other (rw c.in-Some-Err.field-0-is at (c.in-Some-Err.ensures.answer (caller_of actor S) refl)))));
      err = search rules;
    }
