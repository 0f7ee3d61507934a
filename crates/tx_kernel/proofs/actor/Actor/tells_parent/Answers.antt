use Rattle.std.proofs.Common.{◌≡◌, refl, Option, None, pos, true, false, eq-eqb, sym, subst}
use Rattle.std.proofs.lemmas.Bool.{ne_eqb}
use Rattle.tx_base.specs.declared.names.Sending.{Sending}
use Rattle.tx_kernel.proofs.Told.{tells_nobody, tells_outside, tells_member, tells_later}
use Rattle.tx_kernel.specs.Actors.{inside_of, transaction_of}
use Rattle.tx_kernel.specs.Plans.{held_after}
use Rattle.tx_kernel.specs.declared.inside.Inside.{Inside}
use Rattle.tx_kernel.specs.declared.planned.Sends.TheVariants.{AtOnce, AtCommit}
use Rattle.tx_model.specs.Processes.{parent_notice, notice_held}
use Rattle.tx_model.specs.State.{with_writes}
use Rattle.tx_kernel.proofs.actor.Actor.tells_parent.Goals as goal

pub returns-then-parent-eq1-clause-at_commit : goal.returns-then-parent-eq1-clause-at_commit
returns-then-parent-eq1-clause-at_commit c =
    λ S. tells_nobody c.args.self.now.inside c.args.self.now.proc.now.parent.0 S (eq-eqb c.args.self.now.proc.now.parent.0 1 c.if-parent-eq1.true)

pub returns-in_default-clause-at_commit : goal.returns-in_default-clause-at_commit
returns-in_default-clause-at_commit c =
    let parent = c.args.self.now.proc.now.parent in
    let told : Sending = record { target = parent; signo = record { 0 = 17 }; value = pos 0; from = None } in
    λ S. subst (λ (x : Option Inside). with_writes (notice_held (parent_notice (inside_of x) parent.0) parent.0 S) S ≡ record S { held = held_after (inside_of x) (AtOnce told) S.held })
    (sym c.in_default.is) (tells_outside told parent.0 S (ne_eqb parent.0 1 c.if-parent-eq1.false))

pub returns-then-has_member-clause-at_commit : goal.returns-then-has_member-clause-at_commit
returns-then-has_member-clause-at_commit c =
    let parent = c.args.self.now.proc.now.parent in
    let told : Sending = record { target = parent; signo = record { 0 = 17 }; value = pos 0; from = None } in
    let member : (transaction_of c.in-Some.inside).members parent.0 ≡ true = sym (rw c.in-Some.inside-is at c.if-has_member.ensures) in
    λ S. subst (λ (x : Option Inside). with_writes (notice_held (parent_notice (inside_of x) parent.0) parent.0 S) S ≡ record S { held = held_after (inside_of x) (AtOnce told) S.held })
    (sym c.in-Some.is) (tells_member c.in-Some.inside told parent.0 S (ne_eqb parent.0 1 c.if-parent-eq1.false) member)

pub returns-else-has_member-clause-at_commit : goal.returns-else-has_member-clause-at_commit
returns-else-has_member-clause-at_commit c =
    let parent = c.args.self.now.proc.now.parent in
    let told : Sending = record { target = parent; signo = record { 0 = 17 }; value = pos 0; from = None } in
    let outside : (transaction_of c.in-Some.inside).members parent.0 ≡ false = sym (rw c.in-Some.inside-is at c.if-has_member.ensures) in
    λ S. subst (λ (x : Option Inside). with_writes (notice_held (parent_notice (inside_of x) parent.0) parent.0 S) S ≡ record S { held = held_after (inside_of x) (AtCommit told) S.held })
    (sym c.in-Some.is) (tells_later c.in-Some.inside told parent.0 S (ne_eqb parent.0 1 c.if-parent-eq1.false) outside refl)
