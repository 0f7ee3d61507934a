use Rattle.std.proofs.Common.{IfOk, List, ap, length, sym, subst, rules}
use Rattle.std.proofs.lemmas.Int.{to_z-of_z}
use Rattle.std.specs.Int.{w64}
use Rattle.std.specs.Prelude.{FitsSigned}
use Rattle.tx_base.specs.declared.steps.Call.{Call}
use Rattle.tx_change.specs.declared.change.Change.{Change}
use Rattle.tx_kernel.proofs.AnyCall.{chooses_nothing}
use Rattle.tx_kernel.proofs.OwnPlans.{own_plans}
use Rattle.tx_kernel.specs.Actors.{effect_by, names_by}
use Rattle.tx_kernel.specs.Plans.{Plans, quiet}
use Rattle.tx_kernel.specs.declared.actor.Actor.{Actor}
use Rattle.tx_kernel.specs.declared.planned.Outcome.{Outcome}
use Rattle.tx_model.specs.Answer.{is_bad_choice}
use Rattle.tx_model.specs.Book.{page_of_call}
use Rattle.tx_kernel.proofs.actor.Actor.plan_quiet.Goals as goal

-- what was planned is the plan of the call
abbrev PlansCall : Actor → List Change → List Change → Call → Outcome → Type 0
PlansCall actor before now call outcome = Plans actor before now (quiet outcome) (effect_by actor (page_of_call call).outcome) (names_by actor (page_of_call call).names)

pub returns-in-Fork-clause-ok : goal.returns-in-Fork-clause-ok
returns-in-Fork-clause-ok c few =
    subst (λ (call : Call). IfOk c.plan_fork.result (PlansCall c.args.self.now c.args.log.now c.plan_fork.new.log call)) (sym c.in-Fork.is) c.plan_fork.ensures.ok

pub returns-in-Waitpid-clause-ok : goal.returns-in-Waitpid-clause-ok
returns-in-Waitpid-clause-ok c few =
    let fits_number : FitsSigned w64 c.in-Waitpid.number = search rules in
    subst (λ (call : Call). IfOk c.plan_waitpid.result (PlansCall c.args.self.now c.args.log.now c.plan_waitpid.new.log call)) (sym c.in-Waitpid.is) (simp (to_z-of_z w64 c.in-Waitpid.number fits_number) at c.plan_waitpid.ensures.ok)

pub returns-in-Pipe-clause-ok : goal.returns-in-Pipe-clause-ok
returns-in-Pipe-clause-ok c few =
    subst (λ (call : Call). IfOk c.plan_pipe.result (PlansCall c.args.self.now c.args.log.now c.plan_pipe.new.log call)) (sym c.in-Pipe.is) c.plan_pipe.ensures.ok

pub returns-in-Dup-clause-ok : goal.returns-in-Dup-clause-ok
returns-in-Dup-clause-ok c few =
    let fits_fd : FitsSigned w64 c.in-Dup.fd = search rules in
    subst (λ (call : Call). IfOk c.plan_dup.result (PlansCall c.args.self.now c.args.log.now c.plan_dup.new.log call)) (sym c.in-Dup.is) (simp (to_z-of_z w64 c.in-Dup.fd fits_fd) at c.plan_dup.ensures.ok)

pub returns-in-Dup2-clause-ok : goal.returns-in-Dup2-clause-ok
returns-in-Dup2-clause-ok c few =
    let fits_fd : FitsSigned w64 c.in-Dup2.fd = search rules in
    let fits_other : FitsSigned w64 c.in-Dup2.other = search rules in
    subst (λ (call : Call). IfOk c.plan_dup2.result (PlansCall c.args.self.now c.args.log.now c.plan_dup2.new.log call)) (sym c.in-Dup2.is) (simp (to_z-of_z w64 c.in-Dup2.fd fits_fd, to_z-of_z w64 c.in-Dup2.other fits_other) at c.plan_dup2.ensures.ok)

pub returns-in-Close-clause-ok : goal.returns-in-Close-clause-ok
returns-in-Close-clause-ok c few =
    let fits_fd : FitsSigned w64 c.in-Close.fd = search rules in
    subst (λ (call : Call). IfOk c.plan_close.result (PlansCall c.args.self.now c.args.log.now c.plan_close.new.log call)) (sym c.in-Close.is) (simp (to_z-of_z w64 c.in-Close.fd fits_fd) at c.plan_close.ensures.ok)

pub returns-in-SetNonblock-clause-ok : goal.returns-in-SetNonblock-clause-ok
returns-in-SetNonblock-clause-ok c few =
    let fits_fd : FitsSigned w64 c.in-SetNonblock.fd = search rules in
    subst (λ (call : Call). IfOk c.plan_nonblock.result (PlansCall c.args.self.now c.args.log.now c.plan_nonblock.new.log call)) (sym c.in-SetNonblock.is) (simp (to_z-of_z w64 c.in-SetNonblock.fd fits_fd) at c.plan_nonblock.ensures.ok)

pub returns-in-Read-clause-ok : goal.returns-in-Read-clause-ok
returns-in-Read-clause-ok c few =
    let fits_fd : FitsSigned w64 c.in-Read.fd = search rules in
    let fits_address : FitsSigned w64 c.in-Read.address = search rules in
    let fits_count : FitsSigned w64 c.in-Read.count = search rules in
    subst (λ (call : Call). IfOk c.plan_read.result (PlansCall c.args.self.now c.args.log.now c.plan_read.new.log call)) (sym c.in-Read.is) (simp (to_z-of_z w64 c.in-Read.fd fits_fd, to_z-of_z w64 c.in-Read.address fits_address, to_z-of_z w64 c.in-Read.count fits_count) at c.plan_read.ensures.ok)

pub returns-in_ok-plan_own-in_default : goal.returns-in_ok-plan_own-in_default
returns-in_ok-plan_own-in_default c =
    let actor = c.args.self.now in
    let page = page_of_call c.args.call.now in
    record {
      ok = λ few. own_plans c.laws.ensures actor c.args.log.now c.plan_own.new.log c.in_ok-plan_own-in_default.field-0 (effect_by actor page.outcome) (names_by actor page.names) c.sized.ensures c.requires
          (c.in_ok-plan_own-in_default.ensures.ok (search rules));
      refused = tt;
      numbers = ap (is_bad_choice (length actor.parts.now.procs)) (chooses_nothing c.args.call.now c.in_default.not-Fork c.in_default.not-Pipe);
      log = tt;
    }
