use Rattle.std.proofs.Common.{◌≡◌, true, false, IsSome, refl, sym, ap, subst, ◌∙◌}
use Rattle.tx_model.specs.SignalSets.{is_in_set, kill_signo}
use Rattle.tx_model.specs.State.{booted_process}
use Rattle.tx_step.proofs.Aborted.{none_live, status_seen, txn_live}
use Rattle.tx_txn.specs.declared.txn.Txn.{Txn}
use Rattle.tx_step.proofs.aborts.kernel_status.Goals as goal

pub returns-in_err-boxed-clause-live : goal.returns-in_err-boxed-clause-live
returns-in_err-boxed-clause-live c = (
  λ some. let clash : false ≡ true = subst IsSome c.from_residual.ensures some in cc,
  λ live. absurd (none_live c.args.content.now c.requires.kept c.args.starter.0 c.in_err-boxed.ensures live),
)

pub returns-then-is_doomed-clause-status : goal.returns-then-is_doomed-clause-status
returns-then-is_doomed-clause-status c =
    let doom : c.is_doomed.result ≡ is_in_set c.in_ok-boxed.boxed.now.txn.value.kept.pending.standard kill_signo
    = c.is_doomed.ensures (booted_process 1) ∙ ap (λ (txn : Txn). is_in_set txn.kept.pending.standard kill_signo) c.deref.ensures in
    status_seen c.laws.ensures c.args.content.now c.requires c.args.starter.0 c.in_ok-boxed.boxed.now (sym c.in_ok-boxed.ensures) true (sym c.if-is_doomed.true ∙ doom)

pub returns-else-is_doomed-clause-status : goal.returns-else-is_doomed-clause-status
returns-else-is_doomed-clause-status c =
    let doom : c.is_doomed.result ≡ is_in_set c.in_ok-boxed.boxed.now.txn.value.kept.pending.standard kill_signo
    = c.is_doomed.ensures (booted_process 1) ∙ ap (λ (txn : Txn). is_in_set txn.kept.pending.standard kill_signo) c.deref.ensures in
    status_seen c.laws.ensures c.args.content.now c.requires c.args.starter.0 c.in_ok-boxed.boxed.now (sym c.in_ok-boxed.ensures) false (sym c.if-is_doomed.false ∙ doom)

pub returns-then-is_doomed-clause-live : goal.returns-then-is_doomed-clause-live
returns-then-is_doomed-clause-live c = (λ some. txn_live c.args.content.now c.requires.kept c.args.starter.0 (subst IsSome c.in_ok-boxed.ensures refl), λ live. refl)

pub returns-else-is_doomed-clause-live : goal.returns-else-is_doomed-clause-live
returns-else-is_doomed-clause-live c = (λ some. txn_live c.args.content.now c.requires.kept c.args.starter.0 (subst IsSome c.in_ok-boxed.ensures refl), λ live. refl)
