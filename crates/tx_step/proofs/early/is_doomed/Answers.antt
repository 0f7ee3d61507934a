use Rattle.std.proofs.Common.{sym, ap, ◌∙◌}
use Rattle.std.specs.Option.{option_copied}
use Rattle.tx_step.proofs.Refusals.{doom_seen}
use Rattle.tx_model.specs.SignalSets.{is_in_set, kill_signo}
use Rattle.tx_model.specs.State.{booted_process}
use Rattle.tx_txn.specs.declared.txn.Txn.{Txn}
use Rattle.tx_step.proofs.early.is_doomed.Goals as goal

pub returns : goal.returns
returns c =
    c.is_doomed.ensures (booted_process 1)
    ∙ ap (λ (txn : Txn). is_in_set txn.kept.pending.standard kill_signo) c.deref.ensures
    ∙ doom_seen c.laws.ensures c.args.content.now c.args.starter c.requires.kept c.unwrap.result.now (sym c.get.ensures ∙ ap option_copied c.unwrap.ensures)
