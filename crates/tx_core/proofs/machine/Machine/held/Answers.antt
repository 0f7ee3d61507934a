use Rattle.std.proofs.Common.{ap, map, ◌∙◌}
use Rattle.tx_core.proofs.Reading.{state_read}
use Rattle.tx_kernel.specs.Plans.{sending_of}
use Rattle.tx_content.specs.Content.{held_in, view_of}
use Rattle.tx_content.specs.declared.content.Content.{Content}
use Rattle.tx_model.specs.State.{State}
use Rattle.tx_model.specs.View.{present}
use Rattle.tx_txn.specs.declared.txn.Txn.{Txn}
use Rattle.tx_core.proofs.machine.Machine.held.Goals as goal

pub returns-in-Some : goal.returns-in-Some
returns-in-Some c =
    ap (map sending_of) (c.held.ensures ∙ ap (λ (txn : Txn). txn.outbox.sendings) c.deref.ensures)
    ∙ ap held_in c.in-Some.ensures
    ∙ ap (λ (S : State). S.held c.args.starter.0) (state_read c.laws.ensures c.self.inside.content ∙ ap (λ (k : Content). present (view_of k)) c.self.view_is)

pub returns-in-None : goal.returns-in-None
returns-in-None c =
    ap held_in c.in-None.ensures
    ∙ ap (λ (S : State). S.held c.args.starter.0) (state_read c.laws.ensures c.self.inside.content ∙ ap (λ (k : Content). present (view_of k)) c.self.view_is)
