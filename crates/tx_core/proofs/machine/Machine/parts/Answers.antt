use Rattle.std.proofs.Common.{ap, sym, ◌∙◌}
use Rattle.tx_change.specs.States.{state_of}
use Rattle.tx_core.proofs.Reading.{state_read}
use Rattle.tx_content.specs.Content.{held_of, view_of}
use Rattle.tx_content.specs.declared.content.Content.{Content}
use Rattle.tx_model.specs.View.{present}
use Rattle.tx_core.proofs.machine.Machine.parts.Goals as goal

pub returns-clause-state : goal.returns-clause-state
returns-clause-state c =
    ap (λ (k : Content). state_of (held_of k) c.self.inside.content.parts) (sym c.self.view_is)
    ∙ state_read c.laws.ensures c.self.inside.content ∙ ap (λ (k : Content). present (view_of k)) c.self.view_is
