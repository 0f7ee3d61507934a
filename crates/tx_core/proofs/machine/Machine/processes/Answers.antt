use Rattle.std.proofs.Common.{ap, ◌∙◌}
use Rattle.tx_core.proofs.Reading.{width_read}
use Rattle.tx_content.specs.Content.{view_of}
use Rattle.tx_content.specs.declared.content.Content.{Content}
use Rattle.tx_core.proofs.machine.Machine.processes.Goals as goal

pub returns-clause-table : goal.returns-clause-table
returns-clause-table c = c.width.ensures ∙ width_read c.self.inside.content c.self.invariant.content ∙ ap (λ (k : Content). (view_of k).table.width) c.self.view_is
