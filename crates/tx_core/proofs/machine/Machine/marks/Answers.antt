use Rattle.std.proofs.Common.{◌∙◌, ap}
use Rattle.tx_core.proofs.Reading.{marks_read}
use Rattle.tx_content.specs.Content.{view_of}
use Rattle.tx_content.specs.declared.content.Content.{Content}
use Rattle.tx_core.proofs.machine.Machine.marks.Goals as goal

pub returns-clause-table : goal.returns-clause-table
returns-clause-table c n = marks_read c.self.inside.content n ∙ ap (λ (k : Content). (view_of k).table.marks n) c.self.view_is
