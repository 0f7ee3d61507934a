use Rattle.std.proofs.Common.{◌∙◌, subst, sym}
use Rattle.tx_check.proofs.FaultsIn.{header_there, label_there}
use Rattle.tx_check.proofs.ReadTexts.{but_read}
use Rattle.tx_check.specs.Reads.{Finds}
use Rattle.tx_check.specs.declared.kinds.Kind.{Kind}
use Rattle.tx_lines.specs.Schedule.{FaultsAtHeader}
use Rattle.tx_lines.specs.declared.read.header.TextKind.{TextKind}
use Rattle.tx_translate.specs.MeantLines.{left_of}
use Rattle.tx_check.proofs.faults.first_fault.Goals as goal

pub returns-in-Program-clause-finds : goal.returns-in-Program-clause-finds
returns-in-Program-clause-finds c =
    subst (λ (kind : Kind). Finds kind (left_of c.args.text.now.text) c.unlinked.result) (sym c.in-Program.is) c.unlinked.ensures.finds

pub returns-in-Schedule-clause-finds : goal.returns-in-Schedule-clause-finds
returns-in-Schedule-clause-finds c =
    but_read c.args.kind (left_of c.args.text.now.text) c.in-Ok.found.0.version (left_of c.in-Ok.found.1) c.in_default.ensures.finds c.in-Schedule.is

pub returns-in-Err-clause-there : goal.returns-in-Err-clause-there
returns-in-Err-clause-there c =
    let text = left_of c.args.text.now.text in
    let at = subst (λ (kind : TextKind). FaultsAtHeader kind text c.in-Err.fault) c.kind_of_head.ensures c.in-Err.ensures in
    header_there c.args.kind text c.in-Err.fault c.requires.kind at

pub returns-in-Program-clause-there : goal.returns-in-Program-clause-there
returns-in-Program-clause-there c =
    let text = left_of c.args.text.now.text in
    label_there text c.unlinked.result (sym c.in-Program.is ∙ c.requires.kind) c.unlinked.ensures.finds c.unlinked.ensures.label
