use Rattle.std.proofs.Common.{◌∙◌, sym}
use Rattle.tx_check.proofs.LineParts.{label_of}
use Rattle.tx_check.proofs.labels.is_label_of.Goals as goal

pub returns-then-is_label : goal.returns-then-is_label
returns-then-is_label c = label_of c.args.line.now c.args.name.now c.eq.result (sym c.is_label.ensures.is ∙ c.if-is_label.true) c.eq.ensures
