use Rattle.std.proofs.Common.{◌∙◌, ap}
use Rattle.tx_check.specs.Numbered.{behind}
use Rattle.tx_check.proofs.Numbered.{lines_more}
use Rattle.tx_check.proofs.own.TextFrom.moved_to.Goals as goal

pub loop-passed-preserved : goal.loop-passed-preserved
loop-passed-preserved c =
    c.after_first_line-left.ensures ∙ ap behind c.loop-passed.invariant ∙ lines_more c.loop-passed._passed c.args.self.left.now
