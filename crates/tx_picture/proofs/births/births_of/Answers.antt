use Rattle.std.proofs.Common.{◌+◌, ◌++◌, ◌∙◌, ap, ap₂, arith}
use Rattle.tx_picture.proofs.Named.{birth_more, births_whole}
use Rattle.tx_picture.specs.Names.{birth_by}
use Rattle.tx_picture.specs.Ties.{tie_of}
use Rattle.tx_picture.proofs.births.births_of.Goals as goal

pub loop-i-preserved : goal.loop-i-preserved
loop-i-preserved c =
    birth_more c.args.steps.now c.args.replies.now c.loop-i.i c.index-steps-i.result c.index-replies-i.result _ c.loop-i.births.items c.note_birth.new.births.items (omega arith) (omega arith) c.loop-i.invariant
    (c.in_ok-note_birth.ensures ∙ ap (λ tie. c.loop-i.births.items ++ birth_by (c.loop-i.i + 1) tie) (c.tie_of.ensures ∙ ap₂ tie_of c.index-steps-i.is c.index-replies-i.is))

pub returns : goal.returns
returns c = births_whole c.args.steps.now c.args.replies.now c.loop-i.i _ c.loop-i.births.items (omega arith) c.loop-i.invariant
