use Rattle.std.proofs.Common.{◌∙◌, ap, option_map}
use Rattle.tx_base.specs.declared.marks.Mark.{Mark}
use Rattle.tx_core.proofs.Reading.{marks_read}
use Rattle.tx_content.specs.Content.{view_of}
use Rattle.tx_content.specs.declared.content.Content.{Content}
use Rattle.tx_core.proofs.machine.Machine.txn_of.Goals as goal

pub returns-in-Some : goal.returns-in-Some
returns-in-Some c =
    ap (option_map (λ (m : Mark). m.starter)) (c.in-Some.ensures ∙ marks_read c.self.inside.content c.args.pid.0 ∙ ap (λ (k : Content). (view_of k).table.marks c.args.pid.0) c.self.view_is)

pub returns-in-None : goal.returns-in-None
returns-in-None c =
    ap (option_map (λ (m : Mark). m.starter)) (c.in-None.ensures ∙ marks_read c.self.inside.content c.args.pid.0 ∙ ap (λ (k : Content). (view_of k).table.marks c.args.pid.0) c.self.view_is)
