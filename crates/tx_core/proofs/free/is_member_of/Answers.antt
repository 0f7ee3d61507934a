use Rattle.std.proofs.Common.{ap, ◌∙◌}
use Rattle.tx_core.proofs.Reading.{marks_read}
use Rattle.tx_model.specs.Membership.{is_of}
use Rattle.tx_core.proofs.free.is_member_of.Goals as goal

pub returns-in-Some : goal.returns-in-Some
returns-in-Some c = c.eq.ensures ∙ ap (is_of c.args.starter.0) (c.in-Some.ensures ∙ marks_read c.args.content.now c.args.pid.0)

pub returns-in-None : goal.returns-in-None
returns-in-None c = ap (is_of c.args.starter.0) (c.in-None.ensures ∙ marks_read c.args.content.now c.args.pid.0)
