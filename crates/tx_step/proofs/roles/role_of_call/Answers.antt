use Rattle.std.proofs.Common.{None, Some, sym, ap, ◌∙◌}
use Rattle.std.specs.Option.{option_copied}
use Rattle.tx_step.proofs.Refusals.{marked_live}
use Rattle.tx_step.proofs.RolesTold.{call_role}
use Rattle.tx_step.specs.Roles.{role_as}
use Rattle.tx_laws.specs.Endings.{end_reply}
use Rattle.tx_reserve.specs.Footprints.{ends_part}
use Rattle.tx_txn.specs.Marks.{table_at}
use Rattle.tx_step.proofs.roles.role_of_call.Goals as goal

pub role_of_member-requires-clause-live : goal.role_of_member-requires-clause-live
role_of_member-requires-clause-live c = marked_live c.args.content.now c.args.pid c.in-Some.mark.now c.requires.kept (sym c.get.ensures ∙ ap option_copied c.in-Some.is)

pub returns-in-Some : goal.returns-in-Some
returns-in-Some c =
    c.role_of_member.ensures
    ∙ call_role c.laws.ensures.present c.args.content.now c.args.pid c.requires.running (Some c.in-Some.mark.now) (sym c.get.ensures ∙ ap option_copied c.in-Some.is)
    c.endings.ensures.other_call c.endings.ensures.exit c.args.call.now

pub returns-in-None : goal.returns-in-None
returns-in-None c =
    ap (role_as c.args.pid.0) c.role_alone.ensures ∙ c.beginning.ensures (table_at c.args.content.now.marks) c.args.pid.0 (end_reply (ends_part c.args.pid.0 c.args.call.now))
    ∙ call_role c.laws.ensures.present c.args.content.now c.args.pid c.requires.running None (sym c.get.ensures ∙ ap option_copied c.in-None.is)
    c.endings.ensures.other_call c.endings.ensures.exit c.args.call.now
