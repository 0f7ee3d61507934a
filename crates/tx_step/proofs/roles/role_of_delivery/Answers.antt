use Rattle.std.proofs.Common.{Some, true, false, sym, ap, ◌∙◌}
use Rattle.std.specs.Option.{option_copied}
use Rattle.tx_step.proofs.Refusals.{marked_live}
use Rattle.tx_step.proofs.RolesTold.{delivery_role, outside_delivery}
use Rattle.tx_step.proofs.roles.role_of_delivery.Goals as goal

pub returns-in_default : goal.returns-in_default
returns-in_default c =
    outside_delivery c.laws.ensures.present c.endings.ensures.delivery c.args.content.now c.args.pid c.requires.running
    (sym c.get.ensures ∙ ap option_copied c.in_default.is) c.args.signo

pub member_end-requires-clause-live : goal.member_end-requires-clause-live
member_end-requires-clause-live c = marked_live c.args.content.now c.args.pid c.in-Some.mark.now c.requires.kept (sym c.get.ensures ∙ ap option_copied c.in-Some.is)

pub returns-then-is_member_ended : goal.returns-then-is_member_ended
returns-then-is_member_ended c =
    c.member_end.ensures
    ∙ delivery_role c.laws.ensures.present c.args.content.now c.args.pid c.requires.running (Some c.in-Some.mark.now) (sym c.get.ensures ∙ ap option_copied c.in-Some.is)
    c.endings.ensures.delivery c.args.signo c.unwrap-proc.result.now (sym c.proc.ensures ∙ ap option_copied c.unwrap-proc.ensures)
    true (sym c.if-is_member_ended.true ∙ c.is_member_ended.ensures)

pub returns-else-is_member_ended : goal.returns-else-is_member_ended
returns-else-is_member_ended c =
    delivery_role c.laws.ensures.present c.args.content.now c.args.pid c.requires.running (Some c.in-Some.mark.now) (sym c.get.ensures ∙ ap option_copied c.in-Some.is)
    c.endings.ensures.delivery c.args.signo c.unwrap-proc.result.now (sym c.proc.ensures ∙ ap option_copied c.unwrap-proc.ensures)
    false (sym c.if-is_member_ended.false ∙ c.is_member_ended.ensures)

pub is_member_ended-requires-clause-live : goal.is_member_ended-requires-clause-live
is_member_ended-requires-clause-live c = marked_live c.args.content.now c.args.pid c.in-Some.mark.now c.requires.kept (sym c.get.ensures ∙ ap option_copied c.in-Some.is)
