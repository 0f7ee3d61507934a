use Rattle.std.proofs.Common.{◌∙◌, sym}
use Rattle.tx_core.proofs.FreeNumbers.{member_owns, nobody_reserves, other_owns}
use Rattle.tx_core.proofs.free.other_owner.Goals as goal

pub returns-in_default : goal.returns-in_default
returns-in_default c = nobody_reserves c.args.content.now c.requires c.args.pid.0 c.args.object c.in_default.ensures

pub returns-then-is_member_of : goal.returns-then-is_member_of
returns-then-is_member_of c = member_owns c.args.content.now c.requires c.args.pid.0 c.args.object c.in-Some.owner.0 c.in-Some.ensures (sym c.if-is_member_of.true ∙ c.is_member_of.ensures)

pub returns : goal.returns
returns c = other_owns c.args.content.now c.requires c.args.pid.0 c.args.object c.in-Some.owner.0 c.in-Some.ensures (sym c.if-is_member_of.false ∙ c.is_member_of.ensures)
