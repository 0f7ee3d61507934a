use Rattle.std.proofs.Common.{true, false, None, Some, refl, sym, ◌∙◌}
use Rattle.tx_step.proofs.Refusals.{own_seen}
use Rattle.tx_step.proofs.early.refusal_of_runner.Goals as goal

pub returns-in-Some : goal.returns-in-Some
returns-in-Some c =
    own_seen c.laws.ensures c.args.content.now c.args.pid c.args.proc.now c.args.delivers_kill (Some c.in-Some.why) _ c.requires.there (sym c.in-Some.is ∙ c.refusal_of_member.ensures) refl

pub returns-then-is_held_by_kill : goal.returns-then-is_held_by_kill
returns-then-is_held_by_kill c =
    own_seen c.laws.ensures c.args.content.now c.args.pid c.args.proc.now c.args.delivers_kill None true c.requires.there (sym c.in_default.is ∙ c.refusal_of_member.ensures)
    (sym c.if-is_held_by_kill.true ∙ c.is_held_by_kill.ensures)

pub returns : goal.returns
returns c =
    own_seen c.laws.ensures c.args.content.now c.args.pid c.args.proc.now c.args.delivers_kill None false c.requires.there (sym c.in_default.is ∙ c.refusal_of_member.ensures)
    (sym c.if-is_held_by_kill.false ∙ c.is_held_by_kill.ensures)
