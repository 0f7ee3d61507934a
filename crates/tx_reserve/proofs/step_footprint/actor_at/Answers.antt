use Rattle.tx_reserve.proofs.step_footprint.actor_at.Goals as goal

pub returns-clause-inside : goal.returns-clause-inside
returns-clause-inside c = c.inside_at-inside.ensures c.args.parts.now
