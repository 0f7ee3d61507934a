use Rattle.tx_content.specs.Content.{held_of}
use Rattle.tx_step.proofs.StepFootprints.{set_seen}
use Rattle.tx_step.proofs.named.footprint.Goals as goal

pub returns : goal.returns
returns c = set_seen c.laws.ensures.present c.args.content.now c.args.step.now c.footprint.result c.requires.shaped (c.footprint.ensures (held_of c.args.content.now) c.held_for.ensures)
