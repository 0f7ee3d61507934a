use Rattle.tx_step.proofs.LateTold.{why_told}
use Rattle.tx_step.proofs.late.late_refusal.Goals as goal

pub returns-in_default : goal.returns-in_default
returns-in_default c = why_told c.args.content.now _ c.args.why c.requires.refused c.in_default.not-NoMemory
