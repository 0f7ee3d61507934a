use Rattle.txos.proofs.CommandNamed.{added}
use Rattle.txos.proofs.words.with_command.Goals as goal

pub returns : goal.returns
returns c =
    added _ _ _ _ c.in_ok-command.ensures.shape c.in_ok-command.ensures.local c.in_ok-line.ensures
