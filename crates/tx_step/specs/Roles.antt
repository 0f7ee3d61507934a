-- The role of a step, as the machine has it.
use Rattle.std.specs.Prelude.{ℕ}
use Rattle.tx_step.specs.declared.roles.Start.{Start}
use Rattle.tx_step.specs.declared.roles.Start.TheVariants.{Nothing, Transaction}
use Rattle.tx_step.specs.declared.roles.StepRole.{StepRole}
use Rattle.tx_step.specs.declared.roles.StepRole.TheVariants as step
use Rattle.tx_content.specs.Progresses.{part_of}
use Rattle.tx_model.specs.Membership.{Role, Outside, Within, Begins, Commits, Aborts}
use Rattle.tx_model.specs.Words.{called_by_status}

-- the same, as the definitions have it, of a step of process p
abbrev pub role_as : ℕ → StepRole → Role
role_as p step.Outside = Outside
role_as p (step.Begins defers) = Within p (Begins defers)
role_as p (step.Inside starter progress) = Within starter.0 (part_of progress)
role_as p (step.Commits starter) = Commits starter.0
role_as p (step.Aborts starter) = Aborts starter.0 called_by_status

-- what a step of a process that is in no transaction is, by what it begins
abbrev pub role_alone : Start → StepRole
role_alone Nothing = step.Outside
role_alone (Transaction defers) = step.Begins defers
