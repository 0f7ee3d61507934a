-- A step that stands for none yet.
use Rattle.tx_base.specs.declared.steps.Call.TheVariants.{Getpid}
use Rattle.tx_base.specs.declared.steps.Step.{Step}
use Rattle.tx_base.specs.declared.steps.Step.TheVariants.{Call}

abbrev pub blank_step : Step
blank_step = Call (record { 0 = 0 }) Getpid
