-- The kinds of calls that are planned alike.
use Rattle.std.specs.Prelude.{Bool, true, false}
use Rattle.tx_base.specs.declared.steps.Call.{Call}
use Rattle.tx_base.specs.declared.steps.Call.TheVariants as call

-- it sends no signal, whatever it is answered
abbrev pub sends_nothing : Call → Bool
sends_nothing (call.Kill target signo) = false
sends_nothing (call.Sigqueue target signo value) = false
sends_nothing (call.Exit status) = false
sends_nothing (call.Write fd address count) = false
sends_nothing c = true
