-- Numbers without the type that names them.
use Rattle.std.specs.Prelude.{ℕ}
use Rattle.tx_base.specs.declared.names.Pid.{Pid}
use Rattle.tx_base.specs.declared.names.Signo.{Signo}

abbrev pub process_number : Pid → ℕ
process_number pid = pid.0

abbrev pub signal_number : Signo → ℕ
signal_number signo = signo.0
