-- The processes at the start.
use Rattle.std.specs.Prelude.{ℕ, Option, Some, None, if◌then◌else◌}
use Rattle.tx_model.specs.State.{Process, booted_process, is_between}

-- what a number has where processes 1 to count were booted
abbrev pub booted_slot : ℕ → ℕ → Option Process
booted_slot count n = if is_between count n then Some (booted_process n) else None
