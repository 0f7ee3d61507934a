-- The outcome of a call on ids.
use Rattle.std.specs.Prelude.{Result, Ok, Err}
use Rattle.tx_base.specs.declared.errors.Errno.{Errno}
use Rattle.tx_model.specs.Book.{with_ids}
use Rattle.tx_model.specs.Forms.{Caller, Outcome, fails}
use Rattle.tx_model.specs.State.{Ids}

-- the process has these ids and answers 0, or the error is the answer
abbrev pub ids_outcome : Result (Unit {0}) Errno → Ids → Caller → Outcome
ids_outcome (Ok _) ids c = with_ids ids c
ids_outcome (Err errno) ids c = fails errno
