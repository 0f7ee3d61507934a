-- The calls that concern only their own process. Own rules.
use Rattle.std.specs.Prelude.{◌≡◌, Bool, true, false, []}
use Rattle.tx_base.specs.declared.steps.Call.{Call}
use Rattle.tx_base.specs.declared.steps.Call.TheVariants as call
use Rattle.tx_model.specs.Answer.{IsAccepted}
use Rattle.tx_model.specs.Book.{page_of_call}
use Rattle.tx_model.specs.Forms.{Caller, Outcome, fails, answers, changes, stands}

-- it reads and changes only its process
abbrev pub concerns_itself_alone : Call → Bool
concerns_itself_alone (call.Fork child) = false
concerns_itself_alone (call.Exit status) = false
concerns_itself_alone (call.Waitpid target nohang) = false
concerns_itself_alone (call.Pipe pipe read write) = false
concerns_itself_alone (call.Dup fd) = false
concerns_itself_alone (call.Dup2 fd other) = false
concerns_itself_alone (call.Close fd) = false
concerns_itself_alone (call.SetNonblock fd on) = false
concerns_itself_alone (call.Read fd address count) = false
concerns_itself_alone (call.Write fd address count) = false
concerns_itself_alone (call.Kill target signo) = false
concerns_itself_alone (call.Sigqueue target signo value) = false
concerns_itself_alone c = true

-- it answers, and changes at most the process
abbrev pub IsOwnOutcome : Outcome → Type 0
IsOwnOutcome (fails errno) = Unit {0}
IsOwnOutcome (answers r) = Unit {0}
IsOwnOutcome (changes r q []) = Unit {0}
IsOwnOutcome (stands q reply) = IsAccepted reply
IsOwnOutcome outcome = ⊥

-- such a call has such an outcome, whoever makes it
abbrev pub OwnCallsStayOwn : Type 0
OwnCallsStayOwn =
    (c : Caller) (asked : Call) → concerns_itself_alone asked ≡ true
    → IsOwnOutcome ((page_of_call asked).outcome c)
