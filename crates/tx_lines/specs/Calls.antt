-- The text of a call, without the process that makes it: a name, and arguments. One table has both
-- for each call; all else follows from it, but for the group that a call is read with, and its
-- numbers.
use Rattle.std.specs.Prelude.{ℕ, ℤ, ◌^◌, Bool, true, false, List, [], ◌∷◌, ◌++◌, codes}
use Rattle.std.specs.Fmt.{signed_decimal}
use Rattle.std.specs.List.{filter}
use Rattle.tx_base.specs.declared.signals.Action.{Action}
use Rattle.tx_base.specs.declared.signals.Action.TheVariants.{Usual, Ignore, Catch}
use Rattle.tx_base.specs.declared.signals.How.{How}
use Rattle.tx_base.specs.declared.signals.How.TheVariants.{Block, Unblock, Set}
use Rattle.tx_base.specs.declared.steps.Call.{Call}
use Rattle.tx_base.specs.declared.steps.Call.TheVariants as call
use Rattle.tx_base.specs.declared.steps.When.{When}
use Rattle.tx_base.specs.declared.steps.When.TheVariants.{Always, IfRet}
use Rattle.tx_lines.specs.Arguments.{is_spelled, text_of, AllFit, Argument, Number, Point, Chosen, Word, Bytes, Signals}

-- what may be done with a page
abbrev pub access_text : Bool → List ℕ
access_text false = codes "r"
access_text true = codes "rw"

-- whether a call waits for a child
abbrev pub waiting_text : Bool → List ℕ
waiting_text false = codes "wait"
waiting_text true = codes "nohang"

-- whether a description is nonblocking
abbrev pub switch_text : Bool → List ℕ
switch_text false = codes "off"
switch_text true = codes "on"

-- how a mask is changed
abbrev pub how_text : How → List ℕ
how_text Block = codes "block"
how_text Unblock = codes "unblock"
how_text Set = codes "set"

-- the name and the arguments of what is done about a signal
abbrev pub action_parts : Action → List ℕ × List Argument
action_parts Usual = (codes "default", [])
action_parts Ignore = (codes "ignore", [])
action_parts (Catch point mask) = (codes "catch", Point point ∷ Signals mask ∷ [])

-- those of when a jump is made
abbrev pub when_parts : When → List ℕ × List Argument
when_parts Always = (codes "always", [])
when_parts (IfRet ret) = (codes "if", Number ret ∷ [])

-- a name and its arguments, as arguments of a call
abbrev pub as_arguments : List ℕ × List Argument → List Argument
as_arguments parts = Word parts.0 ∷ parts.1

-- the name and the arguments of each call
abbrev pub parts_of : Call → List ℕ × List Argument
parts_of (call.Map page) = (codes "map", Number page ∷ [])
parts_of (call.Unmap page) = (codes "unmap", Number page ∷ [])
parts_of (call.Protect page writable) =
    (codes "protect", Number page ∷ Word (access_text writable) ∷ [])
parts_of (call.Store address bytes) = (codes "store", Number address ∷ Bytes bytes.items ∷ [])
parts_of (call.Load address) = (codes "load", Number address ∷ [])
parts_of (call.Fork child) = (codes "fork", Chosen (2 ^ 16) child.0 ∷ [])
parts_of (call.Exit status) = (codes "exit", Number status ∷ [])
parts_of (call.Waitpid target nohang) =
    (codes "waitpid", Number target ∷ Word (waiting_text nohang) ∷ [])
parts_of call.Getpid = (codes "getpid", [])
parts_of call.Getppid = (codes "getppid", [])
parts_of (call.Setuid id) = (codes "setuid", Number id ∷ [])
parts_of (call.Seteuid id) = (codes "seteuid", Number id ∷ [])
parts_of (call.Setgid id) = (codes "setgid", Number id ∷ [])
parts_of (call.Setegid id) = (codes "setegid", Number id ∷ [])
parts_of (call.Pipe pipe read write) =
    (codes "pipe", Chosen (2 ^ 8) pipe.0 ∷ Chosen (2 ^ 8) read.0 ∷ Chosen (2 ^ 8) write.0 ∷ [])
parts_of (call.Dup fd) = (codes "dup", Number fd ∷ [])
parts_of (call.Dup2 from to) = (codes "dup2", Number from ∷ Number to ∷ [])
parts_of (call.Close fd) = (codes "close", Number fd ∷ [])
parts_of (call.SetNonblock fd on) = (codes "set_nonblock", Number fd ∷ Word (switch_text on) ∷ [])
parts_of (call.Read fd address count) =
    (codes "read", Number fd ∷ Number address ∷ Number count ∷ [])
parts_of (call.Write fd address count) =
    (codes "write", Number fd ∷ Number address ∷ Number count ∷ [])
parts_of (call.Kill target signo) = (codes "kill", Number target ∷ Number signo ∷ [])
parts_of (call.Sigqueue target signo value) =
    (codes "sigqueue", Number target ∷ Number signo ∷ Number value ∷ [])
parts_of (call.Sigaction signo action) =
    (codes "sigaction", Number signo ∷ as_arguments (action_parts action))
parts_of (call.Sigprocmask how set) = (codes "sigprocmask", Word (how_text how) ∷ Signals set ∷ [])
parts_of call.Sigpending = (codes "sigpending", [])
parts_of call.Sigreturn = (codes "sigreturn", [])
parts_of (call.ConsoleWrite address count) =
    (codes "console_write", Number address ∷ Number count ∷ [])
parts_of (call.Jump point when) = (codes "jump", Point point ∷ as_arguments (when_parts when))
parts_of (call.Keep slot) = (codes "keep", Number slot ∷ [])
parts_of call.SysXbegin = (codes "sys_xbegin", [])
parts_of call.SysXbeginDefer = (codes "sys_xbegin", Word (codes "defer") ∷ [])
parts_of call.SysXend = (codes "sys_xend", [])
parts_of call.SysXabort = (codes "sys_xabort", [])

-- the group of a call: those known by the front of their text, memory, processes, ids, descriptors,
-- transfers, signals, script, and those without arguments
abbrev pub group_of : Call → ℕ
group_of (call.Store address bytes) = 0
group_of (call.Load address) = 0
group_of call.SysXbegin = 0
group_of call.SysXbeginDefer = 0
group_of call.SysXend = 0
group_of call.SysXabort = 0
group_of (call.Map page) = 1
group_of (call.Unmap page) = 1
group_of (call.Protect page writable) = 1
group_of (call.Fork child) = 2
group_of (call.Exit status) = 2
group_of (call.Waitpid target nohang) = 2
group_of (call.Setuid id) = 3
group_of (call.Seteuid id) = 3
group_of (call.Setgid id) = 3
group_of (call.Setegid id) = 3
group_of (call.Pipe pipe read write) = 4
group_of (call.Dup fd) = 4
group_of (call.Dup2 from to) = 4
group_of (call.Close fd) = 4
group_of (call.SetNonblock fd on) = 4
group_of (call.Read fd address count) = 5
group_of (call.Write fd address count) = 5
group_of (call.Kill target signo) = 6
group_of (call.Sigqueue target signo value) = 6
group_of (call.Sigaction signo action) = 6
group_of (call.Sigprocmask how set) = 6
group_of (call.ConsoleWrite address count) = 7
group_of (call.Jump point when) = 7
group_of (call.Keep slot) = 7
group_of _ = 8

-- when a jump is made: the number is third, after the point and a word
abbrev pub when_with : (ℕ → ℤ → ℤ) → When → When
when_with at Always = Always
when_with at (IfRet ret) = IfRet (at 2 ret)

-- a call with what its numbers are, by their places among its arguments
abbrev pub with_numbers : (ℕ → ℤ → ℤ) → Call → Call
with_numbers at (call.Map page) = call.Map (at 0 page)
with_numbers at (call.Unmap page) = call.Unmap (at 0 page)
with_numbers at (call.Protect page writable) = call.Protect (at 0 page) writable
with_numbers at (call.Store address bytes) = call.Store (at 0 address) bytes
with_numbers at (call.Load address) = call.Load (at 0 address)
with_numbers at (call.Exit status) = call.Exit (at 0 status)
with_numbers at (call.Waitpid target nohang) = call.Waitpid (at 0 target) nohang
with_numbers at (call.Setuid id) = call.Setuid (at 0 id)
with_numbers at (call.Seteuid id) = call.Seteuid (at 0 id)
with_numbers at (call.Setgid id) = call.Setgid (at 0 id)
with_numbers at (call.Setegid id) = call.Setegid (at 0 id)
with_numbers at (call.Dup fd) = call.Dup (at 0 fd)
with_numbers at (call.Dup2 from to) = call.Dup2 (at 0 from) (at 1 to)
with_numbers at (call.Close fd) = call.Close (at 0 fd)
with_numbers at (call.SetNonblock fd on) = call.SetNonblock (at 0 fd) on
with_numbers at (call.Read fd address count) = call.Read (at 0 fd) (at 1 address) (at 2 count)
with_numbers at (call.Write fd address count) = call.Write (at 0 fd) (at 1 address) (at 2 count)
with_numbers at (call.Kill target signo) = call.Kill (at 0 target) (at 1 signo)
with_numbers at (call.Sigqueue target signo value) =
    call.Sigqueue (at 0 target) (at 1 signo) (at 2 value)
with_numbers at (call.Sigaction signo action) = call.Sigaction (at 0 signo) action
with_numbers at (call.ConsoleWrite address count) = call.ConsoleWrite (at 0 address) (at 1 count)
with_numbers at (call.Jump point when) = call.Jump point (when_with at when)
with_numbers at (call.Keep slot) = call.Keep (at 0 slot)
with_numbers at c = c

-- the name of a call
abbrev pub name_of : Call → List ℕ
name_of c = (parts_of c).0

-- the arguments of a call
abbrev pub arguments_of : Call → List Argument
arguments_of c = (parts_of c).1

-- those that a program spells
abbrev pub program_arguments : Call → List Argument
program_arguments c = filter is_spelled (arguments_of c)

-- the spelling of a call, of what is done about a signal, and of when a jump is made
abbrev pub call_text : Call → List ℕ
call_text c = text_of (parts_of c)

abbrev pub action_text : Action → List ℕ
action_text action = text_of (action_parts action)

abbrev pub when_text : When → List ℕ
when_text when = text_of (when_parts when)

-- two numbers
abbrev pub pair_text : ℤ → ℤ → List ℕ
pair_text first second = signed_decimal first ++ 32 ∷ signed_decimal second

-- three numbers
abbrev pub triple_text : ℤ → ℤ → ℤ → List ℕ
triple_text first second third = signed_decimal first ++ 32 ∷ pair_text second third

-- their arguments are ones that a text can hold
abbrev pub FitsCall : Call → Type 0
FitsCall c = AllFit (arguments_of c)

abbrev pub FitsAction : Action → Type 0
FitsAction action = AllFit (action_parts action).1

abbrev pub FitsWhen : When → Type 0
FitsWhen when = AllFit (when_parts when).1
