-- The words that are explained, in groups: a row for each topic.
use Prim.Native.String.{String}
use Rattle.std.specs.Prelude.{ℕ, List, [], ◌∷◌, ◌++◌, codes, map}
use Rattle.std.specs.Fmt.{decimal}
use Rattle.tx_base.specs.Errors.{error_number}
use Rattle.tx_base.specs.declared.errors.Errno.{Errno}
use Rattle.tx_base.specs.declared.errors.Errno.TheVariants.{NotPermitted, NoSuchProcess, BadDescriptor, NoChild, TryAgain, BadAddress, InvalidArgument, TooManyDescriptors, BrokenPipe}
use Rattle.tx_base.specs.declared.limits.TheConstants.{CLOSED_INSIDE, ABORTED_BY_CALL, ABORTED_BY_KERNEL, ABORTED_DOOMED}

abbrev pub Text : Type 0
Text = List ℕ

-- a word with what else it is found by, and the first line of its page
abbrev pub Row : Type 0
Row = List Text × Text

-- the first of a topic's words, which names it
abbrev pub name_among : List Text → Text
name_among [] = []
name_among (word ∷ words) = word

-- the page of a topic begins with its word, and then says what that means
abbrev pub row_saying : List Text → String → Row
row_saying words says = (words, name_among words ++ codes ": " ++ codes says)

abbrev pub row : String → List String → String → Row
row word also says = row_saying (codes word ∷ map codes also) says

-- an error by its name and its number, which is negative as an answer
abbrev pub error_row : String → Errno → String → Row
error_row name error says =
    let number = decimal (error_number error) in
    row_saying (codes name ∷ (45 ∷ number) ∷ number ∷ []) says

-- a number that is answered, by itself
abbrev pub status_row : ℕ → String → Row
status_row number says = row_saying (decimal number ∷ (45 ∷ decimal number) ∷ []) says

abbrev pub command_rows : List Row
command_rows =
    row "replay" [] "makes the steps of a schedule, and writes their replies and the state."
    ∷ row "debug" [] "walks back and forward over the steps of a schedule, as commands say."
    ∷ row "json" [] "answers a text in lines of JSON."
    ∷ row "picture" [] "draws what the steps of a schedule did, as a picture in SVG."
    ∷ row "expect" [] "compares replies with those that comments expect."
    ∷ row "shell" [] "answers steps and commands, each line before it reads the next."
    ∷ row "run" [] "runs a program by workers, which are threads that share one kernel."
    ∷ row "check" [] "says of each line at fault in a text what is wrong with it."
    ∷ row "plain" [] "writes the text of version 2 that a text of version 3 means."
    ∷ row "explain" [] "says what a word or a number of a report, a fault or a text means."
    ∷ row "version" [] "writes the version of the program."
    ∷ []

abbrev pub refusal_rows : List Row
refusal_rows =
    row "N1" ("NoProcess" ∷ []) "there is no process of that number (NoProcess)."
    ∷ row "N2" ("NotRunning" ∷ []) "the process of the step: it has ended (NotRunning)."
    ∷ row "N3" ("BadNumber" ∷ [])
    "a number that the step chooses is out of range, or both descriptions of a"
    ∷ row "N4" ("NumberTaken" ∷ []) "a number that the step chooses is in use (NumberTaken)."
    ∷ row "N5" ("Doomed" ∷ []) "its transaction is doomed (Doomed)."
    ∷ row "N6" ("Parked" ∷ []) "it has ended its part of its transaction (Parked)."
    ∷ row "N7" ("KillPending" ∷ [])
    "SIGKILL is pending at it, and the step does not deliver it (KillPending)."
    ∷ row "N8" ("Busy" ∷ []) "another transaction is in the way (reservations, two answers) (Busy)."
    ∷ row "N9" ("Wait" ∷ []) "the call waits: a read, a write or a waitpid (Wait)."
    ∷ row "N10" ("NotDeliverable" ∷ []) "the signal can't be delivered now (NotDeliverable)."
    ∷ row "N11" ("FramesFull" ∷ []) "a caught delivery with four frames in use (FramesFull)."
    ∷ row "N12" ("NoTransaction" ∷ [])
    "the kernel's abort of a number that is no live starter (NoTransaction)."
    ∷ row "N13" ("NoMemory" ∷ []) "a growth of memory was refused (NoMemory)."
    ∷ row "N14" ("Deferred" ∷ []) "the transaction defers the delivery (Deferred)."
    ∷ []

abbrev pub fault_rows : List Row
fault_rows =
    row "F1" [] "line K is none of the grammar's, or has no end."
    ∷ row "F2" [] "an instruction of line K names a label that is nowhere."
    ∷ row "F3" [] "line K is too long or one too many; line 0: the text is too long."
    ∷ row "F4" [] "the reader failed, or was interrupted more than 1,000 times."
    ∷ row "F5" [] "the writer failed, took no byte, or was interrupted more than 1,000 times."
    ∷ row "F6" [] "a growth of memory was refused."
    ∷ row "F7" [] "what a worker noted is not what the journal has of it."
    ∷ row "F8" [] "a thread could not be started."
    ∷ []

abbrev pub sent_rows : List Row
sent_rows =
    row "SIGHUP" ("HUP" ∷ "1" ∷ []) "signal 1, whose usual action is to end the process."
    ∷ row "SIGINT" ("INT" ∷ "2" ∷ []) "signal 2, whose usual action is to end the process."
    ∷ row "SIGQUIT" ("3" ∷ []) "signal 3, whose usual action is to end the process."
    ∷ row "SIGABRT" ("ABRT" ∷ "6" ∷ []) "signal 6, whose usual action is to end the process."
    ∷ row "SIGKILL" ("9" ∷ []) "signal 9, which ends the process; never caught, ignored or blocked."
    ∷ row "SIGUSR1" ("USR1" ∷ "10" ∷ []) "signal 10, whose usual action is to end the process."
    ∷ row "SIGUSR2" ("USR2" ∷ "12" ∷ []) "signal 12, whose usual action is to end the process."
    ∷ row "SIGALRM" ("ALRM" ∷ "14" ∷ []) "signal 14, whose usual action is to end the process."
    ∷ row "SIGTERM" ("TERM" ∷ "15" ∷ []) "signal 15, whose usual action is to end the process."
    ∷ []

abbrev pub notice_rows : List Row
notice_rows =
    row "SIGPIPE" ("13" ∷ [])
    "signal 13, which a write to a pipe without a reader sends its caller."
    ∷ row "SIGCHLD" ("CHLD" ∷ "17" ∷ [])
    "signal 17, which the end of a process sends to its parent."
    ∷ row "realtime" ("32" ∷ "33" ∷ "34" ∷ "35" ∷ "36" ∷ "37" ∷ "38" ∷ "39" ∷ [])
    "the signals 32 to 39, which are queued, each with its value."
    ∷ []

abbrev pub error_rows : List Row
error_rows =
    error_row "EPERM" NotPermitted "1, answered as -1: not permitted."
    ∷ error_row "ESRCH" NoSuchProcess "3, answered as -3: no such process."
    ∷ error_row "EBADF" BadDescriptor "9, answered as -9: a bad descriptor."
    ∷ error_row "ECHILD" NoChild "10, answered as -10: no such child."
    ∷ error_row "EAGAIN" TryAgain "11, answered as -11: try again."
    ∷ error_row "EFAULT" BadAddress "14, answered as -14: a bad address."
    ∷ error_row "EINVAL" InvalidArgument "22, answered as -22: an argument is wrong."
    ∷ error_row "EMFILE" TooManyDescriptors
    "24, answered as -24: too many descriptors. A process has 16."
    ∷ error_row "EPIPE" BrokenPipe "32, answered as -32: a broken pipe."
    ∷ status_row CLOSED_INSIDE "answered as -200: a call that is closed inside a transaction."
    ∷ []

abbrev pub status_rows : List Row
status_rows =
    status_row ABORTED_BY_CALL "the status of an abort by a member, which called sys_xabort."
    ∷ status_row ABORTED_BY_KERNEL "the status of an abort by the kernel, the step kernel P."
    ∷ status_row ABORTED_DOOMED "the status of an abort by the kernel for doom (N5)."
    ∷ []

abbrev pub reply_rows : List Row
reply_rows =
    row "ok" [] "the step was accepted and answered RET; POSIX error E is -E."
    ∷ row "ended" [] "the step ended the process."
    ∷ row "committed" ("commit" ∷ [])
    "the step committed the transaction; a send of signal S to process T"
    ∷ row "aborted" ("abort" ∷ []) "the step aborted the transaction."
    ∷ row "out" [] "the step wrote bytes to the console."
    ∷ row "no" [] "the step was refused; N1 to N14 say why."
    ∷ []

abbrev pub memory_rows : List Row
memory_rows =
    row "map" [] "maps page A, of zeros, which may be read and written."
    ∷ row "unmap" [] "unmaps page A and discards its bytes."
    ∷ row "protect" ("r" ∷ "rw" ∷ []) "makes page A read-only or writable; its bytes stay."
    ∷ row "store" [] "stores bytes from address A on: all of them, or none."
    ∷ row "load" [] "reads the byte at A."
    ∷ []

abbrev pub process_rows : List Row
process_rows =
    row "fork" [] "makes the child C, a copy of the caller without its pending signals."
    ∷ row "exit" [] "ends the process with the status V modulo 256, from 0 to 255."
    ∷ row "waitpid" ("nohang" ∷ []) "takes the status of its child T and removes the child."
    ∷ row "getpid" [] "asks its number."
    ∷ row "getppid" [] "asks its parent's number."
    ∷ []

abbrev pub id_rows : List Row
id_rows =
    row "setuid" [] "sets its three user ids, or only the effective one."
    ∷ row "seteuid" [] "sets its effective user id."
    ∷ row "setgid" [] "sets its three group ids, or only the effective one."
    ∷ row "setegid" [] "sets its effective group id."
    ∷ []

abbrev pub descriptor_rows : List Row
descriptor_rows =
    row "pipe" [] "makes pipe Q; description R reads it, W writes it."
    ∷ row "dup" [] "makes the lowest free descriptor name F's description too."
    ∷ row "dup2" [] "makes descriptor G name F's description too."
    ∷ row "close" [] "closes descriptor F."
    ∷ row "set_nonblock" ("on" ∷ "off" ∷ "O_NONBLOCK" ∷ [])
    "makes F's description non-blocking or blocking."
    ∷ row "read" [] "reads V bytes from descriptor F to address A."
    ∷ row "write" [] "writes V bytes from address A to descriptor F: all of them, or none."
    ∷ []

abbrev pub signal_rows : List Row
signal_rows =
    row "kill" [] "sends process T the signal V, as sigqueue does with the value 0."
    ∷ row "sigqueue" [] "sends process T the signal, with a value."
    ∷ row "sigaction" ("default" ∷ "ignore" ∷ "catch" ∷ [])
    "says what signal V does when it is delivered."
    ∷ row "sigprocmask" ("unblock" ∷ []) "adds to the mask, takes from it, or sets it."
    ∷ row "sigpending" [] "asks which blocked signals are pending."
    ∷ row "sigreturn" [] "goes back to where a signal was caught last."
    ∷ []

abbrev pub script_rows : List Row
script_rows =
    row "console_write" [] "shows V bytes from address A on."
    ∷ row "jump" ("always" ∷ "if" ∷ []) "goes on at the point, always or if the last answer is V."
    ∷ row "keep" [] "keeps the last answer in slot V."
    ∷ []

abbrev pub transaction_rows : List Row
transaction_rows =
    row "sys_xbegin" [] "begins a transaction; with defer one that defers deliveries to its"
    ∷ row "sys_xend" [] "ends its part of its transaction."
    ∷ row "sys_xabort" [] "aborts its transaction, as if its steps had never been."
    ∷ []

abbrev pub step_rows : List Row
step_rows =
    row "deliver" [] "a pending signal S is delivered to process P."
    ∷ row "kernel" [] "the kernel aborts the transaction that process P began."
    ∷ []

abbrev pub debugger_rows : List Row
debugger_rows =
    row "back" ("undo" ∷ []) "takes back the newest step."
    ∷ row "forward" [] "makes the next step again."
    ∷ row "goto" [] "goes to position K, the place after the first K accepted steps."
    ∷ row "state" [] "prints the state, and stays."
    ∷ row "moved" ("one" ∷ "many" ∷ [])
    "says whether a transaction counts as one moment; the position stays."
    ∷ row "at" [] "at K, the answer of a debugger's command: K is the new position."
    ∷ []

abbrev pub shell_rows : List Row
shell_rows =
    row "try" [] "says what a step would be answered here, and how the state would differ."
    ∷ row "why" [] "says why a step would be refused here, or what it would be answered."
    ∷ row "diff" [] "says how the states at two positions differ, and stays."
    ∷ row "without" [] "says how the state would differ if a transaction were aborted here."
    ∷ row "owns" [] "says what the live transactions have reserved."
    ∷ row "holds" [] "says which descriptors of which processes have a pipe open."
    ∷ row "when" [] "goes back to the step that changed a piece of the state last."
    ∷ row "next" [] "goes on to the step that changes a piece of the state next."
    ∷ row "steps" [] "lists the steps with their replies, and the position."
    ∷ row "text" [] "prints the schedule of the steps up to the position."
    ∷ row "cut" [] "drops the steps after the position, so that others can be made."
    ∷ row "help" ("?" ∷ []) "lists the commands of the shell, or says what a word means."
    ∷ row "quit" [] "ends the shell's session, as the end of the input does."
    ∷ []

abbrev pub process_line_rows : List Row
process_line_rows =
    row "proc" ("process" ∷ "pid" ∷ []) "the first line of a process."
    ∷ row "parent" [] "parent Q: the number of the process's parent; that of process 1 is 0."
    ∷ row "killed" [] "killed S, once signal S has ended the process."
    ∷ row "point" [] "point X: the number of the next instruction of the process, 0 to 65535."
    ∷ row "ret" [] "ret R: the answer of the process's last call; a POSIX error is negative."
    ∷ row "ids" ("id" ∷ []) "its three user ids and its three group ids, each 0 to 65535."
    ∷ row "slots" ("slot" ∷ []) "what it has in slots 0 to 7."
    ∷ row "page" ("pages" ∷ []) "a page of 64 bytes; page N has the addresses from 64 times N on."
    ∷ row "fd" ("descriptor" ∷ []) "an open descriptor."
    ∷ []

abbrev pub signal_line_rows : List Row
signal_line_rows =
    row "mask" [] "the blocked signals, which are not delivered."
    ∷ row "action" [] "what a signal does when it is delivered."
    ∷ row "pending" [] "the standard signals that were sent and not yet delivered."
    ∷ row "queued" ("queue" ∷ [])
    "the realtime signals that were sent and not yet delivered; 16 at most."
    ∷ row "frame" ("frames" ∷ [])
    "what sigreturn goes back to: point, answer, mask and slots; 4 at most."
    ∷ []

abbrev pub other_line_rows : List Row
other_line_rows =
    row "desc" ("description" ∷ []) "a description, 0 to 63: what descriptors name."
    ∷ row "block" [] "a read or write by the description waits (N9) if it can't go on."
    ∷ row "nonblock" [] "a read or write by the description is EAGAIN if it can't go on."
    ∷ row "txn" [] "a live transaction, by the process S that began it."
    ∷ row "open" [] "open LIST: the members of a transaction whose part is open."
    ∷ row "defer" [] "the transaction defers deliveries to its members (N14), but of signal 9."
    ∷ row "held" [] "a send that a transaction holds until its commit."
    ∷ []

abbrev pub text_rows : List Row
text_rows =
    row "txos" [] "the first word of a text, and then its version, its kind and a number."
    ∷ row "comment" ("blank" ∷ []) "in a text of version 3, # and what follows it in its line."
    ∷ row "name" ("names" ∷ [])
    "gives a process a name, in a schedule of version 3 and in the shell."
    ∷ row "schedule" ("step" ∷ []) "a text that says which process makes which step when."
    ∷ row "program" ("instruction" ∷ [])
    "a text that says what each process does; all run the same."
    ∷ row "label" [] "names the number of the next instruction of a program."
    ∷ row "number" [] "0, or digits that do not begin with 0, with - before a negative one."
    ∷ row "hex" ("bytes" ∷ "string" ∷ []) "bytes of two lower-case hex digits each: 6869 is \"hi\"."
    ∷ row "set" [] "signals: - for none, or known numbers, ascending, with commas between."
    ∷ row "signal" ("signals" ∷ []) "a known number, or 0 in kill and sigqueue, which only asks."
    ∷ []

abbrev pub notion_rows : List Row
notion_rows =
    row "transaction" [] "steps that all take effect, or none: from a sys_xbegin until the"
    ∷ row "member" [] "the starter of a transaction, and each process that a member forks."
    ∷ row "starter" [] "the process that began a transaction, whose number names it."
    ∷ row "reserved" ("footprint" ∷ [])
    "the processes, descriptions and pipes that a member's steps read or"
    ∷ row "privileged" [] "a process whose effective user id is 0, as all are at the start."
    ∷ row "worker" ("w1" ∷ [])
    "a thread that takes turns for processes of a program: w1 in a report."
    ∷ row "turn" [] "one step, or none, for one process that runs."
    ∷ row "zombie" ("zombies" ∷ [])
    "a process that has ended, and that its parent has not waited for."
    ∷ row "eof" [] "a read that answers 0, since its pipe is empty and has no writer."
    ∷ []

unfoldable pub all_rows : List (Text × List Row)
all_rows =
    (codes "commands of txos", command_rows)
    ∷ (codes "refusals of a step, as in: no N9", refusal_rows)
    ∷ (codes "faults, as in: txos: F1 line 2", fault_rows)
    ∷ (codes "signals, by number too, as in: pending 10,17", sent_rows)
    ∷ (codes "signals that the kernel sends, and those that queue", notice_rows)
    ∷ (codes "errors of a call, by number too, as in: ok -22", error_rows)
    ∷ (codes "statuses of an abort, as in: aborted 201", status_rows)
    ∷ (codes "replies to a step", reply_rows)
    ∷ (codes "calls on memory", memory_rows)
    ∷ (codes "calls on processes", process_rows)
    ∷ (codes "calls on ids", id_rows)
    ∷ (codes "calls on descriptors and pipes", descriptor_rows)
    ∷ (codes "calls on signals", signal_rows)
    ∷ (codes "calls of scripts, and on the console", script_rows)
    ∷ (codes "calls of transactions", transaction_rows)
    ∷ (codes "other steps", step_rows)
    ∷ (codes "commands of the debugger, after the line debug, and of the shell", debugger_rows)
    ∷ (codes "commands of the shell alone", shell_rows)
    ∷ (codes "a process in a state", process_line_rows)
    ∷ (codes "signals of a process in a state", signal_line_rows)
    ∷ (codes "descriptions and transactions in a state", other_line_rows)
    ∷ (codes "words of texts", text_rows)
    ∷ (codes "what the texts are about", notion_rows)
    ∷ []
