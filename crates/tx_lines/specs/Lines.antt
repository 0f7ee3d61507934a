-- The lines of a schedule, and the first line of each text: one spelling for each header and each
-- step.
use Rattle.std.specs.Prelude.{◌≡◌, ℕ, ◌<◌, ◌≤◌, ◌^◌, List, ◌∷◌, ◌++◌, Option, Some, codes}
use Rattle.std.specs.Fmt.{decimal}
use Rattle.tx_base.specs.declared.steps.Call.{Call}
use Rattle.tx_base.specs.declared.steps.Call.TheVariants.{SysXbeginDefer}
use Rattle.tx_base.specs.declared.steps.Step.{Step}
use Rattle.tx_base.specs.declared.steps.Step.TheVariants as steps
use Rattle.tx_lines.specs.Calls.{call_text, group_of, FitsCall}
use Rattle.tx_lines.specs.Words.{first_word}
use Rattle.tx_lines.specs.declared.read.header.Version.{Version}
use Rattle.tx_lines.specs.declared.read.header.Version.TheVariants.{One, Two}
use Rattle.tx_lines.specs.declared.read.header.Header.{Header}
use Rattle.tx_lines.specs.declared.read.header.TextKind.{TextKind}
use Rattle.tx_lines.specs.declared.read.header.TextKind.TheVariants.{Schedule, Program}

-- the spelling of a step, without the line's end
abbrev pub step_text : Step → List ℕ
step_text (steps.Call pid call) = decimal pid.0 ++ 32 ∷ call_text call
step_text (steps.Deliver pid signo) = decimal pid.0 ++ 32 ∷ (codes "deliver " ++ decimal signo.0)
step_text (steps.KernelAbort starter) = codes "kernel" ++ 32 ∷ decimal starter.0

-- the arguments of a step are ones that a text can hold
abbrev pub FitsStep : Step → Type 0
FitsStep (steps.Call pid call) = (pid.0 < 2 ^ 16) × FitsCall call
FitsStep (steps.Deliver pid signo) = (pid.0 < 2 ^ 16) × (signo.0 < 2 ^ 8)
FitsStep (steps.KernelAbort starter) = starter.0 < 2 ^ 16

-- what the second version added
abbrev pub IsSecond : Version → Type 0
IsSecond One = ⊥
IsSecond Two = Unit {0}

-- a version has each call, but the second added what defers deliveries
abbrev pub IsCallOf : Version → Call → Type 0
IsCallOf version SysXbeginDefer = IsSecond version
IsCallOf version _ = Unit {0}

-- a version has each step, but for that call
abbrev pub IsOf : Version → Step → Type 0
IsOf version (steps.Call pid call) = IsCallOf version call
IsOf version (steps.Deliver pid signo) = Unit {0}
IsOf version (steps.KernelAbort starter) = Unit {0}

-- the text spells the call, and a text of that version can hold it
abbrev pub SpellsCall : Version → List ℕ → Call → Type 0
SpellsCall version text c = (text ≡ call_text c) × FitsCall c × IsCallOf version c

-- each call of a group or a later one that has that name and those arguments was read
abbrev pub ReadsNamed : Version → ℕ → List ℕ × List ℕ → Option Call → Type 0
ReadsNamed version group parts read =
    (c : Call) → FitsCall c → IsCallOf version c → group ≤ group_of c
    → first_word (call_text c) ≡ Some parts → read ≡ Some c

-- the most processes that a text of a version begins with
abbrev pub most_of : Version → ℕ
most_of One = 64
most_of Two = 256

-- the front of a header, up to its number
abbrev pub header_front : TextKind → Version → List ℕ
header_front Schedule One = codes "txos 1 schedule "
header_front Schedule Two = codes "txos 2 schedule "
header_front Program One = codes "txos 1 program "
header_front Program Two = codes "txos 2 program "

-- the spelling of a header, without the line's end
abbrev pub header_text : TextKind → Header → List ℕ
header_text kind header = header_front kind header.version ++ decimal header.count

-- the number of processes is one that a text of its version begins with
abbrev pub FitsHeader : Header → Type 0
FitsHeader header = (0 < header.count) × (header.count ≤ most_of header.version)
