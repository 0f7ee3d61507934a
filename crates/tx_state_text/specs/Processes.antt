-- The text of the processes.
use Rattle.std.specs.Prelude.{ℕ, zero, suc, ◌+◌, ◌-◌, Bool, true, false, ◌&&◌, List, [], ◌∷◌, ◌++◌, codes, Option, Some, None, slice_index, if◌then◌else◌, nat_lt, ◌==◌}
use Rattle.std.specs.Fmt.{decimal}
use Rattle.tx_base.specs.declared.names.Regs.{Regs}
use Rattle.tx_model.specs.State.{Ids, Process}
use Rattle.tx_model.specs.Memory.{Memory, PageView, page_at}
use Rattle.tx_lines.specs.Bytes.{two_digits}
use Rattle.tx_state_text.specs.Descriptors.{fds_text}
use Rattle.tx_state_text.specs.Each.{upto}
use Rattle.tx_state_text.specs.Registers.{run_text, slots_line}
use Rattle.tx_state_text.specs.Signals.{signals_text}

-- the byte at an offset, where it is not 0
abbrev pub byte_text : ℕ → ℕ → List ℕ
byte_text offset zero = []
byte_text offset (suc byte) =
    32 ∷ (decimal offset ++ 61 ∷ two_digits (suc byte))

-- whether a page may be written
abbrev pub flag_text : Bool → List ℕ
flag_text true = codes " rw"
flag_text false = codes " r"

-- the line of a page
abbrev pub page_text : ℕ → PageView → List ℕ
page_text number page =
    codes "page "
    ++ (decimal number
    ++ (flag_text page.writable
    ++ (upto (λ offset. byte_text offset (slice_index page.bytes offset)) 64 ++ 10 ∷ [])))

-- the line of the page of a number: none if it is not mapped
abbrev pub page_line : ℕ → Option PageView → List ℕ
page_line number None = []
page_line number (Some page) = page_text number page

-- the lines of the mapped pages
abbrev pub pages_text : Memory → List ℕ
pages_text memory = upto (λ number. page_line number (page_at memory number)) 16

-- the end of an ended process's line: what it exited with, or the signal that killed it
abbrev pub status_text : ℕ → List ℕ
status_text status =
    if nat_lt status 256
    then codes " exit " ++ (decimal status ++ 10 ∷ [])
    else codes " killed " ++ (decimal (status - 256) ++ 10 ∷ [])

-- what follows the number and the parent of a process
abbrev pub end_text : Option ℕ → Regs → List ℕ
end_text None regs = run_text regs
end_text (Some status) regs = status_text status

-- the first line of a process
abbrev pub head_text : ℕ → Process → List ℕ
head_text number process =
    codes "proc "
    ++ (decimal number
    ++ (codes " parent "
    ++ (decimal process.parent ++ end_text process.status process.registers)))

-- whether every id is 0
abbrev pub are_root : Ids → Bool
are_root ids =
    ids.real_user == 0
    && ids.effective_user == 0
    && ids.saved_user == 0
    && ids.real_group == 0
    && ids.effective_group == 0
    && ids.saved_group == 0

-- three ids, each after a space
abbrev pub three_ids : ℕ → ℕ → ℕ → List ℕ
three_ids real effective saved =
    32 ∷ (decimal real ++ 32 ∷ (decimal effective ++ 32 ∷ decimal saved))

-- the line of the ids, where one is not 0
abbrev pub ids_line : Ids → List ℕ
ids_line ids =
    if are_root ids then []
    else codes "ids"
    ++ (three_ids ids.real_user ids.effective_user ids.saved_user
    ++ (three_ids ids.real_group ids.effective_group ids.saved_group ++ 10 ∷ []))

-- the lines of what a process has
abbrev pub own_text : Process → List ℕ
own_text process =
    ids_line process.ids
    ++ (slots_line process.registers.slots
    ++ (pages_text process.memory ++ (fds_text process.descriptors ++ signals_text process)))

-- the lines of a process
abbrev pub process_text : ℕ → Process → List ℕ
process_text number process = head_text number process ++ own_text process

-- the lines of the process of a number: none if there is no process
abbrev pub process_lines : ℕ → Option Process → List ℕ
process_lines number None = []
process_lines number (Some process) = process_text number process

-- the lines of the processes of the numbers up to a width, by rising number
abbrev pub procs_text : ℕ → (ℕ → Option Process) → List ℕ
procs_text width procs = upto (λ done. process_lines (done + 1) (procs (done + 1))) width
