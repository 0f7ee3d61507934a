-- The lines of single things that a process has.
use Rattle.std.specs.Prelude.{ℕ, List, [], Option, Some, None, codes, slice_index_or}
use Rattle.tx_model.specs.Memory.{page_at}
use Rattle.tx_model.specs.State.{Process}
use Rattle.tx_state_text.specs.Descriptors.{fd_line}
use Rattle.tx_state_text.specs.Processes.{ids_line, page_line}
use Rattle.tx_state_text.specs.Signals.{queued_line, set_line}

-- lines of a process: none where there is no process
abbrev pub of_process : (Process → List ℕ) → Option Process → List ℕ
of_process text None = []
of_process text (Some process) = text process

-- the line of its page of a number, if it is mapped
abbrev pub page_of : ℕ → Option Process → List ℕ
page_of number slot = of_process (λ process. page_line number (page_at process.memory number)) slot

-- the line of its descriptor of a number, where it is open
abbrev pub fd_of : ℕ → Option Process → List ℕ
fd_of fd slot = of_process (λ process. fd_line fd (slice_index_or process.descriptors fd None)) slot

-- the line of the standard signals that are pending at it, where one is
abbrev pub pending_of : Option Process → List ℕ
pending_of slot = of_process (λ process. set_line (codes "pending ") process.pending) slot

-- the line of its queue, where there is an entry
abbrev pub queue_of : Option Process → List ℕ
queue_of slot = of_process (λ process. queued_line process.queued) slot

-- the line of its ids, where one is not 0
abbrev pub ids_of : Option Process → List ℕ
ids_of slot = of_process (λ process. ids_line process.ids) slot
