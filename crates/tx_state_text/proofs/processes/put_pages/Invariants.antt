use Rattle.std.proofs.Common.{◌≡◌, ◌++◌, string_bytes}
use Rattle.tx_model.specs.Memory.{page_at}
use Rattle.tx_state_text.specs.Each.{upto}
use Rattle.tx_state_text.specs.Processes.{page_line}
use Rattle.tx_state_text.proofs.processes.put_pages.Given as goal

abbrev pub invariant-loop-number : goal.invariant-loop-number
invariant-loop-number l = string_bytes l.text ≡ string_bytes l.initial.text ++ upto (λ number. page_line number (page_at l.space number)) l.number
