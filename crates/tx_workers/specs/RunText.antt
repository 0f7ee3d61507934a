-- The text of a run: what each worker's steps were answered, and the state.
use Rattle.std.specs.Prelude.{ℕ, ◌+◌, List, [], ◌∷◌, ◌++◌, codes, Option, Result, Err}
use Rattle.std.specs.Fmt.{decimal}
use Rattle.std.specs.Io.KnownBytes.{Keeps}
use Rattle.tx_base.specs.declared.steps.Reply.{Reply}
use Rattle.tx_base.specs.declared.steps.Step.{Step}
use Rattle.tx_journal.specs.Entries.{history_of}
use Rattle.tx_journal.specs.Sessions.{made_of, start_of, SessionState}
use Rattle.tx_journal.specs.declared.entry.Entry.{Entry}
use Rattle.tx_model.specs.View.{view}
use Rattle.tx_lines.specs.Ends.{Counts}
use Rattle.tx_lines.specs.Lines.{step_text}
use Rattle.tx_lines.specs.Whole.{WritesWhole}
use Rattle.tx_lines.specs.declared.faults.Fault.{Fault}
use Rattle.tx_lines.specs.declared.faults.Fault.TheVariants.{NoMemory}
use Rattle.tx_state_text.specs.Replies.{reply_text}
use Rattle.tx_state_text.specs.State.{state_text}

-- the line of a step that a worker made: its number, the worker, the step and its reply
abbrev pub run_line : ℕ → ℕ → Step → Reply → List ℕ
run_line number worker step reply =
    decimal number
    ++ (codes " w"
    ++ (decimal worker
    ++ (32 ∷ (step_text step ++ (codes " : " ++ (reply_text reply ++ 10 ∷ []))))))

-- the line of an entry
abbrev pub entry_line : ℕ → Entry → List ℕ
entry_line number entry = run_line number entry.worker entry.step entry.reply

-- the lines of some things by their numbers, from that one on
abbrev pub numbered : {A : Type 0} → (ℕ → A → List ℕ) → ℕ → List A → List ℕ
numbered line number [] = []
numbered line number (x ∷ xs) = line number x ++ numbered line (number + 1) xs

-- the whole text: the lines of all entries, and the state at the position
abbrev pub run_text : SessionState → List ℕ
run_text k =
    numbered entry_line 1 k.entries ++ state_text (view (start_of k) (history_of (made_of k)))

-- a text is written; or a front of it, and the sink is at fault; or nothing, for want of memory
abbrev pub WritesText : Option (List ℕ) → Counts → List ℕ → Result (Unit {0}) Fault
    → Option (List ℕ) → Counts → Type 0
WritesText written counts text (Err NoMemory) written' counts' = Keeps written written'
WritesText written counts text result written' counts' =
    WritesWhole written counts text result written' counts'
