-- Lines of JSON read back to what they are of.
use Rattle.std.specs.Prelude.{◌≡◌, ◌<◌, ◌^◌, ℕ, All, FitsSigned, Option, Some, None}
use Rattle.std.specs.Int.{w64}
use Rattle.hex.specs.Hex.{IsBytes}
use Rattle.json.specs.Print.{print}
use Rattle.tx_base.specs.declared.names.Missed.{Missed}
use Rattle.tx_base.specs.declared.steps.Refusal.{Refusal}
use Rattle.tx_base.specs.declared.steps.Refusal.TheVariants.{Busy}
use Rattle.tx_base.specs.declared.steps.Reply.{Reply}
use Rattle.tx_base.specs.declared.steps.Reply.TheVariants.{Done, Ended, Committed, Aborted, Out, No}
use Rattle.tx_reads_back.specs.StateTexts.{IsOfKernel}
use Rattle.tx_json.specs.Answers.{state_answer, step_answer}
use Rattle.tx_journal.specs.declared.entry.Entry.{Entry}
use Rattle.tx_lines.specs.Lines.{step_text}
use Rattle.tx_model.specs.View.{View}
use Rattle.tx_reads_back.specs.ReadEntries.{entry_of_json, JsonEntry}
use Rattle.tx_reads_back.specs.ReadReplies.{step_of_json}
use Rattle.tx_reads_back.specs.ReadStates.{state_of_json}
use Rattle.tx_script.specs.JsonRuns.{entry_line}
use Rattle.tx_reads_back.specs.JsonStates.{state_in_json}

-- the numbers of a send that could not be delivered are those of the kernel's types
pub record IsTypedMissed (missed : Missed) : Type 0 where
  pub target : missed.target.0 < 2 ^ 16
  pub signo : missed.signo.0 < 2 ^ 8

abbrev pub IsTypedRefusal : Refusal → Type 0
IsTypedRefusal (Busy starter) = starter.0 < 2 ^ 16
IsTypedRefusal refusal = Unit {0}

-- and those of a reply
abbrev pub IsTypedReply : Reply → Type 0
IsTypedReply (Done ret) = FitsSigned w64 ret
IsTypedReply Ended = Unit {0}
IsTypedReply (Committed undelivered) = All IsTypedMissed undelivered.items
IsTypedReply (Aborted status) = status < 2 ^ 16
IsTypedReply (Out bytes) = IsBytes bytes.items
IsTypedReply (No refusal) = IsTypedRefusal refusal

-- what the line of a step says: its number if it was accepted, and its reply
abbrev pub step_in_json : ℕ → Reply → Option ℕ × Reply
step_in_json number (No refusal) = (None, No refusal)
step_in_json number (Done ret) = (Some number, Done ret)
step_in_json number Ended = (Some number, Ended)
step_in_json number (Committed undelivered) = (Some number, Committed undelivered)
step_in_json number (Aborted status) = (Some number, Aborted status)
step_in_json number (Out bytes) = (Some number, Out bytes)

-- the line of a step, without its end, reads back to what it says
abbrev pub StepsReadBack : Type 0
StepsReadBack =
    (number : ℕ) (reply : Reply) → number < 2 ^ 64 → IsTypedReply reply
    → step_of_json (print (step_answer number reply)) ≡ Some (step_in_json number reply)

-- what the line of an entry says: its step by the text, from which `read_step` reads no other step
abbrev pub entry_in_json : ℕ → Entry → JsonEntry
entry_in_json number entry =
    record {
      number = number;
      worker = entry.worker;
      step = step_text entry.step;
      reply = entry.reply;
    }

-- the line of an entry, without its end, reads back to what it says
abbrev pub EntriesReadBack : Type 0
EntriesReadBack =
    (number : ℕ) (entry : Entry) → number < 2 ^ 64 → entry.worker < 2 ^ 16
    → IsTypedReply entry.reply
    → entry_of_json (print (entry_line number entry)) ≡ Some (entry_in_json number entry)

-- the line of a state, without its end, reads back to the position and to what it says of the
-- state. What is required of the view holds after every lawful history, but for the types of its
-- numbers
abbrev pub StatesReadBack : Type 0
StatesReadBack =
    (at : ℕ) (V : View) → at < 2 ^ 64 → IsOfKernel V
    → state_of_json (print (state_answer at V)) ≡ Some (at, state_in_json V)
