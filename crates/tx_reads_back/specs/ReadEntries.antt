-- The entry of a run that a line of JSON gives.
use Rattle.std.specs.Prelude.{ℕ, List, Option, Some, codes}
use Rattle.json.specs.Lex.{tokens}
use Rattle.tx_base.specs.declared.steps.Reply.{Reply}
use Rattle.tx_reads_back.specs.ReadReplies.{reply_in}
use Rattle.tx_reads_back.specs.Reading.{◌>>=◌, count_in, object_by, whole, word_in, Read}

-- an entry: its number, the worker that made the step, the text of the step, and the reply
pub record JsonEntry : Type 0 where
  pub number : ℕ
  pub worker : ℕ
  pub step : List ℕ
  pub reply : Reply

unfoldable pub entry_members : Read JsonEntry
entry_members tokens = do
  number ← count_in (codes "step") tokens
  worker ← count_in (codes "worker") number.1
  step ← word_in (codes "text") worker.1
  reply ← reply_in step.1
  Some (record { number = number.0; worker = worker.0; step = step.0; reply = reply.0 }, reply.1)

-- what a line says of an entry
abbrev pub entry_of_json : List ℕ → Option JsonEntry
entry_of_json line = whole (object_by entry_members (tokens line))
