-- Which bytes go through pipes from which write to which read. The bytes that a pipe holds are the
-- last so many that were written to it, and a read takes the first of them. Own rules.
use Rattle.std.specs.Prelude.{ℕ, ◌-◌, Bool, true, false, ◌&&◌, ◌==◌, List, [], ◌∷◌, ◌++◌, Option, Some, None, fold, if◌then◌else◌, map, nat_lt}
use Rattle.tx_base.specs.declared.names.Pid.{Pid}
use Rattle.tx_base.specs.declared.names.PipeNo.{PipeNo}
use Rattle.tx_base.specs.declared.steps.Reply.{Reply}
use Rattle.tx_base.specs.declared.steps.Reply.TheVariants.{Aborted, Committed}
use Rattle.tx_picture.specs.Transfers.{moved}
use Rattle.tx_picture.specs.declared.passages.Access.{Access}
use Rattle.tx_picture.specs.declared.passages.Access.TheVariants.{Puts, Takes}
use Rattle.tx_picture.specs.declared.passages.Passage.{Passage}
use Rattle.tx_picture.specs.declared.passages.Reading.{Reading}
use Rattle.tx_picture.specs.declared.passages.Transfer.{Transfer}
use Rattle.tx_picture.specs.declared.passages.Written.{Written}

-- Writes, the newest first

abbrev pub is_starter : Pid → Option Pid → Bool
is_starter starter None = false
is_starter starter (Some holder) = holder.0 == starter.0

-- whether it was made inside the live transaction of that starter
abbrev pub is_inside : Option Pid → Written → Bool
is_inside None written = false
is_inside (Some starter) written = is_starter starter written.holder

-- a write of the transaction that a step was made inside of: a commit lets go of it, and after an
-- abort it has put nothing
abbrev pub let_go : Reply → Written → Written
let_go (Committed undelivered) written = record written { holder = None }
let_go (Aborted status) written = record written { count = 0 }
let_go reply written = written

-- whether the step that was answered so ended its transaction
abbrev pub settles : Reply → Bool
settles (Committed undelivered) = true
settles (Aborted status) = true
settles reply = false

abbrev pub settled : Option Pid → Reply → Written → Written
settled starter reply written = if is_inside starter written then let_go reply written else written

-- a write by which so many bytes went to a pipe
abbrev pub put : Transfer → PipeNo → ℕ → Written
put transfer pipe count =
    record {
      process = transfer.process;
      pipe = pipe;
      row = transfer.row;
      count = count;
      holder = transfer.starter;
    }

abbrev pub new_written : Transfer → ℕ → Option Access → List Written
new_written transfer count None = []
new_written transfer count (Some (Puts pipe)) = put transfer pipe count ∷ []
new_written transfer count (Some (Takes pipe held)) = []

-- after a step that was answered so
abbrev pub written_after : Transfer → Reply → List Written → List Written
written_after transfer reply written =
    new_written transfer (moved reply) transfer.access
    ++ map (settled transfer.starter reply) written

-- Reads

-- a read that has gone over some writes
pub record Taking : Type 0 where
  -- how many of the bytes that the pipe held are older than theirs
  pub rest : ℕ
  pub passages : List Passage

abbrev pub passage : Reading → Written → Passage
passage reading written =
    record {
      writer = written.process;
      written = written.row;
      reader = reading.process;
      read = reading.row;
    }

-- whether a write has bytes in the pipe, and the read takes the first of these, where so many of
-- all are older than they are
abbrev pub takes_some : Reading → ℕ → ℕ → Bool
takes_some reading rest older = nat_lt older rest && nat_lt older reading.count

abbrev pub taken_with : Reading → Written → ℕ → Taking → Taking
taken_with reading written older taking = record {
  rest = older;
  passages =
      if takes_some reading taking.rest older
      then taking.passages ++ passage reading written ∷ []
      else taking.passages;
}

-- one write more, which is older
abbrev pub taken_from : Reading → Taking → Written → Taking
taken_from reading taking written =
    if written.pipe.0 == reading.pipe.0
    then taken_with reading written (taking.rest - written.count) taking
    else taking

-- a passage more from each write whose bytes the read takes
abbrev pub taken : Reading → List Written → List Passage → List Passage
taken reading written passages =
    (fold (taken_from reading) (record { rest = reading.held; passages = passages })
    written).passages

abbrev pub reading_of : Transfer → PipeNo → ℕ → ℕ → Reading
reading_of transfer pipe held count =
    record {
      process = transfer.process;
      row = transfer.row;
      pipe = pipe;
      held = held;
      count = count;
    }

abbrev pub taken_by : Transfer → ℕ → Option Access → List Written → List Passage → List Passage
taken_by transfer count None written passages = passages
taken_by transfer count (Some (Puts pipe)) written passages = passages
taken_by transfer count (Some (Takes pipe held)) written passages =
    taken (reading_of transfer pipe held count) written passages

-- after a step that was answered so, which these writes precede
abbrev pub passages_after : Transfer → Reply → List Written → List Passage → List Passage
passages_after transfer reply written passages =
    taken_by transfer (moved reply) transfer.access written passages
