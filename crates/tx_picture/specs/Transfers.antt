-- What a step asks of a pipe. Own rules.
use Rattle.std.specs.Prelude.{ℕ, ℤ, pos, Option, Some, None, option_map, length}
use Rattle.tx_base.specs.declared.names.PipeNo.{PipeNo}
use Rattle.tx_base.specs.declared.steps.Call.TheVariants.{Read, Write}
use Rattle.tx_base.specs.declared.steps.Reply.{Reply}
use Rattle.tx_base.specs.declared.steps.Reply.TheVariants.{Done}
use Rattle.tx_base.specs.declared.steps.Step.{Step}
use Rattle.tx_base.specs.declared.steps.Step.TheVariants.{Call as Calls}
use Rattle.tx_model.specs.Book.{bytes_in, description_in}
use Rattle.tx_model.specs.Descriptors.{description_named, descriptor}
use Rattle.tx_model.specs.State.{Description, Process, State}
use Rattle.tx_picture.specs.declared.passages.Access.{Access}
use Rattle.tx_picture.specs.declared.passages.Access.TheVariants.{Puts, Takes}

-- the description that a descriptor of the process names
abbrev pub named_by : ℤ → Option Process → Option ℕ
named_by f None = None
named_by f (Some me) = description_named me (descriptor f)

abbrev pub pipe_in : Option Description → Option PipeNo
pipe_in description = option_map (λ end. record { 0 = end.pipe }) description

-- the pipe of which a descriptor of process p is an end
abbrev pub pipe_named : State → ℕ → ℤ → Option PipeNo
pipe_named S p f = pipe_in (description_in (named_by f (S.procs p)) S)

-- how many bytes the pipe holds
abbrev pub held_in : State → PipeNo → ℕ
held_in S pipe = length (bytes_in (S.pipes pipe.0))

abbrev pub takes_in : State → PipeNo → Access
takes_in S pipe = Takes pipe (held_in S pipe)

-- the pipe that a step writes to, or reads from with what the pipe holds before it
abbrev pub access_of : State → Step → Option Access
access_of S (Calls p (Write f address n)) = option_map Puts (pipe_named S p.0 f)
access_of S (Calls p (Read f address n)) = option_map (takes_in S) (pipe_named S p.0 f)
access_of S step = None

-- how many bytes a read or a write was answered to have moved
abbrev pub moved : Reply → ℕ
moved (Done (pos n)) = n
moved reply = 0
