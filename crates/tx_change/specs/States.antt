-- The state that the parts mean, and what exchanges make of it.
use Rattle.std.specs.Prelude.{ℕ, List, [], ◌∷◌, option_map, length}
use Rattle.tx_base.specs.Slots.{slot_at}
use Rattle.tx_change.specs.Exchange.{pipe_at}
use Rattle.tx_change.specs.Pipes.{piped_in}
use Rattle.tx_change.specs.declared.change.Change.{Change}
use Rattle.tx_change.specs.declared.change.Change.TheVariants.{Slot, Part, Description, Pipe}
use Rattle.tx_change.specs.declared.parts.Parts.{Parts}
use Rattle.tx_desc.specs.Descriptions.{described, description_at}
use Rattle.tx_model.specs.State.{State, Sending, SetProc, SetDesc, SetPipe, write_one}
use Rattle.tx_proc.specs.Parts.{process_in, revised}

-- the state that the parts mean, where the live transactions hold these sends
abbrev pub state_of : (ℕ → List Sending) → Parts → State
state_of held parts = record {
  width = length parts.procs;
  procs = λ n. process_in (slot_at parts.procs n);
  descs = λ d. description_at parts.descs d;
  pipes = λ q. pipe_at parts.pipes q;
  held = held;
}

-- a state with the part replaced that the change has
abbrev pub changed : Change → State → State
changed (Slot pid slot) S = write_one (SetProc pid.0 (process_in slot)) S
changed (Part pid part) S =
    write_one (SetProc pid.0 (option_map (λ me. revised part me) (S.procs pid.0))) S
changed (Description number opened) S = write_one (SetDesc number.0 (described opened)) S
changed (Pipe number part) S = write_one (SetPipe number.0 (piped_in (S.pipes number.0) part)) S

-- with each part replaced, the first one first
abbrev pub changed_by : List Change → State → State
changed_by [] S = S
changed_by (change ∷ changes) S = changed_by changes (changed change S)
