-- Changes that calls on names make.
use Rattle.std.specs.Prelude.{ℕ, pos, List, [], ◌∷◌, ◌++◌, Option, Some, None, if◌then◌else◌}
use Rattle.tx_base.specs.declared.names.Pid.{Pid}
use Rattle.tx_base.specs.declared.names.PipeNo.{PipeNo}
use Rattle.tx_desc.specs.declared.plans.PipePlan.{PipePlan}
use Rattle.tx_kernel.specs.Own.{answer_after}
use Rattle.tx_kernel.specs.declared.actor.Actor.{Actor}
use Rattle.tx_proc.specs.declared.proc.Part.TheVariants.{Answer, Register}
use Rattle.tx_change.specs.Counts.{name_changes, desc_changes}
use Rattle.tx_desc.specs.declared.plans.NewDesc.{NewDesc}
use Rattle.tx_desc.specs.declared.plans.Rename.{Rename}
use Rattle.tx_change.specs.States.{state_of}
use Rattle.tx_change.specs.declared.change.Change.{Change}
use Rattle.tx_change.specs.declared.change.Change.TheVariants.{Part, Pipe}
use Rattle.tx_change.specs.declared.parts.Parts.{Parts}
use Rattle.tx_change.specs.declared.pipes.PipePart.TheVariants.{Whole}
use Rattle.tx_desc.specs.Plans.{listed_desc, put_descs}
use Rattle.tx_desc.specs.declared.given.Given.{Given}
use Rattle.tx_desc.specs.declared.opened.Desc.{Desc}
use Rattle.tx_desc.specs.declared.opened.Opened.{Opened}
use Rattle.tx_model.specs.Descriptors.{has_description}
use Rattle.tx_model.specs.State.{State}

-- the state of these parts with other descriptions
abbrev pub described_by : Parts → List (Option Opened) → State
described_by parts descs = state_of (λ starter. []) (record parts { descs = descs })

-- the pipe of a description that is gone goes too, if no description of that state names it
abbrev pub endless_changes : Option Desc → State → List Change
endless_changes None S = []
endless_changes (Some desc) S =
    if has_description desc.pipe.0 S then [] else Pipe desc.pipe (Whole None) ∷ []

-- the description that went with a name, if one did
abbrev pub gone_of : Option Given → Option Desc
gone_of None = None
gone_of (Some given) = given.gone

-- what goes with the name that a descriptor had, of these descriptions with one name more and one
-- fewer
abbrev pub left_changes : Parts → Option Given → NewDesc → Option NewDesc → List Change
left_changes parts given named None = []
left_changes parts given named (Some left) =
    endless_changes (gone_of given) (described_by parts (put_descs (named ∷ left ∷ []) parts.descs))

-- the changes of a rename, and what goes with the name that is given up
abbrev pub rename_changes : Pid → Parts → Option Given → Option Rename → List Change
rename_changes pid parts given None = []
rename_changes pid parts given (Some rename) =
    name_changes pid (rename.name ∷ [])
    ++ desc_changes (rename.named ∷ listed_desc rename.left)
    ++ left_changes parts given rename.named rename.left

-- a slot of the registers keeps a descriptor
abbrev pub slot_change : Pid → ℕ → ℕ → Change
slot_change pid number fd = Part pid (Register (record { number = number; value = pos fd }))

-- the changes of a new pipe except the names and descriptions: the pipe, and what the process has
-- in its registers
abbrev pub opened_changes : Actor → PipeNo → PipePlan → List Change
opened_changes actor pipe plan =
    Pipe pipe (Whole (Some [])) ∷ slot_change actor.pid 0 plan.read_name.fd
    ∷ slot_change actor.pid 1 plan.write_name.fd
    ∷ Part actor.pid (Answer (answer_after (pos 0) actor)) ∷ []

-- the changes of a new pipe
abbrev pub pipe_changes : Actor → PipeNo → PipePlan → List Change
pipe_changes actor pipe plan =
    name_changes actor.pid (plan.read_name ∷ plan.write_name ∷ [])
    ++ desc_changes (plan.read ∷ plan.write ∷ [])
    ++ opened_changes actor pipe plan
