-- Who could end the wait of a step that is refused since it waits, and how that is shown. Own
-- rules.
use Rattle.std.specs.Prelude.{ℕ, ◌+◌, ◌-◌, ◌==◌, List, [], ◌∷◌, ◌++◌, codes, fold, map, Option, Some, None, if◌then◌else◌}
use Rattle.tx_base.specs.declared.names.Pid.{Pid}
use Rattle.tx_base.specs.declared.steps.Call.TheVariants.{Waitpid}
use Rattle.tx_base.specs.declared.steps.Refusal.TheVariants.{Wait as Waits}
use Rattle.tx_base.specs.declared.steps.Reply.{Reply}
use Rattle.tx_base.specs.declared.steps.Reply.TheVariants.{No}
use Rattle.tx_base.specs.declared.steps.Step.{Step}
use Rattle.tx_base.specs.declared.steps.Step.TheVariants.{Call as Calls}
use Rattle.tx_json.specs.declared.holders.Holder.{Holder}
use Rattle.tx_model.specs.View.{View}
use Rattle.tx_picture.specs.Columns.{noted}
use Rattle.tx_picture.specs.Layout.{x_of, y_of}
use Rattle.tx_picture.specs.Svg.{shape_text}
use Rattle.tx_picture.specs.Ties.{numbered_by}
use Rattle.tx_picture.specs.declared.elements.Shape.TheVariants.{Line}
use Rattle.tx_picture.specs.declared.waits.Wait.{Wait}
use Rattle.tx_waits.specs.Holders.{awaited_by}

abbrev pub listed : Option Pid → List Pid
listed None = []
listed (Some process) = process ∷ []

-- the child that a waitpid waits for
abbrev pub child_awaited : Step → Reply → List Pid
child_awaited (Calls p (Waitpid child nohang)) (No Waits) = listed (numbered_by child)
child_awaited step reply = []

-- the processes of some descriptors, each once
abbrev pub holding : List Pid → Option (List Holder) → List Pid
holding found None = found
holding found (Some holders) =
    fold (λ processes holder. noted processes (record { 0 = holder.process })) found holders

-- the processes that could end the wait of a step that is answered so: those that have the other
-- side of its pipe open, or its child
abbrev pub awaited : View → Step → Reply → List Pid
awaited V step reply = holding (child_awaited step reply) (awaited_by V step reply)

abbrev pub wait_of : ℕ → ℕ → Pid → Wait
wait_of row waiter process = record { row = row; waiter = record { 0 = waiter }; awaited = process }

abbrev pub waits_of : ℕ → ℕ → List Pid → List Wait
waits_of row waiter processes = map (wait_of row waiter) processes

-- an arrow back to the process itself, which waits for what it alone could do
abbrev pub own_wait_text : ℕ → ℕ → List ℕ
own_wait_text x y =
    shape_text Line (codes "waiting") (record { 0 = x; 1 = y; 2 = x - 16; 3 = y + 5 })
    ++ shape_text Line (codes "wait") (record { 0 = x - 16; 1 = y + 5; 2 = x; 3 = y + 11 })

-- an arrow from the mark of the step to the column of a process that could end its wait
abbrev pub wait_text : List Pid → Wait → List ℕ
wait_text columns wait =
    let x = x_of columns wait.waiter.0 in
    let y = y_of wait.row in
    if wait.waiter.0 == wait.awaited.0
    then own_wait_text x y
    else shape_text Line (codes "wait")
    (record { 0 = x; 1 = y; 2 = x_of columns wait.awaited.0; 3 = y })
