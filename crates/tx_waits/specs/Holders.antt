-- Who has a side of a pipe or a description open, and who could end the wait of a step.
use Rattle.std.specs.Prelude.{ℕ, zero, suc, Bool, false, List, [], ◌∷◌, ◌++◌, Option, Some, None, nat_eq, option_map, slice_index_or, if◌then◌else◌}
use Rattle.tx_base.specs.declared.limits.TheConstants.{DESCRIPTORS}
use Rattle.tx_base.specs.declared.steps.Refusal.TheVariants.{Wait}
use Rattle.tx_base.specs.declared.steps.Reply.{Reply}
use Rattle.tx_base.specs.declared.steps.Reply.TheVariants.{No}
use Rattle.tx_base.specs.declared.steps.Step.{Step}
use Rattle.tx_base.specs.declared.steps.Step.TheVariants as steps
use Rattle.tx_base.specs.declared.steps.Call.TheVariants as calls
use Rattle.tx_desc.specs.Descriptions.{end_for}
use Rattle.tx_json.specs.declared.holders.Holder.{Holder}
use Rattle.tx_model.specs.Book.{is_read_side, is_write_side}
use Rattle.tx_model.specs.Descriptors.{is_side}
use Rattle.tx_model.specs.Footprints.{footprint}
use Rattle.tx_model.specs.State.{Description, Process, Side, ReadSide, State, WriteSide, has_object, side_in}
use Rattle.tx_model.specs.View.{View, present}
use Rattle.tx_waits.specs.Kinds.{limit_of, object_in}
use Rattle.tx_waits.specs.declared.holders.Sought.{Sought}
use Rattle.tx_waits.specs.declared.holders.Sought.TheVariants.{Desc, End}
use Rattle.tx_waits.specs.declared.kinds.Kind.TheVariants.{Pipes, Processes}

-- the description that descriptor f of a process names
abbrev pub named_by : ℕ → Option Process → Option ℕ
named_by f None = None
named_by f (Some q) = slice_index_or q.descriptors f None

-- whether a description is that side of pipe k
abbrev pub is_end : ℕ → Side → Option Description → Bool
is_end k ReadSide d = is_side is_read_side (side_in k d)
is_end k WriteSide d = is_side is_write_side (side_in k d)

-- whether what a descriptor names is that side of pipe k
abbrev pub names_end : State → ℕ → Side → Option ℕ → Bool
names_end S k side None = false
names_end S k side (Some d) = is_end k side (S.descs d)

-- what each number below a limit has, in rising order
unfoldable pub each_below : {A : Type 0} → (ℕ → List A) → ℕ → List A
each_below some zero = []
each_below some (suc limit) = each_below some limit ++ some limit

-- whether what a descriptor names is description d
abbrev pub names_desc : ℕ → Option ℕ → Bool
names_desc d None = false
names_desc d (Some named) = nat_eq named d

-- whether what a descriptor names is sought
abbrev pub is_sought : State → Sought → Option ℕ → Bool
is_sought S (End side k) name = names_end S k (end_for side) name
is_sought S (Desc d) name = names_desc d.0 name

-- descriptor f of process p, where what it names is sought
abbrev pub holder_at : (Option ℕ → Bool) → State → ℕ → ℕ → List Holder
holder_at sought S p f =
    if sought (named_by f (S.procs p)) then record { process = p; descriptor = f } ∷ [] else []

-- all such descriptors of a process, and of all processes
abbrev pub holders_in : (Option ℕ → Bool) → State → ℕ → List Holder
holders_in sought S p = each_below (holder_at sought S p) DESCRIPTORS

abbrev pub holders_by : (Option ℕ → Bool) → State → List Holder
holders_by sought S = each_below (holders_in sought S) (limit_of Processes)

-- who has that side of pipe k open
abbrev pub holders : State → Side → ℕ → List Holder
holders S side k = holders_by (λ name. names_end S k side name) S

-- who has description d open
abbrev pub desc_holders : State → ℕ → List Holder
desc_holders S d = holders_by (λ name. names_desc d name) S

-- the side that a step that reads or writes waits for: that of those who could end its wait
abbrev pub other_side : Step → Option Side
other_side (steps.Call p (calls.Read fd address count)) = Some WriteSide
other_side (steps.Call p (calls.Write fd address count)) = Some ReadSide
other_side step = None

module _ (V : View) (step : Step) where
  -- who has that side of pipe k open, if the step names it
  abbrev pub named_holders : Side → ℕ → List Holder
  named_holders side k =
      if has_object (object_in Pipes k) (footprint V.table step (present V))
      then holders (present V) side k
      else []

  abbrev pub side_holders : Side → List Holder
  side_holders side = each_below (named_holders side) (limit_of Pipes)

  -- who has the other side of its pipe open, if it reads or writes
  abbrev pub other_holders : Option (List Holder)
  other_holders = option_map side_holders (other_side step)

  -- who could end its wait, if it waits
  abbrev pub awaited_by : Reply → Option (List Holder)
  awaited_by (No Wait) = other_holders
  awaited_by reply = None
