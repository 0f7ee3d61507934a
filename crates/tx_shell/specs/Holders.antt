-- Who has a side of a pipe open.
use Rattle.std.specs.Prelude.{ℕ, zero, suc, Bool, false, List, [], ◌∷◌, ◌++◌, Option, Some, None, codes, nat_eq, option_map, slice_index_or, if◌then◌else◌}
use Rattle.std.specs.Fmt.{decimal}
use Rattle.tx_base.specs.declared.limits.TheConstants.{DESCRIPTORS}
use Rattle.tx_base.specs.declared.steps.Refusal.TheVariants.{Wait}
use Rattle.tx_base.specs.declared.steps.Reply.{Reply}
use Rattle.tx_base.specs.declared.steps.Reply.TheVariants.{No}
use Rattle.tx_base.specs.declared.steps.Step.{Step}
use Rattle.tx_base.specs.declared.steps.Step.TheVariants as steps
use Rattle.tx_base.specs.declared.steps.Call.TheVariants as calls
use Rattle.tx_desc.specs.Descriptions.{end_for}
use Rattle.tx_json.specs.declared.holders.Holder.{Holder}
use Rattle.tx_model.specs.Book.{is_read_side, is_write_side}
use Rattle.tx_model.specs.Descriptors.{is_side}
use Rattle.tx_model.specs.Footprints.{footprint}
use Rattle.tx_model.specs.State.{Description, Process, Side, ReadSide, State, WriteSide, has_object, side_in}
use Rattle.tx_model.specs.View.{View, present}
use Rattle.tx_waits.specs.Kinds.{limit_of, object_in}
use Rattle.tx_shell.specs.Names.{after_number, Names}
use Rattle.tx_waits.specs.declared.holders.Sought.{Sought}
use Rattle.tx_waits.specs.declared.holders.Sought.TheVariants.{Desc, End}
use Rattle.tx_waits.specs.declared.kinds.Kind.TheVariants.{Pipes, Processes}
use Rattle.tx_state_text.specs.Each.{each_text}

-- the word for a side
abbrev pub side_word : Side → List ℕ
side_word ReadSide = codes "read"
side_word WriteSide = codes "write"

-- the line of a side that nobody has open
abbrev pub nobody_line : Side → List ℕ
nobody_line side = codes "nobody has its " ++ (side_word side ++ codes " side open\n")

module _ (names : Names) where
  -- a descriptor of a process
  abbrev pub holder_text : Holder → List ℕ
  holder_text holder =
      decimal holder.descriptor
      ++ (codes " of process " ++ (decimal holder.process ++ after_number (names holder.process)))

  -- and of another
  abbrev pub next_text : Holder → List ℕ
  next_text holder = codes ", " ++ holder_text holder

  -- the line of those that have a side open
  abbrev pub holders_line : Side → List Holder → List ℕ
  holders_line side [] = nobody_line side
  holders_line side (first ∷ others) =
      codes "its "
      ++ (side_word side
      ++ (codes " side is open: descriptor "
      ++ (holder_text first ++ (each_text next_text others ++ 10 ∷ []))))
