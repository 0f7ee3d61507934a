-- The objects in the way of a step.
use Rattle.std.specs.Prelude.{ℕ, Bool, false, List, [], ◌∷◌, ◌++◌, Option, Some, None, option_map, if◌then◌else◌}
use Rattle.tx_base.specs.declared.steps.Accepted.{Accepted}
use Rattle.tx_base.specs.declared.steps.Refusal.TheVariants.{Busy}
use Rattle.tx_base.specs.declared.steps.Reply.{Reply}
use Rattle.tx_base.specs.declared.steps.Reply.TheVariants.{No}
use Rattle.tx_base.specs.declared.steps.Step.{Step}
use Rattle.tx_core.specs.Owners.{other_owner}
use Rattle.tx_journal.specs.Since.{Numbered, first_touch, numbered}
use Rattle.tx_model.specs.Events.{process_of}
use Rattle.tx_model.specs.Footprints.{footprint}
use Rattle.tx_model.specs.State.{State, has_object}
use Rattle.tx_model.specs.View.{present, view}
use Rattle.tx_reserve.specs.Objects.{is_small}
use Rattle.tx_waits.specs.Holders.{each_below}
use Rattle.tx_waits.specs.Kinds.{limit_of, object_in}
use Rattle.tx_shell.specs.declared.questions.blockers.Blocker.{Blocker}
use Rattle.tx_waits.specs.declared.kinds.Kind.{Kind}
use Rattle.tx_waits.specs.declared.kinds.Kind.TheVariants.{Processes, Descriptions, Pipes}

-- an object that the transaction of a starter has, and the first step since which it has it
pub record Blocked : Type 0 where
  pub kind : Kind
  pub number : ℕ
  pub owner : ℕ
  pub since : Option Numbered

-- what the code has of it
abbrev pub blocked_of : Blocker → Blocked
blocked_of blocker =
    record {
      kind = blocker.kind;
      number = blocker.number;
      owner = blocker.owner.0;
      since = option_map numbered blocker.since;
    }

-- the object of a kind and a number, where it has another owner
abbrev pub owned_by : State → List Accepted → Kind → ℕ → Option ℕ → List Blocked
owned_by S h kind number None = []
owned_by S h kind number (Some s) =
    record {
      kind = kind;
      number = number;
      owner = s;
      since = first_touch S h s (object_in kind number);
    }
    ∷ []

module _ (S : State) (h : List Accepted) (step : Step) where
  -- whether the step names the object of a kind and a number
  abbrev pub names_one : Kind → ℕ → Bool
  names_one kind number =
      let V = view S h in
      let o = object_in kind number in
      if is_small o then has_object o (footprint V.table step (present V)) else false

  -- it, where the step names it and another's transaction has reserved it
  abbrev pub blocked_at : Kind → ℕ → List Blocked
  blocked_at kind number =
      if names_one kind number
      then owned_by S h kind number
      (other_owner (view S h) (process_of step) (object_in kind number))
      else []

  abbrev pub blocked_in : Kind → List Blocked
  blocked_in kind = each_below (blocked_at kind) (limit_of kind)

  -- all such objects, by kinds and rising numbers
  abbrev pub blocked : List Blocked
  blocked = blocked_in Processes ++ (blocked_in Descriptions ++ blocked_in Pipes)

  -- those in the way of a step that would get this reply
  abbrev pub blocked_by : Reply → List Blocked
  blocked_by (No (Busy starter)) = blocked
  blocked_by reply = []
