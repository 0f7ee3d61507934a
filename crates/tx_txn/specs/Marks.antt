-- The marks of a transaction's members.
use Rattle.std.specs.Prelude.{◌≡◌, ℕ, Bool, true, false, List, length, Option, Some, None, ◌==◌, if◌then◌else◌}
use Rattle.tx_base.specs.Slots.{slot_at}
use Rattle.tx_base.specs.declared.marks.Mark.{Mark}
use Rattle.tx_base.specs.declared.names.Pid.{Pid}
use Rattle.tx_model.specs.Membership.{Table, is_of}
use Rattle.tx_model.specs.State.{Proc}
use Rattle.tx_reserve.specs.Objects.{is_in}
use Rattle.tx_reserve.specs.declared.objects.Objects.{Objects}
use Rattle.tx_txn.specs.declared.members.Members.{Members}

-- all members of the transaction of s are among the objects
abbrev pub IsCovered : ℕ → List (Option Mark) → Objects → Type 0
IsCovered s marks objects =
    (n : ℕ) → is_of s (slot_at marks n) ≡ true → is_in objects (Proc n) ≡ true

-- whether the mark is of a member of the transaction of s whose part has ended
abbrev pub ended_of : ℕ → Option Mark → Bool
ended_of s None = false
ended_of s (Some m) = if m.starter.0 == s then m.ended else false

-- the mark that the member n had
abbrev pub mark_of : Pid → Members → ℕ → Bool → Mark
mark_of starter members n defers =
    record { starter = starter; ended = is_in members.ended (Proc n); defers = defers }

-- the table of these marks
abbrev pub table_at : List (Option Mark) → Table
table_at marks = record { width = length marks; marks = slot_at marks }
