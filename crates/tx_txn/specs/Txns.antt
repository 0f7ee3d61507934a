-- A live transaction.
use Rattle.std.specs.Prelude.{◌≡◌, ℕ, true, List, [], Option, Some}
use Rattle.tx_base.specs.Slots.{slot_at}
use Rattle.tx_base.specs.declared.marks.Mark.{Mark}
use Rattle.tx_base.specs.declared.names.Pid.{Pid}
use Rattle.tx_model.specs.Effects.{Inside}
use Rattle.tx_model.specs.Membership.{is_of}
use Rattle.tx_model.specs.State.{Object}
use Rattle.tx_reserve.specs.Objects.{is_in}
use Rattle.tx_reserve.specs.Reservations.{owner_of}
use Rattle.tx_reserve.specs.declared.objects.Objects.{Objects}
use Rattle.tx_txn.specs.Outboxes.{Held}
use Rattle.tx_txn.specs.declared.txn.Txn.{Txn}

-- nothing is held
abbrev pub none_held : Held
none_held = record { sendings = []; posts = [] }

-- what a step of a member is made inside, with these marks
abbrev pub inside_at : Txn → List (Option Mark) → Inside
inside_at txn marks =
    record {
      starter = txn.starter.0;
      members = λ n. is_of txn.starter.0 (slot_at marks n);
      defers = txn.defers;
    }

-- these objects are the starter's
abbrev pub Owns : ℕ → List (Option Pid) → Objects → Type 0
Owns starter owners objects =
    (o : Object) → is_in objects o ≡ true → owner_of owners o ≡ Some starter
