-- What a transaction begins with.
use Rattle.std.specs.Prelude.{◌≡◌, ◌||◌, ℕ, Bool, false, pos, List, [], length, Option, Some, None, if◌then◌else◌}
use Rattle.tx_base.specs.Slots.{slot_at}
use Rattle.tx_base.specs.declared.names.Pid.{Pid}
use Rattle.tx_change.specs.Exchange.{applied, exchanged, AreNamed}
use Rattle.tx_change.specs.declared.parts.Parts.{Parts}
use Rattle.tx_kernel.specs.Acts.{Makes}
use Rattle.tx_kernel.specs.declared.planned.Planned.{Planned}
use Rattle.tx_laws.specs.TwoStates.{is_owner}
use Rattle.tx_content.specs.declared.content.Content.{Content}
use Rattle.tx_model.specs.Membership.{is_of}
use Rattle.tx_model.specs.Events.{Note}
use Rattle.tx_model.specs.State.{Object, Proc, same_object}
use Rattle.tx_proc.specs.declared.proc.Proc.{Proc as TheProc}
use Rattle.tx_reserve.specs.Objects.{is_in, is_small}
use Rattle.tx_reserve.specs.Reservations.{owner_of}
use Rattle.tx_txn.specs.Txns.{none_held}
use Rattle.tx_txn.specs.declared.txn.Txn.{Txn}

-- whether the object is this process, of a number that a set may have
abbrev pub is_only : ℕ → Object → Bool
is_only n o = if same_object o (Proc n) then is_small o else false

-- the process of this number is in no transaction and has started none, owns nothing and is owned
-- by none
pub record IsAlone (k : Content) (s : ℕ) : Type 0 where
  pub mark : slot_at k.marks s ≡ None
  pub members : (n : ℕ) → is_of s (slot_at k.marks n) ≡ false
  pub owner : owner_of k.owners (Proc s) ≡ None
  pub owns : (o : Object) → is_owner s (owner_of k.owners o) ≡ false

-- a transaction as it begins: it keeps what is pending at its starter, and the starter's ids; it
-- holds and owns nothing; its log has the plan of the answer 0
pub record IsBegun (parts : Parts) (pid : Pid) (defers : Bool) (txn : Txn) : Type 0 where
  pub starter : txn.starter ≡ pid
  pub deferring : txn.defers ≡ defers
  pub proc : TheProc
  pub there : slot_at parts.procs pid.0 ≡ Some proc
  pub ids : txn.kept.ids ≡ proc.cred
  pub pending : txn.kept.pending ≡ proc.pending
  pub outbox : txn.outbox ≡ none_held
  pub objects : (o : Object) → is_in txn.objects o ≡ false
  pub members : txn.members ≡ None
  pub named : AreNamed parts txn.log
  pub planned : Planned
  pub makes :
      Makes parts pid None (Note pid.0 (pos 0)) [] (exchanged parts txn.log) (applied parts txn.log)
      planned

-- a transaction that a process begins, before its first exchange: it keeps what is pending at its
-- starter, and the starter's ids
pub record StartsOf (pid : Pid) (defers : Bool) (proc : TheProc) (txn : Txn) : Type 0 where
  pub starter : txn.starter ≡ pid
  pub deferring : txn.defers ≡ defers
  pub ids : txn.kept.ids ≡ proc.cred
  pub pending : txn.kept.pending ≡ proc.pending
  pub log : txn.log ≡ []
  pub outbox : txn.outbox ≡ none_held
  pub objects : (o : Object) → is_in txn.objects o ≡ false
  pub members : txn.members ≡ None

-- the first step was made: its exchanges, and what it reserves
pub record Starts (before after : Parts) (owners others : List (Option Pid)) (old new : Txn)
    : Type 0 where
  pub parts : after ≡ applied before old.log
  pub log : new.log ≡ exchanged before old.log
  pub owns : (o : Object)
      → owner_of others o
      ≡ (if is_only old.starter.0 o then Some old.starter.0 else owner_of owners o)
  pub sized : length others ≡ 352
  pub objects : (o : Object)
      → is_in new.objects o ≡ (is_in old.objects o || is_only old.starter.0 o)
  pub rest : new ≡ record old { log = new.log; objects = new.objects }
