-- What the abort of a transaction makes of the parts, and of the transaction.
use Rattle.std.specs.Prelude.{◌≡◌, ℤ, pos, Option, Some, None}
use Rattle.tx_base.specs.Slots.{slot_at}
use Rattle.tx_base.specs.declared.names.Pid.{Pid}
use Rattle.tx_change.specs.Exchange.{exchanged, parts_after, reverted, undone}
use Rattle.tx_change.specs.declared.change.Change.{Change}
use Rattle.tx_change.specs.declared.change.Change.TheVariants.{Part}
use Rattle.tx_change.specs.declared.parts.Parts.{Parts}
use Rattle.tx_model.specs.Effects.{next_point}
use Rattle.tx_proc.specs.Parts.{pending_in}
use Rattle.tx_proc.specs.declared.proc.Answer.{Answer as TheAnswer}
use Rattle.tx_proc.specs.declared.proc.Part.TheVariants.{Answer}
use Rattle.tx_proc.specs.declared.proc.Proc.{Proc}
use Rattle.tx_txn.specs.Logs.{with_pending_at}
use Rattle.tx_txn.specs.declared.txn.Txn.{Txn}

-- the point and the answer of a process; those of the start where there is none
abbrev pub standing : Option Proc → TheAnswer
standing None = record { point = 0; ret = pos 0 }
standing (Some proc) = record { point = proc.regs.point; ret = proc.regs.ret }

-- the next point, with this answer
abbrev pub answered_from : TheAnswer → ℤ → TheAnswer
answered_from stood ret = record { point = next_point stood.point; ret = ret }

-- the change that gives a process this point and answer
abbrev pub standing_at : Pid → TheAnswer → Change
standing_at pid answer = Part pid (Answer answer)

-- the parts led back by the transaction, with what was kept as pending at its starter
abbrev pub led_parts : Parts → Txn → Parts
led_parts parts txn = with_pending_at txn.starter.0 txn.kept.pending (undone parts txn.log)

-- the transaction then: what it took back is in its log, and what was pending there is kept
abbrev pub led_txn : Parts → Txn → Txn
led_txn parts txn = record txn {
  kept = record txn.kept {
    pending =
        pending_in (slot_at (undone parts txn.log).procs txn.starter.0) txn.kept.pending;
  };
  log = reverted parts txn.log;
}

-- the parts with the starter at this point, with what was kept as pending there
abbrev pub forth_parts : Parts → Txn → TheAnswer → Parts
forth_parts parts txn stood =
    with_pending_at txn.starter.0 txn.kept.pending
    (parts_after parts (standing_at txn.starter stood))

-- the transaction whose log was made on them: what was pending there is kept
abbrev pub forth_txn : Parts → Txn → TheAnswer → Txn
forth_txn parts txn stood = record txn {
  kept = record txn.kept {
    pending =
        pending_in
        (slot_at (parts_after parts (standing_at txn.starter stood)).procs txn.starter.0)
        txn.kept.pending;
  };
  log = exchanged (forth_parts parts txn stood) txn.log;
}

-- the transaction was led back, and its starter has this answer from its point
pub record IsLedBack (before after : Parts) (ret : ℤ) (old new : Txn) (stood : TheAnswer)
    : Type 0 where
  pub parts :
      after ≡ parts_after (led_parts before old) (standing_at old.starter (answered_from stood ret))
  pub stands : stood ≡ standing (slot_at (led_parts before old).procs old.starter.0)
  pub txn : new ≡ led_txn before old
