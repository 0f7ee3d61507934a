use Rattle.std.proofs.Common.{w64, rules, [], ap, sym, subst}
use Rattle.std.proofs.lemmas.Int.{to_z-of_z}
use Rattle.tx_base.specs.declared.steps.Call.{Call}
use Rattle.tx_change.specs.States.{state_of}
use Rattle.tx_kernel.specs.Actors.{me_of}
use Rattle.tx_model.specs.Footprints.{call_row}
use Rattle.tx_reserve.specs.Footprints.{Adds, ends_part, table_at}
use Rattle.tx_reserve.proofs.Rows.{adds_none, adds_same}
use Rattle.tx_reserve.proofs.Silent.{row_nothing}
use Rattle.tx_reserve.proofs.footprints.add_call.Goals as goal

pub returns-in-Waitpid : goal.returns-in-Waitpid
returns-in-Waitpid c = λ held goes.
    let P : Call → Type 0 = λ call. Adds c.args.set.now c.add_waitpid.new.set (call_row (table_at c.args.actor.now c.args.marks.now) c.args.actor.now.pid.0 call (me_of c.args.actor.now) (state_of held c.args.actor.now.parts.now)) in
    subst P (sym c.in-Waitpid.is) (simp (to_z-of_z w64 c.in-Waitpid.child (search rules)) at (c.add_waitpid.ensures held))

pub returns-in-SysXend : goal.returns-in-SysXend
returns-in-SysXend c = λ held goes.
    let P : Call → Type 0 = λ call. Adds c.args.set.now c.add_commit.new.set (call_row (table_at c.args.actor.now c.args.marks.now) c.args.actor.now.pid.0 call (me_of c.args.actor.now) (state_of held c.args.actor.now.parts.now)) in
    subst P (sym c.in-SysXend.is) (c.add_commit.ensures held (goes (ap (ends_part c.args.actor.now.pid.0) c.in-SysXend.is)))

pub returns-in_default : goal.returns-in_default
returns-in_default c = λ held goes.
    adds_same [] _ (row_nothing (table_at c.args.actor.now c.args.marks.now) c.args.actor.now.pid.0 c.args.call.now (me_of c.args.actor.now) (state_of held c.args.actor.now.parts.now) (record {
      fork = c.in_default.not-Fork;
      exit = c.in_default.not-Exit;
      waitpid = c.in_default.not-Waitpid;
      pipe = c.in_default.not-Pipe;
      dup = c.in_default.not-Dup;
      dup2 = c.in_default.not-Dup2;
      close = c.in_default.not-Close;
      nonblock = c.in_default.not-SetNonblock;
      read = c.in_default.not-Read;
      write = c.in_default.not-Write;
      kill = c.in_default.not-Kill;
      sigqueue = c.in_default.not-Sigqueue;
      commit = c.in_default.not-SysXend;
    })) (adds_none c.args.set.now)
