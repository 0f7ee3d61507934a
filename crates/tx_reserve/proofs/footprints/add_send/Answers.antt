use Rattle.std.proofs.Common.{w64, rules}
use Rattle.std.proofs.lemmas.Int.{to_z-of_z}
use Rattle.std.specs.Prelude.{FitsSigned}
use Rattle.tx_reserve.specs.Footprints.{table_at}
use Rattle.tx_reserve.proofs.Rows.{send_none, send_unsendable, send_some}
use Rattle.tx_reserve.proofs.footprints.add_send.Goals as goal

pub returns-in_default : goal.returns-in_default
returns-in_default c =
    let fits_target : FitsSigned w64 c.args.target = search rules in
    send_none c.args.set.now (table_at c.args.actor.now c.args.marks.now) c.args.actor.now.pid.0 _ _ (simp (to_z-of_z w64 c.args.target fits_target) at c.in_default.ensures)

pub returns-in_default-sendable : goal.returns-in_default-sendable
returns-in_default-sendable c =
    let fits_signo : FitsSigned w64 c.args.signo = search rules in
    send_unsendable c.args.set.now (table_at c.args.actor.now c.args.marks.now) c.args.actor.now.pid.0 _ _ (simp (to_z-of_z w64 c.args.signo fits_signo) at c.in_default-sendable.ensures.number)

pub returns : goal.returns
returns c =
    let fits_target : FitsSigned w64 c.args.target = search rules in
    let fits_signo : FitsSigned w64 c.args.signo = search rules in
    send_some (table_at c.args.actor.now c.args.marks.now) c.args.actor.now.pid.0 _ _ _ _ (simp (to_z-of_z w64 c.args.target fits_target) at c.in-Some.ensures) (simp (to_z-of_z w64 c.args.signo fits_signo) at c.in-Some-sendable.ensures.number) c.add_target.ensures
