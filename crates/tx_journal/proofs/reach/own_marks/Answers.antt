use Rattle.std.proofs.Common.{◌≡◌, ◌+◌, ◌∙◌, ℕ, Option, ap, subst, sym, arith}
use Rattle.tx_base.specs.declared.marks.Mark.{Mark}
use Rattle.tx_journal.proofs.OwnMarks.{all_copied, none_added, none_copied, one_copied, AreCopied}
use Rattle.tx_journal.proofs.Reaching.{none_at_zero, none_beyond}
use Rattle.tx_journal.specs.Reach.{own_mark}
use Rattle.tx_content.specs.Content.{view_of}
use Rattle.tx_journal.proofs.reach.own_marks.Goals.{in-Some, in_default}
use Rattle.std.proofs.lemmas.Grind.{common_steps}
use Rattle.tx_journal.proofs.reach.own_marks.Goals as goal

pub loop-done-init : goal.loop-done-init
loop-done-init c = none_copied (view_of c.args.machine.now).table.marks c.processes-width.result c.args.starter.0 c.in_ok-own.own c.in_ok-own.ensures (none_at_zero c.args.machine.now)

pub loop-done-preserved : goal.loop-done-preserved
loop-done-preserved c =
    let marks : ℕ → Option Mark = (view_of c.args.machine.now).table.marks in
    let width : ℕ = c.processes-width.result in
    let s : ℕ = c.args.starter.0 in
    let done : ℕ = c.loop-done.done in
    let is : c.own_mark.result ≡ own_mark s (marks (done + 1)) = c.own_mark.ensures ∙ ap (own_mark s) (c.marks.ensures.table (done + 1)) in
    elim c.match-own_mark.branch [
      | in-Some w ↦
          subst (λ own. AreCopied marks width s own (done + 1)) (sym w.own-is)
          (one_copied marks width s c.loop-done.own done c.loop-done.invariant w.put.new.self w.in-Some.mark c.loop-done-test.true w.put.ensures (sym w.in-Some.is ∙ is))
      | in_default w ↦
          subst (λ own. AreCopied marks width s own (done + 1)) (sym w.own-is)
          (none_added marks width s c.loop-done.own done c.loop-done.invariant (sym w.in_default.is ∙ is))
    ]

pub returns : goal.returns
returns c = grind (arith, common_steps, all_copied, none_beyond)
