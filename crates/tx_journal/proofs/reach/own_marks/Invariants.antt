use Rattle.tx_journal.proofs.OwnMarks.{AreCopied}
use Rattle.tx_content.specs.Content.{view_of}
use Rattle.tx_journal.proofs.reach.own_marks.Given as goal

abbrev pub invariant-loop-done : goal.invariant-loop-done
invariant-loop-done l = AreCopied (view_of l.machine).table.marks l.width l.starter.0 l.own l.done
