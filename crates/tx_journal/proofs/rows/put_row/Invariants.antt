use Rattle.std.proofs.Common.{◌≡◌, ◌++◌}
use Rattle.std.specs.List.{filter}
use Rattle.tx_base.specs.declared.steps.Step.{Step}
use Rattle.tx_journal.specs.Reach.{is_reached}
use Rattle.tx_journal.specs.Reaches.{Reaches}
use Rattle.tx_journal.specs.Rows.{first_pieces}
use Rattle.tx_content.specs.Content.{view_of}
use Rattle.tx_journal.proofs.rows.put_row.Given as goal

abbrev pub invariant-loop-number : goal.invariant-loop-number
invariant-loop-number l = (step : Step) → Reaches l.reach (view_of l.machine) step → l.found.items ≡ l.initial.found.items ++ filter (is_reached (view_of l.machine) step) (first_pieces l.row l.number)
