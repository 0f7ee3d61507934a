use Rattle.std.proofs.Common.{◌≡◌, ◌++◌}
use Rattle.tx_json.specs.Each.{upto}
use Rattle.tx_content.specs.Content.{view_of}
use Rattle.tx_shell.specs.Members.{listed_item}
use Rattle.tx_shell.specs.Owners.{owns_one}
use Rattle.tx_shell.proofs.answers.as_json.owners.put_owned.Given as goal

abbrev pub invariant-loop-number : goal.invariant-loop-number
invariant-loop-number l = l.writer ≡ l.initial.writer ++ upto (listed_item (owns_one (view_of l.machine) l.starter.0 l.kind)) l.number
