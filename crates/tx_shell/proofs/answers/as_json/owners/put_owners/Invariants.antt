use Rattle.std.proofs.Common.{◌≡◌, ◌+◌, ◌++◌}
use Rattle.tx_json.specs.Each.{upto}
use Rattle.tx_content.specs.Content.{view_of}
use Rattle.tx_shell.specs.Members.{owner_item}
use Rattle.tx_shell.proofs.answers.as_json.owners.put_owners.Given as goal

abbrev pub invariant-loop-done : goal.invariant-loop-done
invariant-loop-done l = l.writer ≡ l.initial.writer ++ upto (λ done. owner_item (view_of l.machine) (done + 1)) l.done
