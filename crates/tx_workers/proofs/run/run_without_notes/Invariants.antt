use Rattle.std.specs.Prelude.{Some}
use Rattle.tx_workers.proofs.run.run_without_notes.Given as goal

abbrev pub ghosts-run_named-J-Work : goal.ghosts-run_named-J-Work
ghosts-run_named-J-Work g a = record { program = Some a.program.now; given = Some a.session }

abbrev pub ghosts-run_named-J-Ledger : goal.ghosts-run_named-J-Ledger
ghosts-run_named-J-Ledger g a = record { name = a.blank.name; parts = a.blank.parts }
