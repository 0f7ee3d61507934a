use Rattle.std.specs.Prelude.{Some}
use Rattle.tx_workers.proofs.ready.run_queue.Given as goal

abbrev pub ghosts-serve_named-J-Work : goal.ghosts-serve_named-J-Work
ghosts-serve_named-J-Work g a = record { program = Some a.program.now; given = Some a.session }

abbrev pub ghosts-serve_named-J-Ledger : goal.ghosts-serve_named-J-Ledger
ghosts-serve_named-J-Ledger g a = record { name = a.blank.name; parts = a.blank.parts }
