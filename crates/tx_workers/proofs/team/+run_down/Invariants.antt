use Rattle.tx_workers.proofs.team.+run_down.Given as goal

abbrev pub decreases-run_down : goal.decreases-run_down
decreases-run_down g l = l.post.number
