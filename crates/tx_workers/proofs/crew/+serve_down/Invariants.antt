use Rattle.tx_workers.proofs.crew.+serve_down.Given as goal

abbrev pub decreases-serve_down : goal.decreases-serve_down
decreases-serve_down g l = l.post.number
