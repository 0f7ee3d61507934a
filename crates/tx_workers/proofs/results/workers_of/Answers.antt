use Rattle.std.proofs.Common.{rules, ◌≡◌, [], List, subst, sym}
use Rattle.std.proofs.Math.ListN.{drop_of_length-le}
use Rattle.std.proofs.lemmas.List.{append-nil}
use Rattle.tx_workers.specs.Runs.{AreNoted}
use Rattle.tx_workers.specs.declared.runner.Runner.{Runner}
use Rattle.tx_workers.specs.declared.worker.Worker.{Worker}
use Rattle.tx_workers.proofs.results.workers_of.Goals as goal

pub returns : goal.returns
returns c =
    let added = c.args.added.now in
    let none : c.loop-runner.left.now ≡ [] = drop_of_length-le c.loop-runner.left.now {i = 0} (search rules) in
    let all = c.loop-runner.invariant [] (subst (λ (left : List Runner). AreNoted added left []) (sym none) tt) in
    subst (λ (workers : List Worker). AreNoted added c.args.runners.now workers) (append-nil c.loop-runner.workers.items) all
