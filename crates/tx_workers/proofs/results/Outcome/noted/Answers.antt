use Rattle.std.proofs.Common.{◌≡◌, ◌∙◌, List, length, subst, sym}
use Rattle.std.proofs.Math.Seq.{drop-append_seam}
use Rattle.tx_journal.specs.declared.entry.Entry.{Entry}
use Rattle.tx_workers.proofs.Notes.{have_worked, noted_made}
use Rattle.tx_workers.specs.Runs.{AreNoted}
use Rattle.tx_workers.specs.declared.runner.Runner.{Runner}
use Rattle.tx_workers.proofs.results.Outcome.noted.Goals as goal

pub returns-clause-worked : goal.returns-clause-worked
returns-clause-worked c = λ program given count turns from run.
    let runners = c.args.self.runners.items in
    let workers = c.in-Ok.workers.items in
    let start : c.args.start ≡ length given.entries = sym from in
    let back : c.split_at.result.1.now ≡ run.added = c.split_at.ensures.back ∙ (rw (c.entries.ensures, run.grown, start) (drop-append_seam given.entries run.added)) in
    let of_them = subst (λ (all : List Runner). AreNoted c.split_at.result.1.now all workers) c.as_slice.ensures.value c.in-Ok.ensures in
    have_worked program given count turns c.args.self.session runners workers run (subst (λ (added : List Entry). AreNoted added runners workers) back of_them)

pub returns-clause-noted : goal.returns-clause-noted
returns-clause-noted c = λ program given count turns from run.
    let runners = c.args.self.runners.items in
    let workers = c.in-Ok.workers.items in
    let start : c.args.start ≡ length given.entries = sym from in
    let back : c.split_at.result.1.now ≡ run.added = c.split_at.ensures.back ∙ (rw (c.entries.ensures, run.grown, start) (drop-append_seam given.entries run.added)) in
    let of_them = subst (λ (all : List Runner). AreNoted c.split_at.result.1.now all workers) c.as_slice.ensures.value c.in-Ok.ensures in
    noted_made (length given.entries) run.added runners workers run.places (subst (λ (added : List Entry). AreNoted added runners workers) back of_them)
