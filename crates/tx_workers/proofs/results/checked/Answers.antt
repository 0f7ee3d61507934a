use Rattle.std.proofs.Common.{rules, ◌≡◌, ◌∙◌, Some, length, arith, ap, sym, length-append}
use Rattle.std.proofs.Math.Seq.{drop-append_seam}
use Rattle.tx_journal.specs.Sessions.{start_of}
use Rattle.tx_workers.proofs.Grown.{each_named}
use Rattle.tx_workers.proofs.results.checked.Goals as goal

pub split_at-requires : goal.split_at-requires
split_at-requires g c =
    let given = c.requires.given in
    let so = c.close-session.ensures.grown c.args.program.now given.0 c.requires.program given.1 in
    omega (arith, given.2, ap length c.entries.ensures, ap length so.grown, length-append given.0.entries so.added)

pub returns-clause-outcome : goal.returns-clause-outcome
returns-clause-outcome g c = λ given is.
    let desk = c.close-session.ensures in
    let so = desk.grown c.args.program.now given c.requires.program is in
    let team = c.requires.team in
    let same : Some c.requires.given.0 ≡ Some given = sym c.requires.given.1 ∙ is in
    let known : c.args.start ≡ length c.requires.given.0.entries = c.requires.given.2 in
    let start : c.args.start ≡ length given.entries = cc in
    let back : c.split_at.result.1.now ≡ so.added = c.split_at.ensures.back ∙ (rw (c.entries.ensures, so.grown, start) (drop-append_seam given.entries so.added)) in
    record {
      added = so.added;
      grown = so.grown;
      boot = so.boot;
      at_end = desk.at_end;
      named = each_named c.args.program.now.instructions.items (start_of given) given.entries so.added so.named;
      counted = so.counted ∙ team.counted;
      count_is = team.count_is;
      crew = team.crew;
      places = rw (← back, ← start) (search rules);
    }
