use Rattle.std.proofs.Common.{rules, ◌≡◌, ◌+◌, ◌++◌, ◌≤◌, Some, drop, length, map, ap, arith, ◌∙◌}
use Rattle.tx_journal.specs.Entries.{accepted_of}
use Rattle.tx_workers.proofs.Turned.{added_by, few_entries, last_added}
use Rattle.tx_workers.proofs.turns.turn_of.Goals as goal

pub note-requires-clause-most : goal.note-requires-clause-most
note-requires-clause-most c =
    let old = c.args.session.now in
    let new = c.make_turn.new.session in
    let few : length new.entries ≤ length old.entries + 1 = few_entries c.args.program.now old new c.args.worker.now.number (Some c.args.pid.0) c.in_ok-took.ensures.grows.entries in
    omega (arith, few, c.len-before.ensures, ap length c.entries.ensures)

pub returns-clause-adds : goal.returns-clause-adds
returns-clause-adds c =
    let old = c.args.session.now in
    let new = c.make_turn.new.session in
    let grows = c.in_ok-took.ensures.grows in
    let adds = added_by c.args.program.now old c.args.worker.now.number (Some c.args.pid.0) in
    let last = last_added c.len-before.result old new adds grows.entries c.len-before.ensures in
    let notes = c.args.worker.now.notes.items in
    let kept : c.reserve.new.self.items ≡ notes = search rules in
    record {
      entries = grows.entries;
      boot = grows.boot;
      at_end = grows.at_end;
      notes = c.note.ensures.notes ∙ (λ j. kept j ++ map accepted_of (drop c.len-before.result (c.entries.ensures j))) ∙ ap (λ entries. notes ++ map accepted_of entries) last;
      number = c.note.ensures.number;
      total = c.note.ensures.total;
      last = c.note.ensures.last;
    }
