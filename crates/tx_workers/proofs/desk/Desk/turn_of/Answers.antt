use Rattle.std.proofs.Common.{◌≡◌, ◌+◌, ◌-◌, ◌≤◌, Some, length, arith}
use Rattle.tx_workers.proofs.Turned.{added_by, desk_turned, few_entries, front_within}
use Rattle.tx_workers.proofs.desk.Desk.turn_of.Goals as goal

pub invariant_of-self-2 : goal.invariant_of-self-2
invariant_of-self-2 g c =
    let old = c.self.inside.session in
    let made = c.in_ok-took.ensures.grows in
    let counted : c.add.new.self.total ≡ c.self.inside.added.total + (length c.make_turn.new.session.entries - length old.entries) =
    omega (arith, c.add.ensures.total, c.len-before.ensures, c.len-after.ensures) in (
      desk_turned _ _ c.args.program.now old c.make_turn.new.session c.args.runner.now.number (Some c.args.pid.0) c.self.inside.added.total c.add.new.self.total c.self.invariant.0
          c.requires.program c.in_ok-took.ensures.view made.entries made.boot made.at_end counted,
      c.top_after-self-inside.ensures,
    )

pub top_after-self-inside-requires-clause-few : goal.top_after-self-inside-requires-clause-few
top_after-self-inside-requires-clause-few g c =
    let worker = c.args.runner.now in
    let old = c.self.inside.session in
    let few : length c.make_turn.new.session.entries ≤ length old.entries + 1 =
    few_entries c.args.program.now old c.make_turn.new.session worker.number (Some c.args.pid.0) c.in_ok-took.ensures.grows.entries in
    omega (arith, few, c.len-before.ensures)

pub top_after-self-inside-requires-clause-booted : goal.top_after-self-inside-requires-clause-booted
top_after-self-inside-requires-clause-booted g c = omega (arith, c.self.invariant.1.booted, c.in_ok-took.ensures.grows.boot.count)

pub top_after-self-inside-requires-clause-made : goal.top_after-self-inside-requires-clause-made
top_after-self-inside-requires-clause-made g c =
    let worker = c.args.runner.now in
    let old = c.self.inside.session in
    front_within c.self.inside.top c.len-before.result old c.make_turn.new.session (added_by c.args.program.now old worker.number (Some c.args.pid.0)) c.self.invariant.1
    c.in_ok-took.ensures.grows.entries c.len-before.ensures

pub note-requires-clause-high : goal.note-requires-clause-high
note-requires-clause-high g c =
    let old = c.self.inside.session in
    let few : length c.make_turn.new.session.entries ≤ length old.entries + 1 =
    few_entries c.args.program.now old c.make_turn.new.session c.args.runner.now.number (Some c.args.pid.0) c.in_ok-took.ensures.grows.entries in
    omega (arith, few, c.len-before.ensures, c.len-after.ensures)
