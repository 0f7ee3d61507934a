use Rattle.std.proofs.Common.{rules, ◌≡◌, ◌+◌, ◌∷◌, sym, ◌∙◌}
use Rattle.tx_workers.proofs.Notes.{unplaced}
use Rattle.tx_workers.proofs.compare.is_noted.Goals as goal

pub loop-entry-preserved : goal.loop-entry-preserved
loop-entry-preserved c = λ so.
    let first_is : c.loop-entry.left.now ≡ c.in-Some.entry.now ∷ c.in-Some.later.now = search rules in
    let next_is : c.in-Some-checked_add.next ≡ c.loop-entry.place + 1 = search rules in
    let skip = unplaced c.args.number c.loop-entry.place c.loop-entry.left.now c.in-Some.later.now c.in-Some.entry.now first_is c.if-entry-number.false in
    c.loop-entry.invariant ((rw next_is at so) ∙ sym skip)
