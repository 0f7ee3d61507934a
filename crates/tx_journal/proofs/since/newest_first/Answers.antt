use Rattle.std.proofs.Common.{◌≡◌, ℕ, ◌+◌, ◌<◌, length, Option, option_map, reverse, take, get_or, arith, sym, ap, subst, ◌∙◌}
use Rattle.tx_journal.proofs.Newest.{none_newer, one_newer, there}
use Rattle.tx_journal.specs.Since.{newest_first, numbered}
use Rattle.tx_journal.specs.Entries.{history_of}
use Rattle.tx_journal.specs.declared.entry.Entry.{Entry}
use Rattle.tx_journal.specs.declared.since.Touch.{Touch}
use Rattle.tx_reserve.specs.Objects.{object_of}
use Rattle.tx_journal.proofs.since.newest_first.Goals.{then-comes_first_at, else-comes_first_at}
use Rattle.std.proofs.lemmas.Grind.{common_steps}
use Rattle.tx_journal.proofs.since.newest_first.Goals as goal

pub loop-place-init : goal.loop-place-init
unfolding newest_first
loop-place-init c = grind (arith, common_steps)

pub loop-place-preserved : goal.loop-place-preserved
loop-place-preserved c =
    let i = c.loop-place.place in
    let inside : i < length c.args.crossings.now.inverses = subst (λ (n : ℕ). i < n) c.made-place-end.ensures c.loop-place-test.true in
    let inverse = there c.args.crossings.now.inverses i inside in
    let entry = there c.args.entries.now i (omega (arith, inside, c.requires)) in
    elim c.if-comes_first_at.branch [
      | then-comes_first_at w ↦
          subst (λ (it : Option Touch). option_map numbered it ≡ newest_first c.args.starter.0 (object_of c.args.object) (reverse (take (i + 1) c.args.crossings.now.inverses)) (history_of (take (i + 1) c.args.entries.now))) (sym w.newest-is)
          (one_newer c.args.starter.0 (object_of c.args.object) c.args.crossings.now.inverses c.args.entries.now i (option_map numbered c.loop-place.newest) inverse.0 (get_or c.args.entries.now i w.index-entries-place.result) inside c.requires inverse.2
          (ap (λ (it : Entry). get_or c.args.entries.now i it) (sym w.index-entries-place.is)) c.loop-place.invariant (sym (c.comes_first_at.ensures inverse.0 inverse.1) ∙ w.if-comes_first_at.true))
      | else-comes_first_at w ↦
          subst (λ (it : Option Touch). option_map numbered it ≡ newest_first c.args.starter.0 (object_of c.args.object) (reverse (take (i + 1) c.args.crossings.now.inverses)) (history_of (take (i + 1) c.args.entries.now))) (sym w.newest-is)
          (none_newer c.args.starter.0 (object_of c.args.object) c.args.crossings.now.inverses c.args.entries.now i (option_map numbered c.loop-place.newest) inverse.0 entry.0 inside c.requires inverse.2
          entry.2 c.loop-place.invariant (sym (c.comes_first_at.ensures inverse.0 inverse.1) ∙ w.if-comes_first_at.false))
    ]
