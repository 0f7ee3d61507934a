use Rattle.std.proofs.Common.{◌≤◌, List, length, subst, sym, arith}
use Rattle.tx_journal.proofs.Reserving.{found_now, none_now}
use Rattle.tx_journal.specs.declared.entry.Entry.{Entry}
use Rattle.std.proofs.lemmas.Grind.{common_steps}
use Rattle.tx_journal.proofs.session.Session.first_touch.Goals as goal

pub newest_first-requires : goal.newest_first-requires
newest_first-requires c = subst (λ (entries : List Entry). length c.self.inside.journal.crossings.inverses ≤ length entries) (sym c.as_slice.ensures.value) c.self.invariant.0.few

pub returns-then-not-has_reserved : goal.returns-then-not-has_reserved
returns-then-not-has_reserved c = grind (arith, common_steps, none_now)

pub returns : goal.returns
returns c = grind (arith, common_steps, found_now)
