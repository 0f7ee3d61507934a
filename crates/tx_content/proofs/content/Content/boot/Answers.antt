use Rattle.std.proofs.Common.{ap}
use Rattle.tx_content.proofs.Boots.{booted_alone, booted_kept, booted_shaped, booted_view, owner_none}
use Rattle.tx_content.specs.declared.content.Content.{Content}
use Rattle.tx_reserve.specs.Reservations.{unless}
use Rattle.tx_content.proofs.content.Content.boot.Goals as goal

pub returns-clause-shaped : goal.returns-clause-shaped
returns-clause-shaped c =
    let k : Content = record { parts = c.in_ok-parts.parts; marks = c.in_ok-marks.marks; owners = c.in_ok-owners.owners; txns = c.in_ok-txns.txns } in
    booted_shaped k c.args.width c.args.count c.in_ok-parts.ensures.state c.in_ok-marks.ensures c.in_ok-txns.ensures c.in_ok-owners.ensures c.requires.width
    c.in_ok-parts.ensures.places c.in_ok-parts.ensures.counts c.sized.ensures

pub returns-clause-whole : goal.returns-clause-whole
returns-clause-whole c =
    c.booted_are_whole.ensures c.args.width c.args.count c.in_ok-parts.parts c.requires.low c.requires.high c.requires.width c.in_ok-parts.ensures.state c.in_ok-parts.ensures.places c.in_ok-parts.ensures.counts

pub returns-clause-kept : goal.returns-clause-kept
returns-clause-kept c =
    let k : Content = record { parts = c.in_ok-parts.parts; marks = c.in_ok-marks.marks; owners = c.in_ok-owners.owners; txns = c.in_ok-txns.txns } in
    booted_kept k c.args.width c.args.count c.in_ok-parts.ensures.state c.in_ok-marks.ensures c.in_ok-txns.ensures c.in_ok-owners.ensures c.start_is_kept.ensures.kept

pub returns-clause-view : goal.returns-clause-view
returns-clause-view c =
    let k : Content = record { parts = c.in_ok-parts.parts; marks = c.in_ok-marks.marks; owners = c.in_ok-owners.owners; txns = c.in_ok-txns.txns } in
    booted_view k c.args.width c.args.count c.in_ok-parts.ensures.state c.in_ok-marks.ensures c.in_ok-txns.ensures c.in_ok-owners.ensures c.start_is_kept.ensures.view

pub returns-clause-alone : goal.returns-clause-alone
returns-clause-alone c =
    let k : Content = record { parts = c.in_ok-parts.parts; marks = c.in_ok-marks.marks; owners = c.in_ok-owners.owners; txns = c.in_ok-txns.txns } in
    booted_alone k c.args.width c.args.count c.in_ok-parts.ensures.state c.in_ok-marks.ensures c.in_ok-txns.ensures c.in_ok-owners.ensures

pub returns-clause-unowned : goal.returns-clause-unowned
returns-clause-unowned c = λ own event o named.
    let k : Content = record { parts = c.in_ok-parts.parts; marks = c.in_ok-marks.marks; owners = c.in_ok-owners.owners; txns = c.in_ok-txns.txns } in
    ap (unless own) (owner_none k c.args.width c.args.count c.in_ok-parts.ensures.state c.in_ok-marks.ensures c.in_ok-txns.ensures c.in_ok-owners.ensures o)
