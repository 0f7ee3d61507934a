use Rattle.std.proofs.Common.{◌≡◌}
use Rattle.std.proofs.lemmas.Result.{IfOk-weaker}
use Rattle.tx_journal.proofs.Covered.{covered}
use Rattle.tx_journal.specs.Reach.{reached_pieces, CoverChanges}
use Rattle.tx_journal.specs.Trials.{shown_at, shown_with}
use Rattle.tx_content.specs.Content.{view_of}
use Rattle.tx_journal.proofs.session.Session.pieces_reached.Goals as goal

pub returns : goal.returns
returns c =
    let k = c.args.self.now in
    let step = c.args.step.now in
    let now = view_of c.machine.result.now in
    IfOk-weaker c.list_reached.result (λ found. found.items ≡ reached_pieces now step) (λ found. CoverChanges (shown_at k) (shown_with k step) found.items)
    (λ found are. covered c.reach_laws.ensures k step c.is_lawful.ensures.lawful now c.machine.ensures.view found.items are) c.list_reached.ensures
