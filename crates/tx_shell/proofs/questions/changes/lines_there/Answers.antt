use Rattle.std.proofs.Common.{◌∙◌, ◌++◌, List, ℕ, ap}
use Rattle.tx_base.specs.declared.steps.Accepted.{Accepted}
use Rattle.tx_journal.specs.Pieces.{piece_text}
use Rattle.tx_journal.specs.Sessions.{position_of, start_of}
use Rattle.tx_content.specs.Content.{view_of}
use Rattle.tx_model.specs.View.{view}
use Rattle.tx_shell.proofs.Listed.{history_to}
use Rattle.tx_shell.proofs.questions.changes.lines_there.Goals as goal

pub returns : goal.returns
returns c =
    let k = c.args.session.now in
    let piece = c.args.piece in
    c.in_ok-put_piece.ensures ∙ ap (λ (t : List ℕ). t ++ piece_text piece (view_of c.machine.result.now)) c.new-text.ensures.bytes
    ∙ ap (piece_text piece) (c.machine.ensures.view ∙ ap (λ (h : List Accepted). view (start_of k) h) (history_to (position_of k) k.entries))
