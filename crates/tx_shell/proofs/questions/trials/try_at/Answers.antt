use Rattle.std.proofs.Common.{◌∙◌, ap, map, string_bytes}
use Rattle.tx_journal.specs.Trials.{shown_at, shown_with}
use Rattle.tx_content.specs.Content.{view_of}
use Rattle.tx_shell.proofs.Differed.{views_said}
use Rattle.tx_shell.proofs.questions.trials.try_at.Goals as goal

pub returns-clause-lines : goal.returns-clause-lines
returns-clause-lines c =
    let k = c.args.session.now in
    views_said (shown_at k) (shown_with k c.args.step.now) (view_of c.machine.result.now) c.in_ok-pieces.pieces.items c.as_slice.result.now c.as_slice-2.result.now (map string_bytes c.as_slice-3.result.now) (map string_bytes c.as_slice-4.result.now)
    (string_bytes c.new-lines.result) (string_bytes c.put_all_differing.new.text) c.in_ok-pieces.ensures c.as_slice.ensures.value c.as_slice-2.ensures.value c.machine.ensures.view
    (ap (map string_bytes) c.as_slice-3.ensures.value ∙ c.in_ok-before.ensures) (ap (map string_bytes) c.as_slice-4.ensures.value ∙ c.in_ok-reply.ensures.lines) c.new-lines.ensures.bytes c.in_ok-put_all_differing.ensures
