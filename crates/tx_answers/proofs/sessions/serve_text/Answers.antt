use Rattle.std.proofs.Common.{◌≡◌, ◌++◌, ◌<◌, ℕ, List, ap, length, string_bytes, subst, sym, ◌∙◌}
use Rattle.tx_shell.specs.Standings.{standing_of}
use Rattle.tx_answers.proofs.EmptyTexts.{bytes_by, empty_by, filled_by}
use Rattle.tx_answers.proofs.ShorterLines.{shorter_after}
use Rattle.tx_answers.proofs.ServedSoFar.{at_end, at_quit, at_start, one_more}
use Rattle.tx_answers.proofs.sessions.serve_text.Goals as goal

pub loop-left-init : goal.loop-left-init
loop-left-init c =
    rw (c.in_ok-shell.ensures, c.new-answers.ensures.bytes) (at_start c.args.form c.args.text.now)

pub returns-then-not-branch : goal.returns-then-not-branch
returns-then-not-branch c =
    let so = c.loop-left in
    let quits = rw c.if-not-branch.true at c.in_ok-answer.ensures.answer in
    at_quit c.args.form c.args.text.now (standing_of so.shell) so.left.now (string_bytes so.answers) so.invariant c.cut.result.0.now (standing_of c.answer.new.self)
    (filled_by so.left.now (bytes_by so.left.now c.loop-left-test.ensures)) c.cut.ensures.line quits.0 quits.1

pub loop-left-preserved : goal.loop-left-preserved
loop-left-preserved c =
    let so = c.loop-left in
    let answers = rw c.if-not-branch.false at c.in_ok-answer.ensures.answer in
    let appended : string_bytes c.put.new.text ≡ string_bytes so.answers ++ string_bytes c.answer.new.text =
    c.in_ok-put.ensures ∙ ap (λ (bytes : List ℕ). string_bytes so.answers ++ bytes) c.as_str.ensures.value in
    rw (c.cut.ensures.behind, appended)
    (one_more c.args.form c.args.text.now (standing_of so.shell) so.left.now (string_bytes so.answers) so.invariant c.cut.result.0.now (string_bytes c.answer.new.text) (standing_of c.answer.new.self)
    (filled_by so.left.now (bytes_by so.left.now c.loop-left-test.ensures)) c.cut.ensures.line answers)

pub returns : goal.returns
returns c =
    let so = c.loop-left in
    at_end c.args.form c.args.text.now (standing_of so.shell) so.left.now (string_bytes so.answers) so.invariant (empty_by so.left.now c.loop-left-test.ensures)

pub loop-left-smaller : goal.loop-left-smaller
loop-left-smaller c =
    let left = c.loop-left.left.now in
    subst (λ (bytes : List ℕ). length bytes < length left) (sym c.cut.ensures.behind) (shorter_after left (bytes_by left c.loop-left-test.ensures))
