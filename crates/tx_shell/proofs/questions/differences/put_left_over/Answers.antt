use Rattle.std.proofs.Common.{◌≡◌, ◌+◌, ◌∙◌, [], ◌∷◌, ℕ, Bor, List, add-one, ap, drop, drop-cons, get_or, string_bytes, subst, sym}
use Rattle.tx_shell.proofs.LeftOver.{all_said, one_taken, one_said, spelled, LeftSoFar}
use Rattle.tx_shell.proofs.questions.differences.put_left_over.Goals.{then-not-take_out+in_ok-put_marked, else-not-take_out}
use Rattle.tx_shell.proofs.questions.differences.put_left_over.Goals as goal

pub loop-line-preserved : goal.loop-line-preserved
loop-line-preserved c =
    let i = c.loop-line.line-index in
    let lines = c.args.lines.now in
    let line : Bor (List ℕ) = get_or lines i (record { ref_ptr = (0, 0); now = [] }) in
    let cut : drop i lines ≡ line ∷ drop (i + 1) lines =
    drop-cons lines i (record { ref_ptr = (0, 0); now = [] }) c.loop-line-test.true
    ∙ ap (λ (n : ℕ). line ∷ drop n lines) (sym (add-one i)) in
    elim c.if-not-take_out.branch [
      | then-not-take_out+in_ok-put_marked w ↦
          subst (λ text. LeftSoFar c.args.mark.now lines (spelled c.args.others.items) (string_bytes c.args.text.now) (string_bytes text) (spelled c.take_out.new.others.items) (i + 1)) (sym w.text-is)
          (one_said c.args.mark.now lines (spelled c.args.others.items) (string_bytes c.args.text.now) (string_bytes c.loop-line.text) (spelled c.loop-line.others.items) (spelled c.take_out.new.others.items) i line c.loop-line.invariant cut c.take_out.ensures.less
          (sym c.take_out.ensures.has ∙ w.if-not-take_out.true) (string_bytes w.put_marked.new.text) w.in_ok-put_marked.ensures)
      | else-not-take_out w ↦
          subst (λ text. LeftSoFar c.args.mark.now lines (spelled c.args.others.items) (string_bytes c.args.text.now) (string_bytes text) (spelled c.take_out.new.others.items) (i + 1)) (sym w.text-is)
          (one_taken c.args.mark.now lines (spelled c.args.others.items) (string_bytes c.args.text.now) (string_bytes c.loop-line.text) (spelled c.loop-line.others.items) (spelled c.take_out.new.others.items) i line c.loop-line.invariant cut c.take_out.ensures.less
          (sym c.take_out.ensures.has ∙ w.if-not-take_out.false))
    ]

pub returns : goal.returns
returns c = all_said c.args.mark.now c.args.lines.now (spelled c.args.others.items) (string_bytes c.args.text.now) (string_bytes c.loop-line.text) (spelled c.loop-line.others.items) c.loop-line.line-index c.loop-line.invariant c.loop-line-test.false
