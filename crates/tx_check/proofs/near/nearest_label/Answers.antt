use Rattle.std.proofs.Common.{◌≡◌, ◌∙◌, ℕ, List, suc, ap, option_map, subst, sym}
use Rattle.tx_check.proofs.NearNames.{names_more}
use Rattle.tx_check.specs.Near.{label_names, near, with_name, FindsNear}
use Rattle.tx_check.specs.Numbered.{after_lines, behind}
use Rattle.tx_lines.specs.Schedule.{first_line}
use Rattle.tx_translate.specs.MeantLines.{left_of, line_of}
use Rattle.tx_check.proofs.near.nearest_label.Goals as goal

pub loop-line-preserved : goal.loop-line-preserved
loop-line-preserved c =
    let text = left_of c.args.text in
    let so = c.loop-line.invariant in
    let next = c.in-Some.ensures.line in
    let names = label_names so.count text in
    let here : line_of c.in-Some.line ≡ first_line (after_lines so.count text) = next.bytes ∙ ap first_line so.behind in
    let more : with_name (line_of c.in-Some.line) names ≡ label_names (suc so.count) text = ap (λ (l : List ℕ). with_name l names) here ∙ sym (names_more so.count text) in
    record {
      count = suc so.count;
      found = subst (λ (n : List (List ℕ)). FindsNear c.args.word.now n 5 (option_map near c.in_ok-nearest.nearest)) more (c.in_ok-nearest.ensures names so.found);
      behind = next.behind ∙ ap behind so.behind;
    }

pub returns : goal.returns
returns c =
    let so = c.loop-line.invariant in
    record { count = so.count; all = sym so.behind ∙ c.in_default.ensures.none; found = c.named.ensures c.args.word.now (label_names so.count (left_of c.args.text)) so.found }
