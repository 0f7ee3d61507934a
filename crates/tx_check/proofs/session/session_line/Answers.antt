use Rattle.std.proofs.Common.{◌∙◌, ◌++◌, List, ℕ, ap, codes, subst, sym}
use Rattle.std.specs.Fmt.{decimal}
use Rattle.tx_check.proofs.Spoken.{speaks}
use Rattle.tx_check.specs.Speaking.{SpeaksAt}
use Rattle.tx_check.specs.Diagnostics.{IsInLine}
use Rattle.tx_check.proofs.session.session_line.Goals as goal

pub returns : goal.returns
returns c =
    let found = c.placed-trouble in
    let said = c.as_str.result.now in
    record {
      column = found.result.column;
      sentence = said;
      inside = found.ensures.placed.column;
      in_line = subst IsInLine (sym c.as_str.ensures.value) c.in_ok-words.ensures.in_line;
      speaks = subst (λ (s : List ℕ). SpeaksAt c.args.line.now found.result.column s) (sym c.as_str.ensures.value)
          (speaks found.result.what c.args.line.now found.result.column _ found.ensures.placed.in_line found.ensures.placed.word c.in_ok-words.ensures.line c.in_ok-words.ensures.word);
      spelled = c.in_ok-put_column.ensures ∙ ap (λ (t : List ℕ). t ++ (codes "column " ++ (decimal found.result.column ++ (codes ": " ++ said)))) c.new-report.ensures.bytes;
    }
