use Rattle.std.proofs.Common.{List, ℕ, string_bytes, subst, sym}
use Rattle.tx_check.proofs.Spoken.{speaks}
use Rattle.tx_check.specs.Diagnostics.{ReportsOfKind}
use Rattle.tx_check.specs.Speaking.{kind_of_what, FaultKind, IsOfKind, SpeaksAt}
use Rattle.tx_check.proofs.diagnostics.put_diagnostic.Goals as goal

pub put_sentence-requires-clause-speaks : goal.put_sentence-requires-clause-speaks
put_sentence-requires-clause-speaks c =
    let found = c.placed-trouble in
    subst (λ (s : List ℕ). SpeaksAt c.args.line.bytes.now found.result.column s) (sym c.as_str.ensures.value)
    (speaks found.result.what c.args.line.bytes.now found.result.column _ found.ensures.placed.in_line found.ensures.placed.word c.in_ok-words.ensures.line c.in_ok-words.ensures.word)

pub returns-clause-kind : goal.returns-clause-kind
returns-clause-kind c = λ fits.
    let found = c.placed-trouble in
    let line = c.args.line in
    let said = subst (IsOfKind (kind_of_what found.result.what)) (sym c.as_str.ensures.value) c.in_ok-words.ensures.kind in
    subst (λ (kind : FaultKind). ReportsOfKind kind line.number line.bytes.now (string_bytes c.args.report.now) (string_bytes c.put_sentence.new.report)) (found.ensures.kind fits)
    (c.in_ok-put_sentence.ensures.kind (kind_of_what found.result.what) said)
