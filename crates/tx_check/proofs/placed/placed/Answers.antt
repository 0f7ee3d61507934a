use Rattle.std.proofs.Common.{◌∙◌, ap, subst, sym}
use Rattle.tx_check.proofs.FaultKinds.{of_grammar}
use Rattle.tx_check.specs.Speaking.{kind_of_what, IsFitting}
use Rattle.tx_check.proofs.placed.placed.Goals as goal

pub returns-then-is_of_length-clause-placed : goal.returns-then-is_of_length-clause-placed
returns-then-is_of_length-clause-placed c = record {
  column = c.within-trouble.ensures.column;
  in_line = c.is_of_length.ensures.line c.if-is_of_length.true c.within-trouble.result.column;
  word = rw (c.is_of_length.ensures.word c.if-is_of_length.true) tt;
}

pub returns-in-Some-clause-kind : goal.returns-in-Some-clause-kind
returns-in-Some-clause-kind c = λ fits. c.no_label.ensures.kind ∙ sym c.in-Some.ensures.label ∙ ap kind_of_what c.within-trouble.ensures.what

pub returns-in-None-clause-kind : goal.returns-in-None-clause-kind
returns-in-None-clause-kind c = λ fits.
    let what = c.within-trouble.ensures.what in
    let fitting = subst (IsFitting c.args.line.now) (sym what) fits in
    c.of_bytes.ensures.kind
    ∙ sym (of_grammar c.within-trouble.result.what c.args.line.now c.in-None.ensures.none (c.is_of_length.ensures.other c.if-is_of_length.false) (c.is_of_length.ensures.short c.if-is_of_length.false) fitting)
    ∙ ap kind_of_what what
