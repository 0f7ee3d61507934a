use Rattle.std.proofs.Common.{◌∙◌, arith, refl, string_bytes}
use Rattle.tx_check.proofs.LeftOut.{reported_after}
use Rattle.tx_check.proofs.OwnLines.{goes_on, is_quiet, is_reported}
use Rattle.tx_check.proofs.InContext.{wrong_line}
use Rattle.tx_check.proofs.ReportedFirst.{grows_by, grows_none}
use Rattle.tx_check.specs.AfterHeader.{IsQuietAt}
use Rattle.tx_translate.specs.MeantLines.{left_of}
use Rattle.tx_check.proofs.checks.report_line.Goals as goal

pub returns-in_default-clause-goes : goal.returns-in_default-clause-goes
returns-in_default-clause-goes c =
    let meant = c.args.meant.now.text in
    let place = c.args.place.now in
    let at = c.args.line in
    let none = c.in_default.ensures in
    let quiet : IsQuietAt (left_of meant) place at = record {
      may = record { short = none.short; room = none.room; ended = none.ended; right = none.right; once = none.once };
      linked = none.linked;
    } in
    is_quiet place.part meant at.number c.args.number c.args.report.now.own (string_bytes c.args.report.now.text)
    (λ passed wrong. reported_after place.part passed (left_of meant) place at refl c.requires.place c.requires.line quiet wrong)

pub returns-then-number-report-clause-goes : goal.returns-then-number-report-clause-goes
returns-then-number-report-clause-goes c =
    is_reported c.args.place.now.part c.args.meant.now.text c.args.line.number c.args.number c.args.report.now.own (string_bytes c.args.report.now.text) (omega (arith, c.if-number-report.true))

pub returns-clause-goes : goal.returns-clause-goes
returns-clause-goes c =
    let meant = c.args.meant.now.text in
    let place = c.args.place.now in
    let at = c.args.line in
    let next = c.moved_to-next in
    let line = c.line-own_line in
    let later = c.if-number-report.false in
    let wrong = wrong_line (left_of meant) place at c.requires.place c.requires.line c.in-Some.ensures.wrong in
    let old = string_bytes c.args.report.now.text in
    let new = string_bytes c.put_diagnostic.new.report in
    goes_on place.part meant at.number c.args.number c.args.report.now.own next.result line.result.number line.result.bytes.now old new (omega (arith, later, next.ensures.number))
    (next.ensures.left ∙ rw next.ensures.number refl) line.ensures.number line.ensures.bytes next.ensures.number wrong c.in_ok-put_diagnostic.ensures.reports

pub returns-in_default-clause-grows : goal.returns-in_default-clause-grows
returns-in_default-clause-grows c = grows_none (string_bytes c.args.report.now.text)

pub returns-then-number-report-clause-grows : goal.returns-then-number-report-clause-grows
returns-then-number-report-clause-grows c = grows_none (string_bytes c.args.report.now.text)

pub returns-clause-grows : goal.returns-clause-grows
returns-clause-grows c =
    let line = c.line-own_line.result in
    grows_by line.number line.bytes.now (string_bytes c.args.report.now.text) (string_bytes c.put_diagnostic.new.report) c.in_ok-put_diagnostic.ensures.reports
