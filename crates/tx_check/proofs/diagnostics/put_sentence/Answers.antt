use Rattle.std.proofs.Common.{string_bytes}
use Rattle.tx_check.proofs.Appended.{kind_appended, report_appended}
use Rattle.tx_check.proofs.diagnostics.put_sentence.Goals as goal

pub returns-clause-reports : goal.returns-clause-reports
returns-clause-reports c =
    report_appended c.put_line.result c.args.line.number c.args.column c.args.line.bytes.now (string_bytes c.args.report.now) c.args.sentence.now (string_bytes c.put_line.new.report)
    c.requires.column c.requires.sentence c.requires.speaks c.requires.long c.put_line.ensures

pub returns-clause-kind : goal.returns-clause-kind
returns-clause-kind c =
    kind_appended c.put_line.result c.args.line.number c.args.column c.args.line.bytes.now (string_bytes c.args.report.now) c.args.sentence.now (string_bytes c.put_line.new.report)
    c.requires.column c.requires.sentence c.requires.speaks c.requires.long c.put_line.ensures
