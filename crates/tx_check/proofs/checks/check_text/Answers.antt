use Rattle.std.proofs.Common.{string_bytes, subst}
use Rattle.tx_check.proofs.ReportedOf.{are_one, right_report}
use Rattle.tx_check.specs.Kinds.{kind_of}
use Rattle.tx_check.specs.Reads.{IsRead}
use Rattle.tx_check.specs.declared.kinds.Kind.{Kind}
use Rattle.tx_translate.specs.Meant.{meant_of}
use Rattle.tx_check.proofs.checks.check_text.Goals as goal

pub returns-in-Some-clause-report : goal.returns-in-Some-clause-report
returns-in-Some-clause-report c =
    let text = c.args.text.now in
    let found = c.in-Some.ensures in
    right_report text (string_bytes c.new.result) (are_one (kind_of (meant_of text)) text) (subst (λ (kind : Kind). IsRead kind (meant_of text)) found.own found.read) c.new.ensures.bytes

pub returns-in-Some-clause-kind : goal.returns-in-Some-clause-kind
returns-in-Some-clause-kind c = λ fault is.
    let text = c.args.text.now in
    let found = c.in-Some.ensures in
    absurd ((are_one (kind_of (meant_of text)) text).never fault (subst (λ (kind : Kind). IsRead kind (meant_of text)) found.own found.read) is)
