use Rattle.std.proofs.Common.{◌≡◌, ◌∙◌, ap, rules, string_bytes, subst, sym}
use Rattle.tx_check.proofs.ReportedOf.{are_one, right_report}
use Rattle.tx_check.specs.Readers.{kind_for, kind_read}
use Rattle.tx_check.specs.Reads.{IsRead}
use Rattle.tx_check.specs.declared.kinds.Kind.{Kind}
use Rattle.tx_translate.specs.Meant.{meant_of}
use Rattle.tx_check.proofs.checks_for.report_for.Goals as goal

pub returns : goal.returns
returns c =
    let text = c.args.text.now in
    let meant = meant_of text in
    let is : c.kind.result ≡ c.in-Some.kind = search rules in
    let same : c.in-Some.kind ≡ kind_read c.args.reader meant = sym is ∙ c.kind.ensures ∙ ap (kind_for c.args.reader) c.in-Some.ensures.own in
    right_report text (string_bytes c.new.result) (are_one (kind_read c.args.reader meant) text) (subst (λ (k : Kind). IsRead k meant) same c.in-Some.ensures.read) c.new.ensures.bytes
