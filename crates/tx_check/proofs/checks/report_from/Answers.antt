use Rattle.std.proofs.Common.{◌≡◌, ◌+◌, ◌-◌, ◌<◌, ◌≤◌, ◌^◌, ◌∙◌, ℕ, List, ap, arith, length, refl, string_bytes, subst, sym}
use Rattle.tx_check.proofs.KindsFound.{ended_in, kind_found}
use Rattle.tx_check.proofs.OwnLong.{meant_long, own_long}
use Rattle.tx_check.proofs.ReportedFirst.{begins, long_kind, reported_so}
use Rattle.tx_check.specs.Numbered.{after_lines, behind, line_at}
use Rattle.tx_check.specs.Speaking.{kind_of_what}
use Rattle.tx_check.specs.OwnLines.{IsWrongAfter, ReportsAfter}
use Rattle.tx_check.specs.Reads.{line_of, IsAtFault}
use Rattle.tx_check.specs.Diagnostics.{kind_of_fault, ReportsFrom}
use Rattle.tx_check.specs.Wrong.{IsWrongAfterFault}
use Rattle.tx_check.proofs.Appended.{fewer, first_reported}
use Rattle.tx_check.proofs.LeftOut.{wrong_after}
use Rattle.tx_check.proofs.Numbered.{lines_more, some_line}
use Rattle.tx_check.proofs.OwnLines.{moved}
use Rattle.tx_check.proofs.InContext.{in_context_later}
use Rattle.tx_lines.specs.Schedule.{first_line}
use Rattle.tx_translate.specs.Meant.{fault_by, meant_of, own_line}
use Rattle.tx_translate.specs.MeantLines.{left_of, OwnsFrom}
use Rattle.tx_translate.specs.OwnLines.{without_return}
use Rattle.tx_check.proofs.checks.report_from.Goals as goal

pub moved_to-own-requires : goal.moved_to-own-requires
moved_to-own-requires c =
    let text = c.args.text.now in
    let fault = line_of c.args.fault in
    let owns = c.cut.ensures.own text fault (c.place_of.ensures.numbered text c.requires.numbered) in
    let small : fault < 2 ^ 64 = omega (arith, c.line_of-number.ensures, c.line_of-number.type_inv) in
    omega (arith, c.first.ensures.number, owns.own small, c.requires.own)

pub report_after-requires-clause-place : goal.report_after-requires-clause-place
report_after-requires-clause-place c =
    let meant = left_of c.args.meant.now.text in
    let number = line_of c.args.fault in
    let some = some_line c.args.kind meant c.args.fault c.requires.fault in
    let line = c.meaning.ensures ∙ c.cut.ensures.line.bytes ∙ ap first_line c.place_of.ensures.left in
    in_context_later meant (number - 1) number (c.line_of-number.result + 1) c.meaning.result.now c.place_of.result.0 c.after-place.result (omega (arith, some))
    (omega (arith, some, c.line_of-number.ensures)) line c.place_of.ensures.place c.after-place.ensures.version c.after-place.ensures.in_context

pub report_after-requires-clause-lines : goal.report_after-requires-clause-lines
report_after-requires-clause-lines c =
    let meant = left_of c.args.meant.now.text in
    let number = line_of c.args.fault in
    let some = some_line c.args.kind meant c.args.fault c.requires.fault in
    let here : number - 1 + 1 ≡ c.line_of-number.result = omega (arith, some, c.line_of-number.ensures) in
    c.cut.ensures.line.behind ∙ ap behind c.place_of.ensures.left ∙ lines_more (number - 1) meant ∙ ap (λ (n : ℕ). after_lines n meant) here

pub report_after-requires-clause-some : goal.report_after-requires-clause-some
report_after-requires-clause-some c =
    omega (arith, some_line c.args.kind (left_of c.args.meant.now.text) c.args.fault c.requires.fault, c.line_of-number.ensures)

pub returns-clause-reports : goal.returns-clause-reports
returns-clause-reports c =
    let text = c.args.text.now in
    let fault = line_of c.args.fault in
    let there = c.moved_to-own in
    let line = c.line-own_line in
    let owns = c.cut.ensures.own text fault (c.place_of.ensures.numbered text c.requires.numbered) in
    let small : fault < 2 ^ 64 = omega (arith, c.line_of-number.ensures, c.line_of-number.type_inv) in
    let at : there.result.number ≡ own_line text fault = there.ensures.number ∙ owns.own small in
    let first = c.first.result in
    let some : first.number ≤ there.result.number = omega (arith, c.first.ensures.number, at, c.requires.own) in
    let is = moved text first there.result (record {
      some = omega (arith, c.first.ensures.number);
      left = c.first.ensures.left ∙ rw c.first.ensures.number refl;
    }) some (there.ensures.left ∙ rw there.ensures.number refl) in
    let same : line.result.bytes.now ≡ line_at line.result.number text =
    line.ensures.bytes ∙ ap first_line is.left ∙ ap (λ (n : ℕ). line_at n text) (sym line.ensures.number) in
    let part = c.after-place.result.part in
    let passed = c.line_of-number.result in
    let meant = meant_of text in
    let report = first_reported (λ n. (n ≤ passed) × IsWrongAfter part passed meant n) text line.result.bytes.now line.result.number (string_bytes c.new-text.result) (string_bytes c.put_diagnostic.new.report)
    (λ n wanted. omega (arith, wanted.0, wanted.1.0)) same c.new-text.ensures.bytes c.in_ok-put_diagnostic.ensures.reports in
    let up_to = subst (λ (n : ℕ). ReportsAfter part passed passed text n n (string_bytes c.put_diagnostic.new.report)) line.ensures.number report in
    let later = subst (λ (n : ℕ). OwnsFrom text (n + 1) c.cut.result.1) (sym c.line_of-number.ensures) owns.behind in
    let low : there.result.number ≤ own_line text passed = omega (arith, at, ap (own_line text) c.line_of-number.ensures) in
    let all = c.in_ok-report_after.ensures.reports text there.result.number c.requires.meant later is low up_to in
    let at_fault = subst (λ (bytes : List ℕ). IsAtFault c.args.kind bytes c.args.fault) c.requires.meant c.requires.fault in
    let kept = c.after-place.ensures in
    let placed = c.place_of.ensures in
    subst (λ (n : ℕ). ReportsFrom (IsWrongAfterFault c.args.fault meant) text n (string_bytes c.report_after.new.report.text)) at
    (fewer (IsWrongAfter part passed meant) (IsWrongAfterFault c.args.fault meant) text there.result.number (string_bytes c.report_after.new.report.text)
    (λ n wrong. wrong_after c.args.kind meant c.args.fault part passed n c.line_of-number.ensures at_fault
    (λ number label. kept.linked (placed.label number label)) (λ other link. placed.other other (kept.link link)) wrong) all)

pub returns-clause-kind : goal.returns-clause-kind
returns-clause-kind c =
    let text = c.args.text.now in
    let fault = c.args.fault in
    let number = line_of fault in
    let read = left_of c.args.meant.now.text in
    let some = some_line c.args.kind read fault c.requires.fault in
    let there = c.moved_to-own in
    let line = c.line-own_line in
    let owns = c.cut.ensures.own text number (c.place_of.ensures.numbered text c.requires.numbered) in
    let small : number < 2 ^ 64 = omega (arith, c.line_of-number.ensures, c.line_of-number.type_inv) in
    let at : there.result.number ≡ own_line text number = there.ensures.number ∙ owns.own small in
    let first = c.first.result in
    let up : first.number ≤ there.result.number = omega (arith, c.first.ensures.number, at, c.requires.own) in
    let is = moved text first there.result (record {
      some = omega (arith, c.first.ensures.number);
      left = c.first.ensures.left ∙ rw c.first.ensures.number refl;
    }) up (there.ensures.left ∙ rw there.ensures.number refl) in
    let same : line.result.bytes.now ≡ line_at (own_line text number) text =
    line.ensures.bytes ∙ ap first_line is.left ∙ ap (λ (n : ℕ). line_at n text) at in
    let found = c.trouble_at_fault-trouble in
    let own = c.own_trouble-trouble in
    let meaning : c.meaning.result.now ≡ line_at number read = c.meaning.ensures ∙ c.cut.ensures.line.bytes ∙ ap first_line c.place_of.ensures.left in
    let placed = c.place_of.ensures in
    let kind = kind_found read fault c.place_of.result.0 (record { number = c.line_of-number.result; bytes = c.meaning.result; is_ended = c.cut.result.0.is_ended }) (kind_of_what found.result.what)
    c.requires.there
    (record { in_context = placed.place; same = c.line_of-number.ensures; bytes = meaning; ended = c.cut.ensures.line.ended ∙ ap ended_in placed.left })
    placed.label placed.other found.ensures.kind in
    let there_meant = ap (line_at number) c.requires.meant in
    let reports = reported_so (own_line text) fault own.result.what line.result.number line.result.bytes.now (string_bytes c.new-text.result) (string_bytes c.put_diagnostic.new.report) (own.ensures.kind ∙ kind)
    (λ too. let long = found.ensures.long (own.ensures.long too) in
    let over : 512 < length (line_at number (meant_of text)) = omega (arith, long, ap length (meaning ∙ there_meant)) in
    omega (arith, own_long text number some over, ap length same))
    (λ long. long_kind read fault c.requires.there
    (omega (arith, meant_long text number some (subst (λ (b : List ℕ). 512 < length (without_return b)) same long), ap length there_meant)))
    c.in_ok-put_diagnostic.ensures.kind in
    begins (kind_of_fault (fault_by (own_line text) fault)) line.result.number line.result.bytes.now (string_bytes c.new-text.result) (string_bytes c.put_diagnostic.new.report)
    (string_bytes c.report_after.new.report.text) c.new-text.ensures.bytes reports c.in_ok-report_after.ensures.grows
