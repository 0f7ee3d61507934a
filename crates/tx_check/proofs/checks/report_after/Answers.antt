use Rattle.std.proofs.Common.{◌+◌, ◌-◌, ◌∙◌, List, ℕ, ap, arith, refl, string_bytes, subst, sym}
use Rattle.tx_check.specs.Kinds.{kind_of}
use Rattle.tx_check.specs.Numbered.{after_lines, behind}
use Rattle.tx_check.specs.Contexts.{context_after, IsPastAll}
use Rattle.tx_check.proofs.Numbered.{lines_more}
use Rattle.tx_check.proofs.OwnLines.{own_rises}
use Rattle.tx_check.proofs.InContext.{in_context_later, line_there}
use Rattle.tx_check.proofs.ReportedAfter.{none_left, none_more, none_past, reported_to}
use Rattle.tx_lines.specs.Schedule.{first_line}
use Rattle.tx_check.proofs.ReportedFirst.{grows_none, grows_on}
use Rattle.tx_translate.specs.MeantLines.{left_of}
use Rattle.tx_check.proofs.checks.report_after.Goals as goal

pub loop-before-init : goal.loop-before-init
loop-before-init c = record {
  goes = λ text is_meant owns is low. (owns, record { is = is; low = low; on = λ first up_to. up_to });
  at = c.requires.lines;
  place = c.requires.place;
  alike = record { there = λ link. link; back = λ link. link };
  some = c.requires.some;
  grows = grows_none (string_bytes c.args.report.now.text);
}

pub report_line-requires-clause-line : goal.report_line-requires-clause-line
report_line-requires-clause-line c =
    let next = c.in-Some.ensures in
    line_there (left_of c.args.meant.now.text) (left_of c.loop-before.left) c.loop-before.before _ c.loop-before.invariant.at next.some
    c.loop-before.invariant.some refl (c.meaning.ensures ∙ next.line.bytes) next.line.ended

pub returns-in_default-clause-reports : goal.returns-in_default-clause-reports
returns-in_default-clause-reports c = λ text first is_meant owns is low up_to.
    let so = c.loop-before.invariant in
    let before = c.loop-before.before in
    let none = ap (after_lines before) (sym is_meant) ∙ sym so.at ∙ c.in_default.ensures.none in
    none_left c.args.place.part c.args.passed before text first c.loop-before.report.own.number (string_bytes c.loop-before.report.text) none ((so.goes text is_meant owns is low).1.on first up_to)

pub returns-then-is_past_all-clause-reports : goal.returns-then-is_past_all-clause-reports
returns-then-is_past_all-clause-reports c = λ text first is_meant owns is low up_to.
    let so = c.loop-before.invariant in
    let before = c.loop-before.before in
    let meant = left_of c.args.meant.now.text in
    let past = c.if-is_past_all.ensures.past refl (context_after (kind_of meant) meant (before + 1 - 1)) so.place.in_context in
    let there = subst (λ (bytes : List ℕ). IsPastAll (context_after (kind_of bytes) bytes (before + 1 - 1))) is_meant past in
    let report = string_bytes c.loop-before.report.text in
    none_past c.args.place.part c.loop-before.place.part c.args.passed before text first c.loop-before.report.own.number report so.alike (c.if-is_past_all.ensures.link refl) there
    ((so.goes text is_meant owns is low).1.on first up_to)

pub loop-before-preserved : goal.loop-before-preserved
loop-before-preserved c =
    let meant = left_of c.args.meant.now.text in
    let before = c.loop-before.before in
    let so = c.loop-before.invariant in
    let next = c.in-Some.ensures in
    let kept = c.after-place.ensures in
    record {
      goes = λ text is_meant owns is low.
          let report = so.goes text is_meant owns is low in
          let own = next.own text (before + 1) report.0 in
          let up = own_rises text before (before + 1) so.some (omega arith) in
          let old = string_bytes c.args.report.now.text in
          let here = c.loop-before.place.part in
          let on = reported_to c.args.place.part here c.args.passed text c.args.report.now.own old before c.in-Some.line.number c.loop-before.report.own c.report_line.new.report.own
          (string_bytes c.loop-before.report.text) _ c.args.meant.now.text so.alike is_meant (own.own (omega arith)) up c.in_ok-report_line.ensures.goes report.1 in
          (own.behind, on);
      at = next.line.behind ∙ ap behind so.at ∙ lines_more before meant;
      place = in_context_later meant before (before + 1) (before + 1 + 1) c.meaning.result.now c.loop-before.place c.after-place.result refl (omega arith)
          (c.meaning.ensures ∙ next.line.bytes ∙ ap first_line so.at) so.place kept.version kept.in_context;
      alike = record { there = λ link. kept.linked (so.alike.there link); back = λ link. so.alike.back (kept.link link) };
      some = omega (arith, so.some);
      grows = grows_on (string_bytes c.args.report.now.text) (string_bytes c.loop-before.report.text) (string_bytes c.report_line.new.report.text) so.grows c.in_ok-report_line.ensures.grows;
    }

pub returns-clause-reports : goal.returns-clause-reports
returns-clause-reports c = λ text first is_meant owns is low up_to.
    let so = c.loop-before.invariant in
    none_more c.args.place.part c.args.passed c.loop-before.before text first c.loop-before.report.own.number (string_bytes c.loop-before.report.text) (omega (arith, c.loop-before-test.false))
    ((so.goes text is_meant owns is low).1.on first up_to)
