use Rattle.std.proofs.Common.{◌≡◌, ◌+◌, ◌-◌, ◌∙◌, ℕ, ap, arith, refl, subst, sym}
use Rattle.tx_check.specs.Numbered.{after_lines, behind}
use Rattle.tx_check.specs.Reads.{line_of}
use Rattle.tx_check.specs.Contexts.{IsPlaceAt}
use Rattle.tx_check.proofs.Numbered.{lines_more, some_line}
use Rattle.tx_check.proofs.InContext.{in_context_at_fault, in_context_later}
use Rattle.tx_check.specs.declared.places.Place.{Place}
use Rattle.tx_lines.specs.Schedule.{first_line}
use Rattle.tx_translate.specs.MeantLines.{left_of, OwnsFrom}
use Rattle.tx_check.proofs.checks.place_of.Goals as goal

pub loop-before-preserved : goal.loop-before-preserved
loop-before-preserved c =
    let text = left_of c.args.text in
    let before = c.loop-before._before in
    let is = c.loop-before.invariant in
    let next = c.cut.ensures.line in
    record {
      at = next.behind ∙ ap behind is.at ∙ lines_more before text;
      place = in_context_later text before (before + 1) (before + 1 + 1) c.meaning.result.now c.loop-before.place c.after-place.result refl (omega arith)
          (c.meaning.ensures ∙ next.bytes ∙ ap first_line is.at) is.place c.after-place.ensures.version c.after-place.ensures.in_context;
      unlinked = λ link. is.unlinked (c.after-place.ensures.link link);
      numbered = λ own owns. (c.cut.ensures.own own (before + 1) (is.numbered own owns)).behind;
    }

pub returns-clause-place : goal.returns-clause-place
returns-clause-place c =
    let text = left_of c.args.text in
    let before = c.loop-before._before in
    let some = some_line c.args.kind text c.args.fault c.requires.fault in
    let last : before + 1 ≡ line_of c.args.fault = omega (arith, some, c.line_of-before-end.ensures, c.loop-before-test.false, c.loop-before.auto._before-end) in
    let by = c.place_by.ensures in
    in_context_at_fault text c.args.kind c.args.fault c.loop-before.place c.place_by.result c.requires.kind c.requires.fault
    (subst (λ (n : ℕ). IsPlaceAt text n c.loop-before.place) last c.loop-before.invariant.place) by.version by.label by.other

pub returns-clause-left : goal.returns-clause-left
returns-clause-left c =
    let before = c.loop-before._before in
    let some = some_line c.args.kind (left_of c.args.text) c.args.fault c.requires.fault in
    let last : before ≡ line_of c.args.fault - 1 = omega (arith, some, c.line_of-before-end.ensures, c.loop-before-test.false, c.loop-before.auto._before-end) in
    c.loop-before.invariant.at ∙ ap (λ (n : ℕ). after_lines n (left_of c.args.text)) last

pub returns-clause-numbered : goal.returns-clause-numbered
returns-clause-numbered c = λ own owns.
    let before = c.loop-before._before in
    let some = some_line c.args.kind (left_of c.args.text) c.args.fault c.requires.fault in
    let last : before + 1 ≡ line_of c.args.fault = omega (arith, some, c.line_of-before-end.ensures, c.loop-before-test.false, c.loop-before.auto._before-end) in
    subst (λ (n : ℕ). OwnsFrom own n c.loop-before.left) last (c.loop-before.invariant.numbered own owns)

pub returns-clause-other : goal.returns-clause-other
returns-clause-other c = λ other link. c.loop-before.invariant.unlinked (sym (ap (λ (place : Place). place.part) (c.place_by.ensures.other other)) ∙ link)
