use Rattle.std.proofs.Common.{◌∙◌, ◌+◌, ◌<◌, ◌≤◌, List, ap, arith, drop, length, map, subst, sym}
use Rattle.std.proofs.lemmas.Bool.{both_ways}
use Rattle.tx_check.proofs.KnownLabels.{first_named, next_known, no_known_left, SoughtTo}
use Rattle.tx_check.specs.Labels.{label_at}
use Rattle.tx_check.specs.declared.labels.LabelLine.{LabelLine}
use Rattle.tx_translate.specs.MeantLines.{left_of}
use Rattle.tx_check.proofs.labels.Labels.known_place.Goals as goal

pub returns-then-means_label-clause-first : goal.returns-then-means_label-clause-first
returns-then-means_label-clause-first c =
    let labels = c.args.self.now in
    let at = c.loop-at.at in
    let inside : at < length c.as_slice.result.now = omega (arith, c.loop-at-test.true, c.len-at-end.ensures.value, ap length c.as_slice.ensures.value) in
    let so = subst (λ (known : List LabelLine). SoughtTo (left_of labels.text) labels.passed c.args.name.now (map label_at (drop at known))) (sym c.as_slice.ensures.value) c.loop-at.invariant in
    let next = next_known (left_of labels.text) labels.passed c.args.name.now c.as_slice.result.now at _ inside so in
    record { some = next.some; found = sym next.at ∙ c.means_label.ensures.0 c.if-means_label.true; first = first_named (left_of labels.text) labels.passed c.args.name.now _ _ _ next }

pub loop-at-preserved : goal.loop-at-preserved
loop-at-preserved c =
    let labels = c.args.self.now in
    let at = c.loop-at.at in
    let inside : at < length c.as_slice.result.now = omega (arith, c.loop-at-test.true, c.len-at-end.ensures.value, ap length c.as_slice.ensures.value) in
    let so = subst (λ (known : List LabelLine). SoughtTo (left_of labels.text) labels.passed c.args.name.now (map label_at (drop at known))) (sym c.as_slice.ensures.value) c.loop-at.invariant in
    let next = next_known (left_of labels.text) labels.passed c.args.name.now c.as_slice.result.now at _ inside so in
    subst (λ (known : List LabelLine). SoughtTo (left_of labels.text) labels.passed c.args.name.now (map label_at (drop (at + 1) known))) c.as_slice.ensures.value
    (next.rest (λ same. both_ways c.means_label.result c.if-means_label.false (c.means_label.ensures.1 same)))

pub returns-clause-none : goal.returns-clause-none
returns-clause-none c =
    let labels = c.args.self.now in
    let over : length labels.known.items ≤ c.loop-at.at = omega (arith, c.loop-at-test.false, c.loop-at.auto.at-end, c.len-at-end.ensures.value) in
    no_known_left (left_of labels.text) labels.passed c.args.name.now labels.known.items c.loop-at.at over c.loop-at.invariant
