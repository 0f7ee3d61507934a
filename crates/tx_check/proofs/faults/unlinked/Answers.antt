use Rattle.std.proofs.Common.{◌+◌, ◌++◌, ◌∙◌, List, ℕ, ap, arith, length, refl, subst, sym}
use Rattle.tx_check.proofs.Labelled.{counts}
use Rattle.tx_check.proofs.Linked.{few_linked, linked_all, linked_fault, linked_first, linked_next, next_line, LinkedSoFar}
use Rattle.tx_check.proofs.ShortLines.{short_line}
use Rattle.tx_check.specs.Wrong.{IsNamedNowhere}
use Rattle.tx_translate.specs.MeantLines.{left_of}
use Rattle.tx_check.proofs.faults.unlinked.Goals as goal

pub loop-line-init : goal.loop-line-init
loop-line-init c = linked_first c.args.header.version (left_of c.args.rest) c.requires.lines

pub is_unlinked-requires-clause-short : goal.is_unlinked-requires-clause-short
is_unlinked-requires-clause-short c =
    let version = c.args.header.version in
    let so = c.loop-line.invariant in
    let next = next_line version (left_of c.args.rest) c.loop-line.number (left_of c.loop-line.left) so c.in-Some.ensures.some in
    omega (arith, ap length (c.meaning.ensures ∙ c.in-Some.ensures.line.bytes ∙ next.first), (short_line version next.one next.good).few)

pub returns-then-is_unlinked-clause-finds : goal.returns-then-is_unlinked-clause-finds
returns-then-is_unlinked-clause-finds c =
    let version = c.args.header.version in
    let so = c.loop-line.invariant in
    let next = next_line version (left_of c.args.rest) c.loop-line.number (left_of c.loop-line.left) so c.in-Some.ensures.some in
    linked_fault (left_of c.args.text.now.text) (left_of c.args.rest) c.args.header c.loop-line.number (left_of c.loop-line.left) so next c.requires.header
    ((c.if-is_unlinked.ensures next.one next.good (c.meaning.ensures ∙ c.in-Some.ensures.line.bytes ∙ next.first)).0 refl)

pub overflow_add-number : goal.overflow_add-number
overflow_add-number c =
    let so = c.loop-line.invariant in
    omega (arith, few_linked c.args.header.version (left_of c.args.rest) c.loop-line.number (left_of c.loop-line.left) so, counts 0 (so.before ++ so.after), so.are.few_instructions, so.are.few_labels)

pub loop-line-preserved : goal.loop-line-preserved
loop-line-preserved c =
    let version = c.args.header.version in
    let so = c.loop-line.invariant in
    let next = next_line version (left_of c.args.rest) c.loop-line.number (left_of c.loop-line.left) so c.in-Some.ensures.some in
    let linked = c.if-is_unlinked.ensures next.one next.good (c.meaning.ensures ∙ c.in-Some.ensures.line.bytes ∙ next.first) in
    let there : IsNamedNowhere (left_of c.args.text.now.text) next.one → ⊥ = λ nowhere. let bad = linked.1 nowhere in absurd (cc) in
    subst (λ (left : List ℕ). LinkedSoFar version (left_of c.args.rest) (c.loop-line.number + 1) left) (sym c.in-Some.ensures.line.behind)
    (linked_next version (left_of c.args.text.now.text) (left_of c.args.rest) c.args.header c.loop-line.number (left_of c.loop-line.left) so next c.requires.header there)

pub returns-clause-finds : goal.returns-clause-finds
returns-clause-finds c =
    linked_all (left_of c.args.text.now.text) c.args.header (left_of c.args.rest) c.loop-line.number (left_of c.loop-line.left) c.requires.header c.in_default.ensures.none c.loop-line.invariant
