use Rattle.std.proofs.Common.{rules, length, ◌≡◌, ℕ, ◌-◌, ◌++◌, List, arith, sym, ap, ◌∙◌}
use Rattle.std.proofs.lemmas.List.{append-nil}
use Rattle.tx_journal.proofs.Parting.{and_more, and_past, and_true, parted_first, parted_none, parted_other, parted_own, pushed, silent_first, silent_none, silent_other, silent_own, unpushed}
use Rattle.tx_journal.specs.Moved.{Numbers, numbers_above}
use Rattle.std.proofs.lemmas.Grind.{common_steps}
use Rattle.tx_journal.proofs.parted.part.Goals as goal

pub returns-then-begins_its-clause-own : goal.returns-then-begins_its-clause-own
returns-then-begins_its-clause-own c = grind (arith, common_steps, append-nil, parted_first, pushed)

pub returns-then-begins_its-clause-others : goal.returns-then-begins_its-clause-others
returns-then-begins_its-clause-others c =
    c.in_ok-push_down.ensures
    ∙ ap (λ (n : ℕ). c.loop-note.parted.others.items ++ numbers_above 0 n) (let whole : length c.in-Some.earlier.now - 0 ≡ length c.in-Some.earlier.now = omega arith in whole)
    ∙ ap (λ (xs : List ℕ). c.loop-note.parted.others.items ++ xs)
    (sym (ap (λ (p : Numbers). p.others) (parted_first c.args.starter.0 c.loop-note.left.now c.in-Some.earlier.now c.in-Some.note.now c.in-Some.ensures.cases.0 (sym c.begins_its.ensures ∙ c.if-begins_its.true))))
    ∙ c.loop-note.invariant.others

pub returns-then-begins_its-clause-silent : goal.returns-then-begins_its-clause-silent
returns-then-begins_its-clause-silent c = grind (arith, common_steps, and_true, silent_first)

pub loop-note-preserved-then-parted : goal.loop-note-preserved-then-parted
loop-note-preserved-then-parted c = grind (arith, common_steps, and_more, parted_own, pushed, silent_own)

pub loop-note-preserved-else-parted : goal.loop-note-preserved-else-parted
loop-note-preserved-else-parted c = grind (arith, common_steps, and_past, parted_own, pushed)

pub loop-note-preserved : goal.loop-note-preserved
loop-note-preserved c = grind (arith, common_steps, parted_other, pushed, silent_other)

pub returns-clause-own : goal.returns-clause-own
returns-clause-own c = unpushed _ _ _ (ap (λ (p : Numbers). p.own) (parted_none c.args.starter.0 c.loop-note.left.now (search rules))) c.loop-note.invariant.own

pub returns-clause-others : goal.returns-clause-others
returns-clause-others c = unpushed _ _ _ (ap (λ (p : Numbers). p.others) (parted_none c.args.starter.0 c.loop-note.left.now (search rules))) c.loop-note.invariant.others

pub returns-clause-silent : goal.returns-clause-silent
returns-clause-silent c = and_true _ _ _ (silent_none c.args.starter.0 c.loop-note.left.now (search rules)) c.loop-note.invariant.silent
