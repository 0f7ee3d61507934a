use Rattle.std.proofs.Common.{◌∙◌, Bor, List, ℕ, ap, sym}
use Rattle.std.specs.List.{position}
use Rattle.tx_shell.proofs.LeftOver.{at_place, is_it, no_place, spelled}
use Rattle.tx_shell.proofs.questions.differences.take_out.Goals as goal

pub returns-in-Some-clause-has : goal.returns-in-Some-clause-has
returns-in-Some-clause-has c =
    sym (at_place c.args.line.now c.args.others.now.items c.in-Some.place (ap (λ (others : List (Bor (List ℕ))). position (is_it c.args.line.now) others) (sym c.as_slice.ensures.value) ∙ sym c.in-Some.ensures)).has

pub returns-in-Some-clause-less : goal.returns-in-Some-clause-less
returns-in-Some-clause-less c =
    ap spelled c.remove-line.ensures.items
    ∙ sym (at_place c.args.line.now c.args.others.now.items c.in-Some.place (ap (λ (others : List (Bor (List ℕ))). position (is_it c.args.line.now) others) (sym c.as_slice.ensures.value) ∙ sym c.in-Some.ensures)).less

pub returns-in-None-clause-has : goal.returns-in-None-clause-has
returns-in-None-clause-has c =
    sym (no_place c.args.line.now c.args.others.now.items (ap (λ (others : List (Bor (List ℕ))). position (is_it c.args.line.now) others) (sym c.as_slice.ensures.value) ∙ sym c.in-None.ensures)).0

pub returns-in-None-clause-less : goal.returns-in-None-clause-less
returns-in-None-clause-less c =
    sym (no_place c.args.line.now c.args.others.now.items (ap (λ (others : List (Bor (List ℕ))). position (is_it c.args.line.now) others) (sym c.as_slice.ensures.value) ∙ sym c.in-None.ensures)).1
