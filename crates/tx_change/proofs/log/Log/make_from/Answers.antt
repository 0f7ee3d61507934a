use Rattle.std.proofs.Common.{◌≡◌, ◌≤◌, ◌++◌, List, length, take, drop, append_assoc, arith, ap, sym, ◌∙◌, subst}
use Rattle.std.proofs.lemmas.List.{drop-append-le, take-append-le}
use Rattle.tx_change.proofs.Answering.{within_behind, within_from}
use Rattle.tx_change.proofs.Applied.{AreNamed-sized, applied-append, sizes-applied}
use Rattle.tx_change.proofs.InLists.{exchanged-append}
use Rattle.tx_change.specs.Answered.{answered}
use Rattle.tx_change.specs.Exchange.{AreNamed, applied, exchanged, sizes_of}
use Rattle.tx_change.specs.declared.change.Change.{Change}
use Rattle.tx_change.specs.declared.parts.Parts.{Parts}
use Rattle.tx_change.proofs.log.Log.make_from.Goals as goal

pub apply_from-requires : goal.apply_from-requires
apply_from-requires c =
    within_from (sizes_of c.args.parts.now) c.self.inside.changes.items (answered c.self.inside.answer) c.args.from
    (subst (λ (l : List Change). AreNamed c.args.parts.now (drop c.args.from l)) (sym c.self.view_is) c.requires)

pub swap_answer-requires : goal.swap_answer-requires
swap_answer-requires c =
    let changes : List Change = c.self.inside.changes.items in
    let answer : List Change = answered c.self.inside.answer in
    let few : c.args.from ≤ length changes = omega (arith, c.if-has_more.true, c.len.ensures) in
    let split : drop c.args.from c.args.self.now ≡ drop c.args.from changes ++ answer
    = ap (drop c.args.from) (sym c.self.view_is) ∙ drop-append-le c.args.from changes answer few in
    let last : List Change = drop c.args.from changes in
    let named = within_behind (sizes_of c.args.parts.now) last answer (subst (AreNamed c.args.parts.now) split c.requires) in
    subst (λ (p : Parts). AreNamed p answer) (sym c.apply_from.ensures.parts)
    (AreNamed-sized c.args.parts.now (applied c.args.parts.now last) answer (sizes-applied c.args.parts.now last) named)

pub returns-then-has_more-clause-parts : goal.returns-then-has_more-clause-parts
returns-then-has_more-clause-parts c =
    let changes : List Change = c.self.inside.changes.items in
    let answer : List Change = answered c.self.inside.answer in
    let few : c.args.from ≤ length changes = omega (arith, c.if-has_more.true, c.len.ensures) in
    let split : drop c.args.from c.args.self.now ≡ drop c.args.from changes ++ answer
    = ap (drop c.args.from) (sym c.self.view_is) ∙ drop-append-le c.args.from changes answer few in
    c.swap_answer.ensures.parts ∙ ap (λ (p : Parts). applied p answer) c.apply_from.ensures.parts
    ∙ sym (applied-append c.args.parts.now (drop c.args.from changes) answer) ∙ ap (applied c.args.parts.now) (sym split)

pub returns-then-has_more-clause-log : goal.returns-then-has_more-clause-log
returns-then-has_more-clause-log c =
    let changes : List Change = c.self.inside.changes.items in
    let answer : List Change = answered c.self.inside.answer in
    let few : c.args.from ≤ length changes = omega (arith, c.if-has_more.true, c.len.ensures) in
    let last : List Change = drop c.args.from changes in
    let split : drop c.args.from c.args.self.now ≡ last ++ answer = ap (drop c.args.from) (sym c.self.view_is) ∙ drop-append-le c.args.from changes answer few in
    let front : take c.args.from c.args.self.now ≡ take c.args.from changes = ap (take c.args.from) (sym c.self.view_is) ∙ take-append-le c.args.from changes answer few in
    let given = c.swap_answer.ensures.answer ∙ ap (λ (p : Parts). exchanged p answer) c.apply_from.ensures.parts in
    (λ i. c.apply_from.ensures.changes i ++ given i)
    ∙ append_assoc (take c.args.from changes) (exchanged c.args.parts.now last) (exchanged (applied c.args.parts.now last) answer)
    ∙ (λ i. sym front i ++ (sym (exchanged-append c.args.parts.now last answer) ∙ ap (exchanged c.args.parts.now) (sym split)) i)
