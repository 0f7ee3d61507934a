use Rattle.std.proofs.Common.{◌++◌, List, ap, sym, ◌∙◌, subst}
use Rattle.tx_change.proofs.Answering.{within_behind, within_front}
use Rattle.tx_change.proofs.Applied.{AreNamed-sized, applied-append, sizes-applied}
use Rattle.tx_change.proofs.InLists.{exchanged-append}
use Rattle.tx_change.specs.Answered.{answered}
use Rattle.tx_change.specs.Exchange.{AreNamed, applied, exchanged, sizes_of}
use Rattle.tx_change.specs.declared.change.Change.{Change}
use Rattle.tx_change.specs.declared.parts.Parts.{Parts}
use Rattle.tx_change.proofs.log.Log.lead_forward.Goals as goal

pub apply-requires : goal.apply-requires
apply-requires c =
    within_front (sizes_of c.args.parts.now) c.self.inside.changes.items (answered c.self.inside.answer)
    (subst (AreNamed c.args.parts.now) (sym c.self.view_is) c.requires)

pub swap_answer-requires : goal.swap_answer-requires
swap_answer-requires c =
    let changes : List Change = c.self.inside.changes.items in
    let answer : List Change = answered c.self.inside.answer in
    let named = within_behind (sizes_of c.args.parts.now) changes answer (subst (AreNamed c.args.parts.now) (sym c.self.view_is) c.requires) in
    subst (λ (p : Parts). AreNamed p answer) (sym c.apply.ensures.parts)
    (AreNamed-sized c.args.parts.now (applied c.args.parts.now changes) answer (sizes-applied c.args.parts.now changes) named)

pub returns-clause-parts : goal.returns-clause-parts
returns-clause-parts c =
    let changes : List Change = c.self.inside.changes.items in
    let answer : List Change = answered c.self.inside.answer in
    c.swap_answer.ensures.parts ∙ ap (λ (p : Parts). applied p answer) c.apply.ensures.parts
    ∙ sym (applied-append c.args.parts.now changes answer) ∙ ap (applied c.args.parts.now) c.self.view_is

pub returns-clause-log : goal.returns-clause-log
returns-clause-log c =
    let changes : List Change = c.self.inside.changes.items in
    let answer : List Change = answered c.self.inside.answer in
    let given = c.swap_answer.ensures.answer ∙ ap (λ (p : Parts). exchanged p answer) c.apply.ensures.parts in
    (λ i. c.apply.ensures.changes i ++ given i) ∙ sym (exchanged-append c.args.parts.now changes answer) ∙ ap (exchanged c.args.parts.now) c.self.view_is
