use Rattle.std.proofs.Common.{◌++◌, List, ap, sym, ◌∙◌, subst}
use Rattle.tx_change.proofs.Answering.{given_once, once, within_behind, within_front}
use Rattle.tx_change.proofs.Applied.{AreNamed-sized, reverted-append, sizes-applied, undone-append}
use Rattle.tx_change.specs.Answered.{answered}
use Rattle.tx_change.specs.Exchange.{AreNamed, applied, reverted, sizes_of, undone}
use Rattle.tx_change.specs.declared.change.Change.{Change}
use Rattle.tx_change.specs.declared.parts.Parts.{Parts}
use Rattle.tx_change.proofs.log.Log.lead_back.Goals as goal

pub swap_answer-requires : goal.swap_answer-requires
swap_answer-requires c =
    within_behind (sizes_of c.args.parts.now) c.self.inside.changes.items (answered c.self.inside.answer)
    (subst (AreNamed c.args.parts.now) (sym c.self.view_is) c.requires)

pub revert-requires : goal.revert-requires
revert-requires c =
    let changes : List Change = c.self.inside.changes.items in
    let answer : List Change = answered c.self.inside.answer in
    let named = within_front (sizes_of c.args.parts.now) changes answer (subst (AreNamed c.args.parts.now) (sym c.self.view_is) c.requires) in
    subst (λ (p : Parts). AreNamed p changes) (sym c.swap_answer.ensures.parts)
    (AreNamed-sized c.args.parts.now (applied c.args.parts.now answer) changes (sizes-applied c.args.parts.now answer) named)

pub returns-clause-parts : goal.returns-clause-parts
returns-clause-parts c =
    let changes : List Change = c.self.inside.changes.items in
    let answer : List Change = answered c.self.inside.answer in
    c.revert.ensures.parts
    ∙ ap (λ (p : Parts). undone p changes) (c.swap_answer.ensures.parts ∙ once c.args.parts.now c.self.inside.answer)
    ∙ sym (undone-append c.args.parts.now changes answer) ∙ ap (undone c.args.parts.now) c.self.view_is

pub returns-clause-log : goal.returns-clause-log
returns-clause-log c =
    let changes : List Change = c.self.inside.changes.items in
    let answer : List Change = answered c.self.inside.answer in
    let back = c.swap_answer.ensures.parts ∙ once c.args.parts.now c.self.inside.answer in
    let led = c.revert.ensures.changes ∙ ap (λ (p : Parts). reverted p changes) back in
    let given = c.swap_answer.ensures.answer ∙ given_once c.args.parts.now c.self.inside.answer in
    (λ i. led i ++ given i) ∙ sym (reverted-append c.args.parts.now changes answer) ∙ ap (reverted c.args.parts.now) c.self.view_is
