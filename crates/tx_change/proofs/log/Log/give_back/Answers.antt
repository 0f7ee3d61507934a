use Rattle.std.proofs.Common.{◌≡◌, ◌++◌, ◌∷◌, [], ◌-◌, ◌<◌, List, Option, length, drop, arith, ap, sym, ◌∙◌, subst}
use Rattle.tx_change.proofs.Answering.{last_few, within_behind, within_front}
use Rattle.tx_change.proofs.Applied.{AreNamed-sized, still_sized, undone_last}
use Rattle.tx_change.specs.Answered.{answered, change_of}
use Rattle.tx_change.specs.Exchange.{AreNamed, parts_after, sizes_of, undone}
use Rattle.tx_change.specs.declared.answered.Answered.{Answered}
use Rattle.tx_change.specs.declared.change.Change.{Change}
use Rattle.tx_change.specs.declared.parts.Parts.{Parts}
use Rattle.tx_change.proofs.log.Log.give_back.Goals as goal

pub swap-requires : goal.swap-requires
swap-requires c =
    let changes : List Change = c.self.inside.changes.items in
    let answer : Change = change_of c.in-Some.answered in
    let whole : changes ++ answer ∷ [] ≡ c.args.self.now = ap (λ (a : Option Answered). changes ++ answered a) c.in-Some.ensures.value ∙ c.self.view_is in
    (within_behind (sizes_of c.args.parts.now) changes (answer ∷ []) (subst (AreNamed c.args.parts.now) (sym whole) c.requires.named)).0

pub lead_back_last-requires-clause-named : goal.lead_back_last-requires-clause-named
lead_back_last-requires-clause-named c =
    let changes : List Change = c.self.inside.changes.items in
    let answer : Change = change_of c.in-Some.answered in
    let whole : changes ++ answer ∷ [] ≡ c.args.self.now = ap (λ (a : Option Answered). changes ++ answered a) c.in-Some.ensures.value ∙ c.self.view_is in
    let named = within_front (sizes_of c.args.parts.now) changes (answer ∷ []) (subst (AreNamed c.args.parts.now) (sym whole) c.requires.named) in
    subst (λ (p : Parts). AreNamed p changes) (sym c.swap.ensures.parts)
    (AreNamed-sized c.args.parts.now (parts_after c.args.parts.now answer) changes (still_sized c.args.parts.now answer) named)

pub returns-in-Some-clause-parts : goal.returns-in-Some-clause-parts
returns-in-Some-clause-parts c =
    let changes : List Change = c.self.inside.changes.items in
    let answer : Change = change_of c.in-Some.answered in
    let whole : changes ++ answer ∷ [] ≡ c.args.self.now = ap (λ (a : Option Answered). changes ++ answered a) c.in-Some.ensures.value ∙ c.self.view_is in
    let some : 0 < c.args.count = omega (arith, c.if-count-eq0.false) in
    let last : List Change = drop (length changes - (c.args.count - 1)) changes in
    c.lead_back_last.ensures.parts ∙ ap (λ (p : Parts). undone p last) c.swap.ensures.parts
    ∙ sym (undone_last c.args.parts.now last answer)
    ∙ ap (undone c.args.parts.now) (sym (last_few changes c.args.self.now answer c.args.count whole some c.requires.few))
