use Rattle.std.proofs.Common.{◌≡◌, ℕ, ◌-◌, List, [], ◌∷◌, ◌++◌, length, drop, sym, ap, ◌∙◌, subst}
use Rattle.tx_change.specs.declared.change.Change.{Change}
use Rattle.tx_change.specs.declared.parts.Parts.{Parts}
use Rattle.tx_change.specs.Exchange.{Sizes, sizes_of, IsWithin, AreWithin}
use Rattle.tx_change.proofs.Applied.{sizes-undone}
use Rattle.tx_change.proofs.Logged.{named_last}
use Rattle.tx_change.proofs.log.move_last_back.Goals as goal

pub swap-requires : goal.swap-requires
swap-requires c =
    let all : List Change = c.args.changes.now.items in
    let k : ℕ = length all - c.loop-done._done in
    let whole : (c.pop.new.self.items ++ c.in-Some.change ∷ []) ++ drop k all ≡ all
    = ap (λ (xs : List Change). xs ++ drop k all) (sym c.in-Some.ensures.items) ∙ c.loop-done.invariant.whole in
    let sizes : sizes_of c.loop-done.parts ≡ sizes_of c.args.parts.now
    = ap (λ (p : Parts). sizes_of p) c.loop-done.invariant.parts ∙ sizes-undone c.args.parts.now (drop k all) in
    subst (λ (s : Sizes). IsWithin s c.in-Some.change) (sym sizes)
    (named_last (sizes_of c.args.parts.now) c.pop.new.self.items c.in-Some.change (drop k all)
    (subst (AreWithin (sizes_of c.args.parts.now)) (sym whole) c.requires.named))
