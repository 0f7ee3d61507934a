-- Changes that are moved back onto a stack, and forward again.
use Rattle.std.proofs.Common.{◌≡◌, ℕ, suc, ◌+◌, ◌-◌, ◌≤◌, List, [], ◌∷◌, arith, length, length-append, reverse, ap, refl, ◌∙◌}
use Rattle.std.proofs.lemmas.List.{drop_at, length-reverse, reverse-reverse, take_at}
use Rattle.tx_change.proofs.Applied.{applied_reverted}
use Rattle.tx_change.proofs.Placed.{log_comes_back}
use Rattle.tx_change.specs.Exchange.{AreNamed, applied, exchanged, reverted, undone}
use Rattle.tx_change.specs.Laws.{BringPlaces, HaveAllPlaces}
use Rattle.tx_change.specs.PartLaws.{PartLaws}
use Rattle.tx_change.specs.Stacks.{below_top, moved_onto, top_of}
use Rattle.tx_change.specs.declared.change.Change.{Change}
use Rattle.tx_change.specs.declared.parts.Parts.{Parts}

length-reverted : (parts : Parts) (changes : List Change) → length (reverted parts changes) ≡ length changes
length-reverted parts [] = refl
length-reverted parts (change ∷ changes) = ap suc (length-reverted parts changes)

-- as many are on the stack as were moved onto it
over : (stack : List Change) (parts : Parts) (changes : List Change) → length (moved_onto stack parts changes) ≡ length stack + length changes
over stack parts changes =
    length-append stack (reverse (reverted parts changes))
    ∙ ap (λ (n : ℕ). length stack + n) (length-reverse (reverted parts changes) ∙ length-reverted parts changes)

below : (stack : List Change) (parts : Parts) (changes : List Change) → length stack ≡ length (moved_onto stack parts changes) - length changes
below stack parts changes = let all = over stack parts changes in omega (arith, all)

pub moved_there : (stack : List Change) (parts : Parts) (changes : List Change) → length changes ≤ length (moved_onto stack parts changes)
moved_there stack parts changes = let all = over stack parts changes in omega (arith, all)

pub moved_on_top : (stack : List Change) (parts : Parts) (changes : List Change) → top_of (length changes) (moved_onto stack parts changes) ≡ reverted parts changes
moved_on_top stack parts changes =
    ap reverse (drop_at stack (reverse (reverted parts changes)) (length (moved_onto stack parts changes) - length changes) (below stack parts changes))
    ∙ reverse-reverse (reverted parts changes)

pub rest_below : (stack : List Change) (parts : Parts) (changes : List Change) → below_top (length changes) (moved_onto stack parts changes) ≡ stack
rest_below stack parts changes = take_at stack (reverse (reverted parts changes)) (length (moved_onto stack parts changes) - length changes) (below stack parts changes)

pub back_and_forward : (laws : PartLaws) (stack : List Change) (parts : Parts) (changes : List Change) → AreNamed parts changes →
    applied (undone parts changes) (top_of (length changes) (moved_onto stack parts changes)) ≡ parts
back_and_forward laws stack parts changes named = ap (applied (undone parts changes)) (moved_on_top stack parts changes) ∙ applied_reverted laws parts changes named

pub logged_again : (laws : PartLaws) (stack : List Change) (parts : Parts) (changes : List Change) → AreNamed parts changes → BringPlaces changes → HaveAllPlaces parts →
    exchanged (undone parts changes) (top_of (length changes) (moved_onto stack parts changes)) ≡ changes
logged_again laws stack parts changes named brings places =
    ap (exchanged (undone parts changes)) (moved_on_top stack parts changes) ∙ log_comes_back laws parts changes named brings places
