-- One exchange more, from the last one on.
use Rattle.std.proofs.Common.{◌≡◌, ℕ, ◌+◌, ◌<◌, List, [], ◌∷◌, ◌++◌, take, drop, get_or, length, append_assoc, arith, ap, ◌∙◌, sym}
use Rattle.std.proofs.lemmas.List.{take_more, take-set-le, drop-set}
use Rattle.std.proofs.Math.ListN.{set}
use Rattle.tx_change.proofs.Applied.{undone_last, reverted_last}
use Rattle.tx_change.specs.declared.change.Change.{Change}
use Rattle.tx_change.specs.declared.parts.Parts.{Parts}
use Rattle.tx_change.specs.Exchange.{parts_after, change_after, Sizes, IsWithin, AreWithin, undone, reverted}

AreWithin_last : (sizes : Sizes) (front : List Change) (change : Change) → AreWithin sizes (front ++ (change ∷ [])) → AreWithin sizes front × IsWithin sizes change
AreWithin_last sizes [] change named = (tt, named.0)
AreWithin_last sizes (first ∷ front) change named =
    let rest = AreWithin_last sizes front change named.1 in
    ((named.0, rest.0), rest.1)

-- the change at i is the last one that is left
pub named_cut : (sizes : Sizes) (items : List Change) (i : ℕ) (change : Change) → i < length items → AreWithin sizes (take (i + 1) items) →
    AreWithin sizes (take i items) × IsWithin sizes (get_or items i change)
named_cut sizes items i change there named = AreWithin_last sizes (take i items) (get_or items i change) (rw (take_more items i change there) at named)

pub undone_cut : (parts : Parts) (items : List Change) (i : ℕ) (change other : Change) → i < length items → change ≡ get_or items i change →
    undone (parts_after parts change) (take i (set items i other)) ≡ undone parts (take (i + 1) items)
undone_cut parts items i change other there read =
    let kept : take i (set items i other) ≡ take i items = take-set-le i items i other (omega arith) in
    let whole : take (i + 1) items ≡ take i items ++ (change ∷ [])
    = take_more items i change there ∙ ap (λ c. take i items ++ (c ∷ [])) (sym read) in
    rw (kept, whole) (sym (undone_last parts (take i items) change))

pub reverted_cut : (parts : Parts) (items : List Change) (i : ℕ) (change : Change) → i < length items → change ≡ get_or items i change →
    reverted (parts_after parts change) (take i (set items i (change_after parts change))) ++ drop i (set items i (change_after parts change))
    ≡ reverted parts (take (i + 1) items) ++ drop (i + 1) items
reverted_cut parts items i change there read =
    let now : Change = change_after parts change in
    let kept : take i (set items i now) ≡ take i items = take-set-le i items i now (omega arith) in
    let whole : take (i + 1) items ≡ take i items ++ (change ∷ [])
    = take_more items i change there ∙ ap (λ c. take i items ++ (c ∷ [])) (sym read) in
    let back : drop i (set items i now) ≡ now ∷ drop (i + 1) items = drop-set items i now there in
    let last = reverted_last parts (take i items) change in
    let front : List Change = reverted (parts_after parts change) (take i items) in
    (λ j. reverted (parts_after parts change) (kept j) ++ back j) ∙ sym (append_assoc front (now ∷ []) (drop (i + 1) items))
    ∙ ap (λ l. l ++ drop (i + 1) items) (sym last ∙ sym (ap (reverted parts) whole))
