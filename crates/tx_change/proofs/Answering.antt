-- Logs whose newest part is apart.
use Rattle.std.proofs.Common.{◌≡◌, ℕ, zero, suc, ◌+◌, ◌-◌, ◌<◌, ◌≤◌, List, [], ◌∷◌, ◌++◌, Option, Some, None, length, take, drop, length-append, arith, ap, sym, ◌∙◌, refl}
use Rattle.std.proofs.lemmas.List.{append-nil, drop-append-le, take-append-le}
use Rattle.tx_change.specs.Answered.{answered}
use Rattle.tx_change.specs.Exchange.{AreWithin, Sizes, applied, exchanged, reverted, undone}
use Rattle.tx_change.specs.declared.answered.Answered.{Answered}
use Rattle.tx_change.specs.declared.change.Change.{Change}
use Rattle.tx_change.specs.declared.parts.Parts.{Parts}

pub within_front : (sizes : Sizes) (front behind : List Change) → AreWithin sizes (front ++ behind) → AreWithin sizes front
within_front sizes [] behind named = tt
within_front sizes (first ∷ front) behind named = (named.0, within_front sizes front behind named.1)

pub within_behind : (sizes : Sizes) (front behind : List Change) → AreWithin sizes (front ++ behind) → AreWithin sizes behind
within_behind sizes [] behind named = named
within_behind sizes (first ∷ front) behind named = within_behind sizes front behind named.1

-- the last few of a log without an answer apart
pub all_in_list : (changes now : List Change) → changes ++ [] ≡ now → changes ≡ now
all_in_list changes now is = sym (append-nil changes) ∙ is

-- the last few of a log with an answer apart: the answer, and one fewer of the list
pub few_more : (changes now : List Change) (answer : Change) (count : ℕ) → changes ++ answer ∷ [] ≡ now → 0 < count → count ≤ length now →
    (length now - count ≡ length changes - (count - 1)) × (count - 1 ≤ length changes)
few_more changes now answer count is some few =
    let long : length now ≡ length changes + 1 = sym (ap length is) ∙ length-append changes (answer ∷ []) in
    (omega (arith, long), omega (arith, long))

pub last_few : (changes now : List Change) (answer : Change) (count : ℕ) → changes ++ answer ∷ [] ≡ now → 0 < count → count ≤ length now →
    drop (length now - count) now ≡ drop (length changes - (count - 1)) changes ++ answer ∷ []
last_few changes now answer count is some few =
    let more = few_more changes now answer count is some few in
    let from : length changes - (count - 1) ≤ length changes = omega arith in
    ap (λ (n : ℕ). drop n now) more.0 ∙ ap (drop (length changes - (count - 1))) (sym is)
    ∙ drop-append-le (length changes - (count - 1)) changes (answer ∷ []) from

pub first_few : (changes now : List Change) (answer : Change) (count : ℕ) → changes ++ answer ∷ [] ≡ now → 0 < count → count ≤ length now →
    take (length now - count) now ≡ take (length changes - (count - 1)) changes
first_few changes now answer count is some few =
    let more = few_more changes now answer count is some few in
    let from : length changes - (count - 1) ≤ length changes = omega arith in
    ap (λ (n : ℕ). take n now) more.0 ∙ ap (take (length changes - (count - 1))) (sym is)
    ∙ take-append-le (length changes - (count - 1)) changes (answer ∷ []) from

-- from a place on
pub within_from : (sizes : Sizes) (front behind : List Change) (from : ℕ) → AreWithin sizes (drop from (front ++ behind)) → AreWithin sizes (drop from front)
within_from sizes [] behind zero named = tt
within_from sizes [] behind (suc from) named = tt
within_from sizes (first ∷ front) behind zero named = within_front sizes (first ∷ front) behind named
within_from sizes (first ∷ front) behind (suc from) named = within_from sizes front behind from named

-- an answer alone is made and taken back alike
pub once : (parts : Parts) (answer : Option Answered) → applied parts (answered answer) ≡ undone parts (answered answer)
once parts None = refl
once parts (Some answer) = refl

pub given_once : (parts : Parts) (answer : Option Answered) → exchanged parts (answered answer) ≡ reverted parts (answered answer)
given_once parts None = refl
given_once parts (Some answer) = refl
