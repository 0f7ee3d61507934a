-- A second exchange takes the first one back.
use Rattle.std.proofs.Common.{◌≡◌, ℕ, zero, suc, ◌<◌, ◌≤◌, Bool, true, false, cond, nat_lt, List, [], ◌∷◌, length, Option, None, Some, refl, ap, ◌∙◌, arith}
use Rattle.std.specs.Prelude.{nat_le, slice_get, slice_set, slice_index_or, insert, remove}
use Rattle.std.proofs.lemmas.Option.{slice_get-get_or}
use Rattle.std.proofs.lemmas.List.Edits.{length-insert, length-remove, get_or-insert_at}
use Rattle.std.proofs.lemmas.Bool.Decides.{nat_tests}
use borrow.Author.Tests.{ltb-true, leb-true}
use Rattle.tx_base.specs.declared.signals.Action.{Action}
use Rattle.tx_model.specs.State.{Queued}
use Rattle.tx_signal.specs.Entries.{entry_swapped, entry_given, has_place}

pub action_back : (signo : ℕ) (action : Action) (actions : List Action) → slice_set (slice_set actions signo action) signo (slice_index_or actions signo action) ≡ actions
action_back signo action [] = refl
action_back zero action (first ∷ actions) = refl
action_back (suc signo) action (first ∷ actions) = ap (λ (rest : List Action). first ∷ rest) (action_back signo action actions)

-- taken out of where it was put in
removed_inserted : (place : ℕ) (entry : Queued) (queue : List Queued) → place ≤ length queue → remove (insert queue place entry) place ≡ queue
removed_inserted zero entry queue within = refl
removed_inserted (suc place) entry [] within = absurd (omega arith)
removed_inserted (suc place) entry (first ∷ queue) within = ap (λ (rest : List Queued). first ∷ rest) (removed_inserted place entry queue (omega arith))

got_inserted : (place : ℕ) (entry : Queued) (queue : List Queued) → place ≤ length queue → slice_get (insert queue place entry) place ≡ Some entry
got_inserted place entry queue within =
    let longer = length-insert queue place entry within in
    slice_get-get_or (insert queue place entry) place entry (omega arith) ∙ ap (λ (one : Queued). Some one) (get_or-insert_at queue place entry entry within)

-- put in where it was taken out
inserted_removed : (place : ℕ) (entry : Queued) (queue : List Queued) → slice_get queue place ≡ Some entry → insert (remove queue place) place entry ≡ queue
inserted_removed place entry [] stands = cc
inserted_removed zero entry (first ∷ queue) stands = cc
inserted_removed (suc place) entry (first ∷ queue) stands = ap (λ (rest : List Queued). first ∷ rest) (inserted_removed place entry queue stands)

none_within : (place : ℕ) (queue : List Queued) → place < length queue → slice_get queue place ≡ None → ⊥
none_within place [] within none = omega arith
none_within zero (first ∷ queue) within none = cc
none_within (suc place) (first ∷ queue) within none = none_within place queue (omega arith) none

there_inserted : (place : ℕ) (entry : Queued) (queue : List Queued) → place ≤ length queue → nat_lt place (length (insert queue place entry)) ≡ true
there_inserted place entry queue within =
    let longer = length-insert queue place entry within in
    grind (arith, nat_tests)

has_place-true : (place : ℕ) (queue : List Queued) → place ≤ length queue → length queue < 16 → has_place place queue ≡ true
has_place-true place queue within room = grind (arith, nat_tests)

both_true : (b c : Bool) → cond b c false ≡ true → b ≡ true
both_true true c both = refl
both_true false c both = cc

has_place-within : (place : ℕ) (queue : List Queued) → has_place place queue ≡ true → place ≤ length queue
has_place-within place queue has = leb-true place (length queue) (both_true (nat_le place (length queue)) (nat_lt (length queue) 16) has)

-- the queue and the entry after the second exchange, where an entry was taken out
taken_back : (place : ℕ) (queue : List Queued) (given : Option Queued) → place < length queue → length queue ≤ 16 → slice_get queue place ≡ given
    → (entry_swapped place given (remove queue place) ≡ queue) × (entry_given place given (remove queue place) ≡ None)
taken_back place queue None within fits stands = absurd (none_within place queue within stands)
taken_back place queue (Some entry) within fits stands =
    let shorter = length-remove queue place within in
    let has = has_place-true place (remove queue place) (omega arith) (omega arith) in
    (rw has (inserted_removed place entry queue stands), rw has refl)

none_back : (place : ℕ) (queue : List Queued) (b : Bool) → nat_lt place (length queue) ≡ b → length queue ≤ 16
    → (entry_swapped place (cond b (slice_get queue place) None) (cond b (remove queue place) queue) ≡ queue)
    × (entry_given place (cond b (slice_get queue place) None) (cond b (remove queue place) queue) ≡ None)
none_back place queue true there fits = taken_back place queue (slice_get queue place) (ltb-true place (length queue) there) fits refl
none_back place queue false there fits = (rw there refl, rw there refl)

some_back : (place : ℕ) (entry : Queued) (queue : List Queued) (b : Bool) → has_place place queue ≡ b
    → (entry_swapped place (cond b None (Some entry)) (cond b (insert queue place entry) queue) ≡ queue)
    × (entry_given place (cond b None (Some entry)) (cond b (insert queue place entry) queue) ≡ Some entry)
some_back place entry queue true has =
    let within = has_place-within place queue has in
    let there = there_inserted place entry queue within in
    (rw there (removed_inserted place entry queue within), rw there (got_inserted place entry queue within))
some_back place entry queue false has = (rw has refl, rw has refl)

pub entry_back : (place : ℕ) (entry : Option Queued) (queue : List Queued) → length queue ≤ 16
    → (entry_swapped place (entry_given place entry queue) (entry_swapped place entry queue) ≡ queue)
    × (entry_given place (entry_given place entry queue) (entry_swapped place entry queue) ≡ entry)
entry_back place None queue fits = none_back place queue _ refl fits
entry_back place (Some entry) queue fits = some_back place entry queue _ refl
