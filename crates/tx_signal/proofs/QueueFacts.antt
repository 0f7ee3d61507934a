-- Facts on the queue of realtime signals.
use Rattle.std.proofs.Common.{◌≡◌, ℕ, ◌+◌, ◌^◌, ◌<◌, ◌≤◌, Bool, true, false, not, cond, ◌||◌, nat_lt, eqb, List, [], ◌∷◌, length, drop, get_or, Option, None, Some, is_some, IfSome, IsSomeAnd, ℤ, pos, bit_or, refl, ap, sym, ◌∙◌, arith, one-add}
use Rattle.std.specs.Prelude.{slice_get, remove, IfNone}
use Rattle.std.specs.List.{position_or_len, list_any}
use Rattle.std.proofs.lemmas.Bool.{eqb-true}
use Rattle.std.proofs.lemmas.Grind.{common_steps}
use Rattle.std.proofs.lemmas.List.{at_drop_more, at_drop_all}
use Rattle.std.specs.Int.Bits.{or_zero_r}
use borrow.Author.Tests.{ltb-true, ltb-false}
use Rattle.std.proofs.lemmas.Option.{slice_get-get_or, slice_get_past}
use Rattle.std.proofs.lemmas.Nat.Bits.{same_from_bits, bit_at_or}
use Rattle.tx_model.specs.Deliveries.{first_value, without_first, has_lower, is_blocked, without_delivered}
use Rattle.tx_model.specs.SignalSets.{is_in_set, is_realtime}
use Rattle.tx_model.specs.Signals.{queued_signals, queued_others}
use Rattle.tx_model.specs.State.{Process, Queued}
use Rattle.tx_signal.specs.Entries.{place_of, entry_swapped, entry_given, is_lower, IsFirstOf}
use Rattle.tx_signal.specs.Parts.{PendingView, with_pending_part}
use Rattle.tx_signal.proofs.SetFacts.{without_one-absent}

-- whether it is an entry of the signal
abbrev is_of : ℕ → Queued → Bool
is_of signo entry = eqb entry.signo signo

remove_step : (b : Bool) (entry : Queued) (entries rest : List Queued) (n : ℕ) → remove entries n ≡ rest → remove (entry ∷ entries) (cond (not b) (1 + n) 0) ≡ cond b entries (entry ∷ rest)
remove_step true entry entries rest n same = refl
remove_step false entry entries rest n same = rw (one-add n) (ap (λ (xs : List Queued). entry ∷ xs) same)

-- without the first entry of the signal, or as it is where there is none
remove-first : (signo : ℕ) (queue : List Queued) → remove queue (position_or_len (is_of signo) queue) ≡ without_first signo queue
unfolding without_first
remove-first signo [] = refl
remove-first signo (entry ∷ entries) = remove_step (is_of signo entry) entry entries _ _ (remove-first signo entries)

-- the entry is the first one of the signal, with this value
abbrev IsFirst : ℕ → Option ℤ → Option Queued → Type 0
IsFirst signo value None = value ≡ None
IsFirst signo value (Some entry) = (entry.signo ≡ signo) × (value ≡ Some entry.value)

first_step : (b : Bool) (signo : ℕ) (entry : Queued) (entries : List Queued) (value : Option ℤ) (n : ℕ) → eqb entry.signo signo ≡ b → IsFirst signo value (slice_get entries n)
    → IsFirst signo (cond b (Some entry.value) value) (slice_get (entry ∷ entries) (cond (not b) (1 + n) 0))
first_step true signo entry entries value n found rest = (eqb-true entry.signo signo found, refl)
first_step false signo entry entries value n found rest = rw (one-add n) rest

first_of : (signo : ℕ) (queue : List Queued) → IsFirst signo (first_value signo queue) (slice_get queue (position_or_len (is_of signo) queue))
unfolding first_value
first_of signo [] = refl
first_of signo (entry ∷ entries) = first_step (is_of signo entry) signo entry entries _ _ refl (first_of signo entries)

-- at the place of the first entry, if there is one
swapped_when : (signo place : ℕ) (queue : List Queued) (b : Bool) → nat_lt place (length queue) ≡ b → remove queue place ≡ without_first signo queue
    → IfSome (cond b (Some place) None) (λ place. entry_swapped place None queue ≡ without_first signo queue)
swapped_when signo place queue true there same = rw there same
swapped_when signo place queue false there same = tt

pub place-swapped : (signo : ℕ) (queue : List Queued) → IfSome (place_of signo queue) (λ place. entry_swapped place None queue ≡ without_first signo queue)
place-swapped signo queue = swapped_when signo _ queue _ refl (remove-first signo queue)

none_when : (signo place : ℕ) (queue : List Queued) (value : Option ℤ) (b : Bool) → nat_lt place (length queue) ≡ b → IsFirst signo value (slice_get queue place) → IfNone (cond b (Some place) None) (value ≡ None)
none_when signo place queue value true there first = tt
none_when signo place queue value false there first = rw (slice_get_past queue place (ltb-false place (length queue) there)) at first

pub place-none : (signo : ℕ) (queue : List Queued) → IfNone (place_of signo queue) (first_value signo queue ≡ None)
place-none signo queue = none_when signo _ queue _ _ refl (first_of signo queue)

remove_past : (queue : List Queued) (place : ℕ) → length queue ≤ place → queue ≡ remove queue place
remove_past queue place past = grind (arith, common_steps)

left_when : (signo place : ℕ) (queue : List Queued) (b : Bool) → nat_lt place (length queue) ≡ b → remove queue place ≡ without_first signo queue → IfNone (cond b (Some place) None) (queue ≡ without_first signo queue)
left_when signo place queue true there same = tt
left_when signo place queue false there same = remove_past queue place (ltb-false place (length queue) there) ∙ same

pub place-left : (signo : ℕ) (queue : List Queued) → IfNone (place_of signo queue) (queue ≡ without_first signo queue)
place-left signo queue = left_when signo _ queue _ refl (remove-first signo queue)

some_first : (signo : ℕ) (value : Option ℤ) (found : Option Queued) → is_some found ≡ true → IsFirst signo value found → IsSomeAnd found (λ entry. (entry.signo ≡ signo) × (value ≡ Some entry.value))
some_first signo value None there first = cc
some_first signo value (Some entry) there first = first

entry_when : (signo place : ℕ) (queue : List Queued) (value : Option ℤ) (b : Bool) → nat_lt place (length queue) ≡ b → IsFirst signo value (slice_get queue place)
    → IfSome (cond b (Some place) None) (λ place. IsSomeAnd (entry_given place None queue) (λ entry. (entry.signo ≡ signo) × (value ≡ Some entry.value)))
entry_when signo place queue value true there first =
    let found : is_some (slice_get queue place) ≡ true =
    ap is_some (slice_get-get_or queue place (record { signo = 0; value = pos 0 }) (ltb-true place (length queue) there)) in
    rw there (some_first signo value (slice_get queue place) found first)
entry_when signo place queue value false there first = tt

pub place-entry : (signo : ℕ) (queue : List Queued) → IfSome (place_of signo queue) (λ place. IsSomeAnd (entry_given place None queue) (IsFirstOf signo queue))
place-entry signo queue = entry_when signo _ queue _ _ refl (first_of signo queue)

given_when : (queue : List Queued) (place signo : ℕ) (entry : Queued) (value : Option ℤ) (b : Bool) → nat_lt place (length queue) ≡ b → entry ≡ get_or queue place entry
    → IsSomeAnd (cond b (slice_get queue place) None) (λ first. (first.signo ≡ signo) × (value ≡ Some first.value)) → Some entry.value ≡ value
given_when queue place signo entry value true there read first =
    let stands = slice_get-get_or queue place entry (ltb-true place (length queue) there) in
    let here = rw stands at first in
    sym (here.1 ∙ ap (λ (one : Queued). Some one.value) (sym read))
given_when queue place signo entry value false there read first = absurd first

-- what stands at a place from which an entry is given
pub given-value : (queue : List Queued) (place signo : ℕ) (entry : Queued) (value : Option ℤ) → entry ≡ get_or queue place entry
    → IsSomeAnd (entry_given place None queue) (λ first. (first.signo ≡ signo) × (value ≡ Some first.value)) → Some entry.value ≡ value
given-value queue place signo entry value read first = given_when queue place signo entry value _ refl read first

-- an entry with a lower number that is not blocked
pub has_lower-any : (signo mask : ℕ) (queue : List Queued) → list_any (is_lower signo mask) queue ≡ has_lower signo mask queue
unfolding has_lower
has_lower-any signo mask [] = refl
has_lower-any signo mask (entry ∷ entries) =
    ap (λ (rest : Bool). is_lower signo mask entry || rest) (has_lower-any signo mask entries)

-- one more signal of a union, from the one side or the other
pub or_turned : (set one rest : ℕ) → bit_or (bit_or set one) rest ≡ bit_or set (bit_or rest one)
or_turned set one rest =
    same_from_bits _ _ (λ i. omega (arith, bit_at_or (bit_or set one) rest i, bit_at_or set one i, bit_at_or set (bit_or rest one) i, bit_at_or rest one i))

pending_when : (signo place : ℕ) (queue : List Queued) (value : Option ℤ) (b : Bool) → nat_lt place (length queue) ≡ b → IsFirst signo value (slice_get queue place) → is_some (cond b (Some place) None) ≡ is_some value
pending_when signo place queue value true there first =
    let stands = slice_get-get_or queue place (record { signo = 0; value = pos 0 }) (ltb-true place (length queue) there) in
    let here = rw stands at first in
    sym (ap is_some here.1)
pending_when signo place queue value false there first =
    sym (ap is_some (rw (slice_get_past queue place (ltb-false place (length queue) there)) at first))

-- there is a first entry of the signal exactly where it is pending
pub place-pending : (signo : ℕ) (queue : List Queued) → is_some (place_of signo queue) ≡ is_some (first_value signo queue)
place-pending signo queue = pending_when signo _ queue _ _ refl (first_of signo queue)

-- one more entry of the queue, as a signal of the set
pub signals_step : (queue : List Queued) (i : ℕ) (entry : Queued) (set : ℕ) → i < length queue → entry ≡ get_or queue i entry
    → bit_or (bit_or set (2 ^ entry.signo)) (queued_signals (drop (i + 1) queue)) ≡ bit_or set (queued_signals (drop i queue))
signals_step queue i entry set within read =
    let next = at_drop_more queued_signals queue i entry within ∙ ap (λ (first : Queued). queued_signals (first ∷ drop (i + 1) queue)) (sym read) in
    or_turned set (2 ^ entry.signo) (queued_signals (drop (i + 1) queue)) ∙ ap (bit_or set) (sym next)

pub signals_end : (queue : List Queued) (i : ℕ) (set : ℕ) → length queue ≤ i → bit_or set (queued_signals (drop i queue)) ≡ set
signals_end queue i set past = rw (at_drop_all queued_signals queue i past) (or_zero_r set)

-- a realtime signal that the mask does not hold is blocked by a lower one alone
pub blocked-realtime : (signo mask : ℕ) (me : Process) → is_realtime signo ≡ true → is_in_set mask signo ≡ false → me.mask ≡ mask
    → (low : Bool) → low ≡ has_lower signo mask me.queued → low ≡ is_blocked signo me
blocked-realtime signo mask me realtime free same low lower = rw (same, free, realtime) lower

-- a standard signal that is not pending leaves nothing
pub relieved-absent : (signo : ℕ) (view : PendingView) (me : Process) → is_realtime signo ≡ false → is_in_set view.standard signo ≡ false
    → with_pending_part view me ≡ without_delivered signo (with_pending_part view me)
relieved-absent signo view me standard absent =
    rw standard (ap (λ (n : ℕ). record me { pending = n; queued = view.queued }) (without_one-absent view.standard signo absent))

-- to take the first entry of the signal out leaves the other signals' entries
others_step : (b : Bool) (signo : ℕ) (entry : Queued) (entries : List Queued) → eqb entry.signo signo ≡ b → queued_others signo (without_first signo entries) ≡ queued_others signo entries
    → queued_others signo (cond b entries (entry ∷ without_first signo entries)) ≡ cond b (queued_others signo entries) (entry ∷ queued_others signo entries)
others_step true signo entry entries is rest = refl
others_step false signo entry entries is rest = rw is (ap (λ (xs : List Queued). entry ∷ xs) rest)

others_less : (signo : ℕ) (queue : List Queued) → queued_others signo (without_first signo queue) ≡ queued_others signo queue
unfolding without_first
others_less signo [] = refl
others_less signo (entry ∷ entries) = others_step (eqb entry.signo signo) signo entry entries refl (others_less signo entries)

less_when : (signo : ℕ) (queue : List Queued) (found : Option ℕ) (place : ℕ) → found ≡ Some place → IfSome found (λ place. entry_swapped place None queue ≡ without_first signo queue)
    → entry_swapped place None queue ≡ without_first signo queue
less_when signo queue found place is same = rw is at same

pub discard-one : (signo place : ℕ) (queue : List Queued) → place_of signo queue ≡ Some place → queued_others signo (entry_swapped place None queue) ≡ queued_others signo queue
discard-one signo place queue is = ap (queued_others signo) (less_when signo queue (place_of signo queue) place is (place-swapped signo queue)) ∙ others_less signo queue

-- where there is none, all are of other signals
none_step : (b : Bool) (entry : Queued) (entries others : List Queued) (value : Option ℤ) → cond b (Some entry.value) value ≡ None → (value ≡ None → others ≡ entries)
    → cond b others (entry ∷ others) ≡ entry ∷ entries
none_step true entry entries others value none rest = cc
none_step false entry entries others value none rest = ap (λ (xs : List Queued). entry ∷ xs) (rest none)

others_none : (signo : ℕ) (queue : List Queued) → first_value signo queue ≡ None → queued_others signo queue ≡ queue
unfolding first_value
others_none signo [] none = refl
others_none signo (entry ∷ entries) none = none_step (eqb entry.signo signo) entry entries (queued_others signo entries) (first_value signo entries) none (others_none signo entries)

none_found : (queue : List Queued) (found : Option ℕ) (value : Option ℤ) → found ≡ None → IfNone found (value ≡ None) → value ≡ None
none_found queue found value is none = rw is at none

pub discard-none : (signo : ℕ) (queue : List Queued) → place_of signo queue ≡ None → queued_others signo queue ≡ queue
discard-none signo queue is = others_none signo queue (none_found queue (place_of signo queue) (first_value signo queue) is (place-none signo queue))
