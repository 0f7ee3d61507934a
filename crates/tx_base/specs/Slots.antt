-- Numbered slots: number n has the place n - 1 of the list, and number 0 has none.
use Rattle.std.specs.Prelude.{ℕ, zero, suc, ◌-◌, List, Option, None, slice_index_or, slice_set}

-- what is in the slot of a number
abbrev pub slot_at : {A : Type 0} → List (Option A) → ℕ → Option A
slot_at slots zero = None
slot_at slots (suc n) = slice_index_or slots n None

-- the table with the slot of a number replaced
abbrev pub with_slot : {A : Type 0} → List (Option A) → ℕ → Option A → List (Option A)
with_slot slots n slot = slice_set slots (n - 1) slot
