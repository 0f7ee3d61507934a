-- Where the members of each live transaction are.
use Rattle.std.specs.Prelude.{◌≡◌, ℕ, ◌+◌, ◌<◌, ◌≤◌, Bool, true, false, List, length, slice_index, Option, Some, None, nat_eq}
use Rattle.tx_base.specs.declared.marks.Mark.{Mark}

-- whether the mark is one of that starter's transaction
abbrev pub is_of : Option Mark → ℕ → Bool
is_of None starter = false
is_of (Some mark) starter = nat_eq mark.starter.0 starter

-- the number is the first after another that is a member of the starter's transaction, or is past
-- the width if there is none
pub record LeadsOn (width : ℕ) (marks : ℕ → Option Mark) (starter from to : ℕ) : Type 0 where
  pub after : from < to
  pub inside : to ≤ width + 1
  pub member : to ≤ width → is_of (marks to) starter ≡ true
  pub between : (k : ℕ) → from < k → k < to → is_of (marks k) starter ≡ false

-- of the members above a number: for each starter the first, and for each member the next
pub record AreLinkedAbove (low width : ℕ) (marks : ℕ → Option Mark) (firsts nexts : List ℕ)
    : Type 0 where
  pub starters : length firsts ≡ width + 1
  pub numbers : length nexts ≡ width + 1
  pub first : (starter : ℕ) → starter ≤ width
      → LeadsOn width marks starter low (slice_index firsts starter)
  pub next : (number starter : ℕ) → low < number → number ≤ width → starter ≤ width
      → is_of (marks number) starter ≡ true
      → LeadsOn width marks starter number (slice_index nexts number)
