-- The entries before a commit, parted from the newest on.
use Rattle.std.proofs.Common.{◌≡◌, ℕ, suc, ◌+◌, ◌-◌, ◌<◌, ◌≤◌, Bool, true, false, not, ◌&&◌, List, [], ◌∷◌, ◌++◌, length, map, reverse, if◌then◌else◌, arith, refl, sym, ap, ◌∙◌, length-append}
use Rattle.std.proofs.lemmas.List.{append_assoc, append-nil, length-map, length-reverse, map-append, reverse-append}
use Rattle.tx_journal.specs.Moved.{Numbers, numbers_above, with_other_number, with_own_number}
use Rattle.tx_journal.specs.Noted.{begins_its, is_silent_by, is_starter, noted_back, parted_by}
use Rattle.tx_journal.specs.Notes.{noted}
use Rattle.tx_journal.specs.declared.notes.Note.{Note}

-- one number less to come
pub above_more : (n from : ℕ) → n < from → numbers_above n (from - n) ≡ from ∷ numbers_above n (from - 1 - n)
unfolding numbers_above
above_more n from h = grind arith

pub above_none : (n from : ℕ) → from ≤ n → numbers_above n (from - n) ≡ []
unfolding numbers_above
above_none n from h = let none : from - n ≡ 0 = omega (arith, h) in ap (numbers_above n) none

-- a number that was added is no more to come
pub pushed : (acc new : List ℕ) (x : ℕ) (rest whole target : List ℕ) → new ≡ acc ++ x ∷ [] → whole ≡ x ∷ rest → acc ++ whole ≡ target → new ++ rest ≡ target
pushed acc new x rest whole target added parts is = grind (arith, append_assoc)

pub unpushed : (acc whole target : List ℕ) → whole ≡ [] → acc ++ whole ≡ target → acc ≡ target
unpushed acc whole target none is = sym (append-nil acc) ∙ ap (λ (xs : List ℕ). acc ++ xs) (sym none) ∙ is

-- the notes of no step, and of one more
pub back_none : (left : List Note) → length left ≡ 0 → noted_back left ≡ []
back_none [] none = refl
back_none (n ∷ left) none = absurd (omega (arith, none))

pub back_more : (left earlier : List Note) (n : Note) → left ≡ earlier ++ n ∷ [] → noted_back left ≡ noted n ∷ noted_back earlier
back_more left earlier n parts = ap noted_back parts ∙ ap reverse (map-append noted earlier (n ∷ [])) ∙ reverse-append (map noted earlier) (noted n ∷ [])

pub back_length : (notes : List Note) → length (noted_back notes) ≡ length notes
back_length notes = length-reverse (map noted notes) ∙ length-map notes noted

pub parted_none : (s : ℕ) (left : List Note) → length left ≡ 0 → parted_by s (noted_back left) ≡ record { own = []; others = [] }
unfolding parted_by
parted_none s left none = ap (parted_by s) (back_none left none)

pub silent_none : (s : ℕ) (left : List Note) → length left ≡ 0 → is_silent_by s (noted_back left) ≡ true
unfolding is_silent_by
silent_none s left none = ap (is_silent_by s) (back_none left none)

module _ (s : ℕ) (left earlier : List Note) (n : Note) (parts : left ≡ earlier ++ n ∷ []) where
  abbrev rest : Numbers
  rest = parted_by s (noted_back earlier)

  count : suc (length (noted_back earlier)) ≡ length left
  count = let a : length (noted_back earlier) ≡ length earlier = back_length earlier in let b : length left ≡ length earlier + 1 = ap length parts ∙ length-append earlier (n ∷ []) in omega (arith, a, b)

  -- the next entry is the first one of the transaction
  pub parted_first : begins_its s (noted n) ≡ true → parted_by s (noted_back left) ≡ record { own = length left ∷ []; others = numbers_above 0 (length earlier) }
  unfolding parted_by
  parted_first begins = grind (arith, back_length, back_more, count)

  -- it is of the transaction
  pub parted_own : begins_its s (noted n) ≡ false → is_starter s (noted n).starter ≡ true → parted_by s (noted_back left) ≡ with_own_number (length left) rest
  unfolding parted_by
  parted_own begins own = grind (arith, back_more, count)

  -- it is another one
  pub parted_other : begins_its s (noted n) ≡ false → is_starter s (noted n).starter ≡ false → parted_by s (noted_back left) ≡ with_other_number (length left) rest
  unfolding parted_by
  parted_other begins other = grind (arith, back_more, count)

  -- whether one reveals the moment
  abbrev silent : Bool
  silent = is_silent_by s (noted_back earlier)

  pub silent_first : begins_its s (noted n) ≡ true → is_silent_by s (noted_back left) ≡ true
  unfolding is_silent_by
  silent_first begins =
      ap (is_silent_by s) (back_more left earlier n parts)
      ∙ (λ j. if begins j then true else (if is_starter s (noted n).starter then not n.reveals && silent else silent))

  pub silent_own : begins_its s (noted n) ≡ false → is_starter s (noted n).starter ≡ true → is_silent_by s (noted_back left) ≡ (not n.reveals && silent)
  unfolding is_silent_by
  silent_own begins own = grind (arith, back_more)

  pub silent_other : begins_its s (noted n) ≡ false → is_starter s (noted n).starter ≡ false → is_silent_by s (noted_back left) ≡ silent
  unfolding is_silent_by
  silent_other begins other = grind (arith, back_more)

-- tests in turn
pub and_true : (a b whole : Bool) → b ≡ true → (a && b) ≡ whole → a ≡ whole
and_true a b whole so is = grind arith

pub and_more : (a b after whole : Bool) → a ≡ true → b ≡ after → (a && b) ≡ whole → after ≡ whole
and_more a b after whole so parts is = grind arith

pub and_past : (a b after whole : Bool) → a ≡ false → (a && b) ≡ whole → (a && after) ≡ whole
and_past a b after whole so is = grind arith
