-- The newest step before which an object was not reserved, as far as it is sought.
use Rattle.std.proofs.Common.{◌≡◌, ◌⊎◌, inl, inr, ℕ, suc, ◌+◌, ◌<◌, ◌≤◌, Bool, true, false, List, [], ◌∷◌, Option, Some, None, length, reverse, take, get_or, slice_get, if◌then◌else◌, arith, sym, ap, ◌∙◌, add-one}
use Rattle.std.proofs.lemmas.List.{length-take-le, reverse-append, take_more}
use Rattle.std.proofs.lemmas.Option.{slice_get_cases}
use Rattle.tx_journal.proofs.Walked.{history_length, history_to}
use Rattle.tx_journal.specs.Entries.{accepted_of, history_of}
use Rattle.tx_journal.specs.Since.{comes_first, newest_first, Numbered}
use Rattle.tx_model.specs.State.{Object}
use Rattle.tx_journal.specs.declared.entry.Entry.{Entry}
use Rattle.tx_content.specs.declared.inverse.Inverse.{Inverse}

-- what is at a place
pub there : {X : Type 0} (xs : List X) (i : ℕ) → i < length xs → (x : X) × (slice_get xs i ≡ Some x) × (get_or xs i x ≡ x)
there {X} xs i under = by (slice_get_cases xs i).1
  where
    by : ((x : X) × (i < length xs) × (slice_get xs i ≡ Some x) × (get_or xs i x ≡ x)) ⊎ ((length xs ≤ i) × (slice_get xs i ≡ None)) → (x : X) × (slice_get xs i ≡ Some x) × (get_or xs i x ≡ x)
    by (inl found) = (found.0, found.2, found.3)
    by (inr past) = let beyond = past.0 in absurd (omega (arith, under, beyond))

module _ (s : ℕ) (o : Object) (inverses : List Inverse) (entries : List Entry) (i : ℕ) (found : Option Numbered) (inverse : Inverse) (entry : Entry) (inside : i < length inverses) (few : length inverses ≤ length entries)
    (inverse_is : get_or inverses i inverse ≡ inverse) (entry_is : get_or entries i entry ≡ entry) (so_far : found ≡ newest_first s o (reverse (take i inverses)) (history_of (take i entries))) where
  one_more : reverse (take (i + 1) inverses) ≡ inverse ∷ reverse (take i inverses)
  one_more = ap reverse (take_more inverses i inverse inside) ∙ reverse-append (take i inverses) (get_or inverses i inverse ∷ []) ∙ ap (λ (it : Inverse). it ∷ reverse (take i inverses)) inverse_is

  step_more : history_of (take (i + 1) entries) ≡ accepted_of entry ∷ history_of (take i entries)
  step_more = history_to entries i entry (omega (arith, inside, few)) ∙ ap (λ (it : Entry). accepted_of it ∷ history_of (take i entries)) entry_is

  count : suc (length (history_of (take i entries))) ≡ i + 1
  count = ap suc (history_length (take i entries) ∙ length-take-le i entries (omega (arith, inside, few))) ∙ sym (add-one i)

  newest_then : newest_first s o (reverse (take (i + 1) inverses)) (history_of (take (i + 1) entries)) ≡ (if comes_first s o inverse then Some (record { number = i + 1; step = entry.step }) else found)
  unfolding newest_first
  newest_then = (λ j. newest_first s o (one_more j) (step_more j)) ∙ (λ j. if comes_first s o inverse then Some (record { number = count j; step = entry.step }) else sym so_far j)

  pub one_newer : comes_first s o inverse ≡ true → Some (record { number = i + 1; step = entry.step }) ≡ newest_first s o (reverse (take (i + 1) inverses)) (history_of (take (i + 1) entries))
  one_newer first = sym (newest_then ∙ ap (λ (b : Bool). if b then Some (record { number = i + 1; step = entry.step }) else found) first)

  pub none_newer : comes_first s o inverse ≡ false → found ≡ newest_first s o (reverse (take (i + 1) inverses)) (history_of (take (i + 1) entries))
  none_newer later = sym (newest_then ∙ ap (λ (b : Bool). if b then Some (record { number = i + 1; step = entry.step }) else found) later)
