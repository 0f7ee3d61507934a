-- What is answered for an entry, by the notes of the steps up to it.
use Rattle.std.proofs.Common.{arith, ◌≡◌, ℕ, suc, ◌-◌, ◌≤◌, Bool, not, ◌&&◌, List, [], ◌∷◌, ◌++◌, Some, None, length, option_map, reverse, take, sym, ap, ◌∙◌}
use Rattle.std.proofs.lemmas.List.{length-take-le}
use Rattle.tx_journal.proofs.Noting.{moved_noted, moved_unnoted, notes_length, moving_with}
use Rattle.tx_journal.proofs.Parting.{back_more, back_none}
use Rattle.tx_journal.proofs.Walked.{history_length}
use Rattle.tx_journal.specs.Entries.{history_of}
use Rattle.tx_journal.specs.Moved.{moved_at, numbers_above, moving_in}
use Rattle.tx_journal.specs.Noted.{commit_of, is_silent_by, noted_back, notes_in, parted_by}
use Rattle.tx_journal.specs.Sessions.{SessionState, start_of}
use Rattle.tx_journal.specs.declared.entry.Entry.{Entry}
use Rattle.tx_journal.specs.declared.moved.Moved.{Moved}
use Rattle.tx_model.specs.State.{boot_state}
use Rattle.tx_journal.specs.Notes.{Noted, noted}
use Rattle.tx_journal.specs.declared.notes.Note.{Note}

-- the first entries, as a slice names them
pub front : (n : ℕ) (entries : List Entry) → take (n - 0) entries ≡ take n entries
front n entries = let whole : n - 0 ≡ n = omega arith in ap (λ (m : ℕ). take m entries) whole

module _ (k : SessionState) (number : ℕ) (few : number ≤ length k.entries) (width count : ℕ) (wide : width ≡ k.width) (some : count ≡ k.count) (first : List Entry) (is : first ≡ take number k.entries) (notes : List Note)
    (are : noted_back notes ≡ notes_in (boot_state width count) (history_of first)) where
  seen : noted_back notes ≡ notes_in (start_of k) (history_of (take number k.entries))
  seen = are ∙ (λ j. notes_in (boot_state (wide j) (some j)) (history_of (is j)))

  pub moving_empty : length notes ≡ 0 → None ≡ moved_at (start_of k) (history_of k.entries) number
  moving_empty none = sym (moved_unnoted (start_of k) k.entries number few (sym (back_none notes none) ∙ seen))

  module _ (earlier : List Note) (last : Note) (parts : notes ≡ earlier ++ last ∷ []) where
    split : noted last ∷ noted_back earlier ≡ notes_in (start_of k) (history_of (take number k.entries))
    split = sym (back_more notes earlier last parts) ∙ seen

    moving_is : option_map (moving_with (length k.entries - number) (noted last) (noted_back earlier)) (commit_of (noted last)) ≡ moved_at (start_of k) (history_of k.entries) number
    moving_is = moved_noted (start_of k) k.entries number few (noted last) (noted_back earlier) split

    place : suc (length (noted_back earlier)) ≡ number
    place = ap (λ (ns : List Noted). length ns) split ∙ notes_length (start_of k) (history_of (take number k.entries)) ∙ history_length (take number k.entries) ∙ length-take-le number k.entries few

    pub moving_other : None ≡ commit_of (noted last) → None ≡ moved_at (start_of k) (history_of k.entries) number
    moving_other other = ap (option_map (moving_with (length k.entries - number) (noted last) (noted_back earlier))) other ∙ moving_is

    pub moving_commit : (s len : ℕ) (own others : List ℕ) (silent : Bool) (m : Moved) → Some s ≡ commit_of (noted last) → len ≡ length k.entries →
        own ≡ (parted_by s (noted_back earlier)).own → others ≡ (parted_by s (noted_back earlier)).others → silent ≡ is_silent_by s (noted_back earlier) →
        m.entries.items ≡ reverse (numbers_above number (len - number) ++ number ∷ own ++ others) → m.one_moment ≡ (not last.reveals && silent) →
        Some (moving_in m) ≡ moved_at (start_of k) (history_of k.entries) number
    moving_commit s len own others silent m commits all mine theirs quiet items one = grind (arith, place, moving_is)
