-- The lines of entries, as far as they are appended.
use Rattle.std.proofs.Common.{◌≡◌, ℕ, suc, ◌+◌, ◌<◌, ◌≤◌, List, ◌∷◌, ◌++◌, drop, get_or, length, sym, ap, ◌∙◌, add-one, drop-cons}
use Rattle.std.proofs.lemmas.List.{append-nil}
use Rattle.std.proofs.Math.ListN.{drop_of_length-le}
use Rattle.tx_journal.specs.declared.entry.Entry.{Entry}
use Rattle.tx_script.proofs.JsonLined.{line_after}
use Rattle.tx_script.specs.JsonLines.{line_of, text_of}
use Rattle.tx_script.specs.JsonRuns.{entry_line, entry_lines}

-- so far: the lines of the entries that are left lead from the text so far to the whole
abbrev pub EntriesSoFar : List Entry → List ℕ → List ℕ → ℕ → Type 0
EntriesSoFar entries before text i = before ++ text_of (entry_lines 1 entries) ≡ text ++ text_of (entry_lines (i + 1) (drop i entries))

pub one_entry_more : (entries : List Entry) (i : ℕ) (entry : Entry) (before text more : List ℕ) → i < length entries → entry ≡ get_or entries i entry → EntriesSoFar entries before text i
    → more ≡ text ++ line_of (entry_line (i + 1) entry) → EntriesSoFar entries before more (i + 1)
unfolding text_of entry_lines
one_entry_more entries i entry before text more within is so put =
    let cut : drop i entries ≡ entry ∷ drop (i + 1) entries =
    drop-cons entries i entry within
    ∙ ap (λ (x : Entry). x ∷ drop (suc i) entries) (sym is)
    ∙ ap (λ (n : ℕ). entry ∷ drop n entries) (sym (add-one i)) in
    so
    ∙ ap (λ (xs : List Entry). text ++ text_of (entry_lines (i + 1) xs)) cut
    ∙ line_after text (line_of (entry_line (i + 1) entry)) (text_of (entry_lines (i + 1 + 1) (drop (i + 1) entries))) more put

pub all_entries : (entries : List Entry) (i : ℕ) (before text : List ℕ) → length entries ≤ i → EntriesSoFar entries before text i → text ≡ before ++ text_of (entry_lines 1 entries)
unfolding text_of entry_lines
all_entries entries i before text past so =
    sym (so ∙ ap (λ (xs : List Entry). text ++ text_of (entry_lines (i + 1) xs)) (drop_of_length-le entries past) ∙ append-nil text)
