-- A journal with one more entry.
use Rattle.std.proofs.Common.{◌≡◌, ℕ, ◌+◌, List, [], ◌∷◌, ◌++◌, length, map, reverse, take, arith, sym, ap, subst, ◌∙◌, length-append}
use Rattle.std.proofs.lemmas.List.{map-append, reverse-append, take_all}
use Rattle.tx_base.specs.declared.steps.Accepted.{Accepted}
use Rattle.tx_core.specs.Undo.{LeadsBack}
use Rattle.tx_journal.specs.Entries.{accepted_of, history_of}
use Rattle.tx_journal.specs.Sessions.{SessionState, IsAtEnd, IsJournal, made_of, position_of, start_of}
use Rattle.tx_journal.specs.Walks.{WalksBack}
use Rattle.tx_journal.specs.declared.entry.Entry.{Entry}
use Rattle.tx_content.specs.Content.{view_of}
use Rattle.tx_content.specs.Inverses.{Undoes}
use Rattle.tx_content.specs.Redone.{EndsWhole}
use Rattle.tx_content.specs.declared.content.Content.{Content}
use Rattle.tx_content.specs.declared.inverse.Inverse.{Inverse}
use Rattle.tx_model.specs.Answer.{Lawful}
use Rattle.tx_model.specs.State.{State}
use Rattle.tx_model.specs.View.{view}

-- what can be walked back has the view of its history
pub walks_view : (start : State) (k : Content) (inverses : List Inverse) (h : List Accepted) → WalksBack start k inverses h → view_of k ≡ view start h
unfolding WalksBack
walks_view start k [] [] walks = walks
walks_view start k [] (e ∷ h) walks = absurd walks
walks_view start k (inverse ∷ inverses) [] walks = absurd walks
walks_view start k (inverse ∷ inverses) (e ∷ h) walks = walks.0

-- the history of one more entry
pub history_more : (entries : List Entry) (e : Entry) → history_of (entries ++ e ∷ []) ≡ accepted_of e ∷ history_of entries
history_more entries e = ap reverse (map-append accepted_of entries (e ∷ [])) ∙ reverse-append (map accepted_of entries) (accepted_of e ∷ [])

take_whole : {X : Type 0} (n : ℕ) (xs : List X) → n ≡ length xs → take n xs ≡ xs
take_whole n xs same = take_all n xs (omega (arith, same))

-- at its end all entries are made
pub all_made : (k : SessionState) → IsAtEnd k → made_of k ≡ k.entries
all_made k at_end = take_whole (position_of k) k.entries at_end

pub seen_at_end : (k : SessionState) → IsJournal k → IsAtEnd k → view_of k.machine ≡ view (start_of k) (history_of k.entries)
seen_at_end k is at_end = walks_view (start_of k) k.machine (reverse k.inverses) (history_of (made_of k)) is.walks ∙ ap (λ (es : List Entry). view (start_of k) (history_of es)) (all_made k at_end)

module _ (k : SessionState) (e : Entry) (inverse : Inverse) (new : Content) where
  abbrev pub more : SessionState
  more = record { machine = new; entries = k.entries ++ e ∷ []; inverses = k.inverses ++ inverse ∷ []; width = k.width; count = k.count }

  pub more_at_end : IsAtEnd k → IsAtEnd more
  more_at_end at_end = length-append k.inverses (inverse ∷ []) ∙ ap (λ (n : ℕ). n + 1) at_end ∙ sym (length-append k.entries (e ∷ []))

  pub journal_more : IsJournal k → IsAtEnd k → Lawful (start_of k) (accepted_of e ∷ history_of k.entries) → view_of new ≡ view (start_of k) (accepted_of e ∷ history_of k.entries) →
      LeadsBack new inverse → Undoes new inverse k.machine → EndsWhole new inverse → IsJournal more
  unfolding WalksBack
  journal_more is at_end lawful seen leads undoes whole_end = record {
    low = is.low;
    high = is.high;
    wide = is.wide;
    few = omega (arith, more_at_end at_end);
    lawful = subst (Lawful (start_of k)) (sym (history_more k.entries e)) lawful;
    walks = subst (λ (h : List Accepted). WalksBack (start_of k) new (reverse (k.inverses ++ inverse ∷ [])) h) (sym whole) walked;
  }
    where
      whole : history_of (made_of more) ≡ accepted_of e ∷ history_of k.entries
      whole = ap history_of (all_made more (more_at_end at_end)) ∙ history_more k.entries e

      before : WalksBack (start_of k) k.machine (reverse k.inverses) (history_of k.entries)
      before = subst (λ (es : List Entry). WalksBack (start_of k) k.machine (reverse k.inverses) (history_of es)) (all_made k at_end) is.walks

      first : WalksBack (start_of k) new (inverse ∷ reverse k.inverses) (accepted_of e ∷ history_of k.entries)
      first = (seen, leads, (k.machine, undoes, before), whole_end)

      walked : WalksBack (start_of k) new (reverse (k.inverses ++ inverse ∷ [])) (accepted_of e ∷ history_of k.entries)
      walked = subst (λ (xs : List Inverse). WalksBack (start_of k) new xs (accepted_of e ∷ history_of k.entries)) (sym (reverse-append k.inverses (inverse ∷ []))) first
