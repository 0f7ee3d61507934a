-- What makes the entries of a session again that were taken back.
use Rattle.std.proofs.Common.{◌≡◌, ℕ, ◌+◌, ◌<◌, ◌≤◌, List, [], ◌∷◌, ◌++◌, length, length-append, map, reverse, take, drop, get_or, Some, None, slice_get, ◌⊎◌, inl, inr, Bool, true, false, Result, OnOk, OnErr, arith, refl, sym, ap, subst, ◌∙◌}
use Rattle.std.proofs.lemmas.List.{drop_all, drop_more}
use Rattle.std.proofs.lemmas.Option.{slice_get_cases}
use Rattle.tx_base.specs.declared.steps.Accepted.{Accepted}
use Rattle.tx_change.specs.declared.change.Change.{Change}
use Rattle.tx_core.specs.Machines.{IsMachine}
use Rattle.tx_journal.proofs.Extended.{walks_view}
use Rattle.tx_journal.proofs.Walked.{fewer, history_to, next_history}
use Rattle.tx_journal.specs.Entries.{accepted_of, history_of}
use Rattle.tx_journal.specs.Rooms.{IsAdded, SameRecord}
use Rattle.tx_journal.specs.Sessions.{later_of, made_of, position_of, start_of, IsAhead, IsAtEnd, IsJournal, SessionState}
use Rattle.tx_journal.specs.Walks.{WalksOn}
use Rattle.tx_journal.specs.declared.entry.Entry.{Entry}
use Rattle.tx_journal.specs.declared.journal.Journal.{Journal}
use Rattle.tx_content.specs.Content.{view_of}
use Rattle.tx_content.specs.Redone.{IsTakenBack}
use Rattle.tx_content.specs.declared.content.Content.{Content}
use Rattle.tx_content.specs.declared.inverse.Inverse.{Inverse}
use Rattle.tx_content.specs.declared.undone.Undone.{Undone}
use Rattle.tx_model.specs.State.{State}
use Rattle.tx_model.specs.View.{view}

-- nothing is kept
pub nothing_ahead : (k : SessionState) (undone : List Undone) (stack : List Change) → undone ≡ [] → IsAhead k undone stack
unfolding WalksOn
nothing_ahead k undone stack none = subst (λ (us : List Undone). WalksOn (start_of k) k.machine us stack (history_of (made_of k)) (later_of k)) (sym none) tt

none_on : (start : State) (k : Content) (undone : List Undone) (stack : List Change) (made : List Accepted) → WalksOn start k undone stack made [] → undone ≡ []
unfolding WalksOn
none_on start k [] stack made walks = refl
none_on start k (u ∷ us) stack made walks = absurd walks

-- at the end of the journal nothing is
pub none_at_end : (k : SessionState) (undone : List Undone) (stack : List Change) → IsAtEnd k → IsAhead k undone stack → undone ≡ []
none_at_end k undone stack at_end ahead = grind (arith, drop_all, none_on)

-- nor after a step there
pub none_after : (machine : Content) (j : Journal) (entry : Entry) (new : Content) (after : Journal) (made : Bool) → j.crossings.undone ≡ [] → (made ≡ true → IsAdded machine j entry new after) → (made ≡ false → SameRecord after j) →
    after.crossings.undone ≡ []
none_after machine j entry new after made none added stays = grind arith

pub none_answered : {T E : Type 0} (machine : Content) (j : Journal) (entry : Entry) (new : Content) (after : Journal) (r : Result T E) → j.crossings.undone ≡ [] → OnOk r (IsAdded machine j entry new after) → OnErr r (after ≡ j) →
    after.crossings.undone ≡ []
none_answered machine j entry new after r none added stays = grind arith

-- the next entry, and what what makes it again leads to
pub record NextAhead (k : SessionState) (undone : Undone) (rest : List Undone) (stack : List Change) : Type 0 where
  pub entry : Entry
  pub next : Some entry ≡ slice_get k.entries (position_of k)
  pub after : Content
  pub below : List Change
  pub machine : IsMachine after
  pub seen : view_of after ≡ view (start_of k) (accepted_of entry ∷ history_of (made_of k))
  pub taken : IsTakenBack k.machine undone stack after below
  pub on : WalksOn (start_of k) after rest below (accepted_of entry ∷ history_of (made_of k)) (map accepted_of (drop (position_of k + 1) k.entries))

pub next_ahead : (k : SessionState) (undone rest : List Undone) (last : Undone) (stack : List Change) → undone ≡ last ∷ rest → IsAhead k undone stack → NextAhead k last rest stack
unfolding WalksOn
next_ahead k undone rest last stack is ahead = by (slice_get_cases k.entries (position_of k)).1
  where
    first : WalksOn (start_of k) k.machine (last ∷ rest) stack (history_of (made_of k)) (later_of k)
    first = subst (λ (us : List Undone). WalksOn (start_of k) k.machine us stack (history_of (made_of k)) (later_of k)) is ahead

    by : ((x : Entry) × (position_of k < length k.entries) × (slice_get k.entries (position_of k) ≡ Some x) × (get_or k.entries (position_of k) x ≡ x)) ⊎ ((length k.entries ≤ position_of k) × (slice_get k.entries (position_of k) ≡ None)) →
        NextAhead k last rest stack
    by (inl (x, under, at, same)) =
        let later : later_of k ≡ accepted_of x ∷ map accepted_of (drop (position_of k + 1) k.entries)
        = ap (map accepted_of) (drop_more k.entries (position_of k) x under ∙ ap (λ (e : Entry). e ∷ drop (position_of k + 1) k.entries) same) in
        let found = subst (WalksOn (start_of k) k.machine (last ∷ rest) stack (history_of (made_of k))) later first in
        record { entry = x; next = sym at; after = found.0; below = found.1; machine = found.2; seen = found.3; taken = found.4; on = found.5 }
    by (inr (past, none)) = absurd (subst (WalksOn (start_of k) k.machine (last ∷ rest) stack (history_of (made_of k))) (ap (map accepted_of) (drop_all (position_of k) k.entries past)) first)

-- a session that made the next entry again
pub ahead_next : (k : SessionState) → IsJournal k → (last : Undone) (rest : List Undone) (stack : List Change) (next : NextAhead k last rest stack) (new : Content) (inverse : Inverse) (now : List Inverse) (left : List Change) →
    new ≡ next.after → now ≡ k.inverses ++ inverse ∷ [] → left ≡ next.below → IsAhead (record { machine = new; entries = k.entries; inverses = now; width = k.width; count = k.count }) rest left
ahead_next k is last rest stack next new inverse now left new_is now_is left_is = grind (arith, length-append, next_history)

-- a session that went back by an entry
module _ (k : SessionState) (is : IsJournal k) (before : List Inverse) (inverse : Inverse) (parts : k.inverses ≡ before ++ inverse ∷ []) (new : Content) where
  abbrev fewer_made : SessionState
  fewer_made = record { machine = new; entries = k.entries; inverses = before; width = k.width; count = k.count }

  pub ahead_less : (undone now : List Undone) (stack left : List Change) → IsMachine k.machine → IsAhead k undone stack →
      ((now ≡ []) ⊎ ((u : Undone) × (now ≡ u ∷ undone) × IsTakenBack new u left k.machine stack)) → IsAhead fewer_made now left
  unfolding WalksOn
  ahead_less undone now stack left machine ahead (inl none) = nothing_ahead fewer_made now left none
  ahead_less undone now stack left machine ahead (inr (u, more, taken)) = by k.entries refl
    where
      by : (entries : List Entry) → entries ≡ k.entries → IsAhead fewer_made now left
      by [] none = let f = fewer k is before inverse parts in let few = is.few in let no : length k.entries ≡ 0 = ap length (sym none) in absurd (omega (arith, f, few, no))
      by (d ∷ entries) some =
          let n : ℕ = length before in
          let position : position_of k ≡ n + 1 = fewer k is before inverse parts in
          let under : n < length k.entries = let few = is.few in omega (arith, position, few) in
          let e : Entry = get_or k.entries n d in
          let made : history_of (made_of k) ≡ accepted_of e ∷ history_of (take n k.entries) = ap (λ (m : ℕ). history_of (take m k.entries)) position ∙ history_to k.entries n d under in
          let seen : view_of k.machine ≡ view (start_of k) (accepted_of e ∷ history_of (take n k.entries))
          = walks_view (start_of k) k.machine (reverse k.inverses) (history_of (made_of k)) is.walks ∙ ap (view (start_of k)) made in
          let on : WalksOn (start_of k) k.machine undone stack (accepted_of e ∷ history_of (take n k.entries)) (map accepted_of (drop (n + 1) k.entries))
          = subst (λ (h : List Accepted). WalksOn (start_of k) k.machine undone stack h (map accepted_of (drop (n + 1) k.entries))) made
          (subst (λ (m : ℕ). WalksOn (start_of k) k.machine undone stack (history_of (made_of k)) (map accepted_of (drop m k.entries))) position ahead) in
          subst (λ (us : List Undone). WalksOn (start_of k) new us left (history_of (take n k.entries)) (map accepted_of (drop n k.entries))) (sym more)
          (subst (λ (es : List Entry). WalksOn (start_of k) new (u ∷ undone) left (history_of (take n k.entries)) (map accepted_of es)) (sym (drop_more k.entries n d under))
          (k.machine, stack, machine, seen, taken, on))
