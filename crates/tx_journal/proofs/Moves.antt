-- A session that went over an entry, by what leads over it.
use Rattle.std.proofs.Common.{◌≡◌, ◌≢◌, false, true, ℕ, ◌+◌, ◌<◌, List, [], ◌∷◌, ◌++◌, length, length-append, Result, Ok, Err, OnOk, OnErr, sym, ap, subst, ◌∙◌}
use Rattle.std.specs.Prelude.{◌↔◌, vec_capacity, IsErr}
use Rattle.tx_change.specs.declared.change.Change.{Change}
use Rattle.tx_core.specs.Machines.{IsMachine}
use Rattle.tx_core.specs.Undo.{LeadsOn}
use Rattle.tx_journal.proofs.Aheads.{ahead_less, ahead_next, next_ahead, NextAhead}
use Rattle.tx_journal.proofs.Places.{has_last, head_there}
use Rattle.tx_journal.proofs.Walked.{ends_whole, journal_less, journal_made, within}
use Rattle.tx_journal.specs.Crossings.{Crossed, GoesBack, GoesForward}
use Rattle.tx_journal.specs.Sessions.{position_of, session_state, HasRoom, IsAhead, IsJournal, SessionState}
use Rattle.tx_journal.specs.declared.journal.Journal.{Journal}
use Rattle.tx_content.specs.Content.{view_of}
use Rattle.tx_content.specs.declared.content.Content.{Content}
use Rattle.tx_content.specs.declared.inverse.Inverse.{Inverse}
use Rattle.tx_content.specs.declared.undone.Undone.{Undone}

-- what is so of the fields of a session
abbrev pub IsSession : Content → Journal → ℕ → ℕ → Type 0
IsSession machine j width count =
    IsJournal (session_state machine j width count) × HasRoom (session_state machine j width count) (vec_capacity j.entries) j.crossings.room
    × IsAhead (session_state machine j width count) j.crossings.undone j.crossings.stack

-- the journal with other crossings
abbrev pub crossed : Journal → Crossed → Journal
crossed j crossings = record j { crossings = crossings }

module _ (machine : Content) (j : Journal) (width count : ℕ) (is : IsSession machine j width count) where
  abbrev k : SessionState
  k = session_state machine j width count

  -- of these inverses
  abbrev with : Content → List Inverse → SessionState
  with new inverses = record { machine = new; entries = j.entries.items; inverses = inverses; width = width; count = count }

  abbrev IsSessionOf : Content → List Inverse → ℕ → List Undone → List Change → Type 0
  IsSessionOf new inverses room undone stack = IsJournal (with new inverses) × HasRoom (with new inverses) (vec_capacity j.entries) room × IsAhead (with new inverses) undone stack

  back_by : IsMachine machine → (new : Content) (crossings : Crossed) (rest : List Inverse) (inverse : Inverse) → j.crossings.inverses ≡ rest ++ inverse ∷ [] → GoesBack machine j.crossings new crossings rest inverse →
      IsSession new (crossed j crossings) width count
  back_by is_machine new crossings rest inverse parts goes =
      subst (λ (xs : List Inverse). IsSessionOf new xs crossings.room crossings.undone crossings.stack) (sym goes.inverses)
      (subst (λ (n : ℕ). IsSessionOf new rest n crossings.undone crossings.stack) (sym goes.room) (
        journal_less k is.0 rest inverse parts new goes.back,
        record { entries = is.1.entries; inverses = is.1.inverses },
        ahead_less k is.0 rest inverse parts new j.crossings.undone crossings.undone j.crossings.stack crossings.stack is_machine is.2 (goes.kept (ends_whole k is.0 rest inverse parts)),
      ))

  pub went_back : {T E : Type 0} → IsMachine machine → (r : Result T E) (new : Content) (crossings : Crossed) → IsErr r ↔ (j.crossings.inverses ≡ []) →
      OnOk r ((rest : List Inverse) (inverse : Inverse) → j.crossings.inverses ≡ rest ++ inverse ∷ [] → GoesBack machine j.crossings new crossings rest inverse) → OnErr r (crossings ≡ j.crossings) → OnErr r (new ≡ machine) →
      IsSession new (crossed j crossings) width count
  went_back is_machine (Ok x) new crossings start goes same stays =
      let last = has_last j.crossings.inverses (λ none. let clash : false ≡ true = start.1 none in cc) in
      back_by is_machine new crossings last.0 last.1 last.2 (goes last.0 last.1 last.2)
  went_back is_machine (Err x) new crossings start goes same stays =
      subst (λ (c : Content). IsSession c (crossed j crossings) width count) (sym stays) (subst (λ (c : Crossed). IsSession machine (crossed j c) width count) (sym same) is)

  -- by how much
  pub back_moved : {T E : Type 0} (r : Result T E) (new : Content) (crossings : Crossed) → IsErr r ↔ (j.crossings.inverses ≡ []) →
      OnOk r ((rest : List Inverse) (inverse : Inverse) → j.crossings.inverses ≡ rest ++ inverse ∷ [] → GoesBack machine j.crossings new crossings rest inverse) →
      OnOk r (length crossings.inverses + 1 ≡ length j.crossings.inverses)
  back_moved (Ok x) new crossings start goes =
      let last = has_last j.crossings.inverses (λ none. let clash : false ≡ true = start.1 none in cc) in
      let went = goes last.0 last.1 last.2 in
      ap (λ (xs : List Inverse). length xs + 1) went.inverses ∙ sym (ap length last.2 ∙ length-append last.0 (last.1 ∷ []))
  back_moved (Err x) new crossings start goes = tt

  -- what is kept of the next entry leads on
  pub leads_on : (undone : Undone) (rest : List Undone) → j.crossings.undone ≡ undone ∷ rest → LeadsOn machine undone j.crossings.stack
  leads_on undone rest parts =
      let next = next_ahead k j.crossings.undone rest undone j.crossings.stack parts is.2 in
      record { after = next.after; machine = next.machine; rest = next.below; taken = next.taken }

  -- and there is one
  pub before_end : (undone : Undone) (rest : List Undone) → j.crossings.undone ≡ undone ∷ rest → position_of k < length k.entries
  before_end undone rest parts =
      let next = next_ahead k j.crossings.undone rest undone j.crossings.stack parts is.2 in
      within k.entries (position_of k) next.entry next.next

  forward_by : (new : Content) (crossings : Crossed) (undone : Undone) (rest : List Undone) → j.crossings.undone ≡ undone ∷ rest → GoesForward machine j.crossings new crossings undone rest → IsSession new (crossed j crossings) width count
  forward_by new crossings undone rest parts goes =
      let next : NextAhead k undone rest j.crossings.stack = next_ahead k j.crossings.undone rest undone j.crossings.stack parts is.2 in
      let there : new ≡ next.after = goes.made next.after next.below next.taken in
      subst (λ (us : List Undone). IsSessionOf new crossings.inverses crossings.room us crossings.stack) (sym goes.undone)
      (subst (λ (n : ℕ). IsSessionOf new crossings.inverses n rest crossings.stack) (sym goes.room) (
        subst (λ (xs : List Inverse). IsJournal (with new xs)) (sym goes.inverses) (journal_made k is.0 next.entry next.next new goes.inverse (ap view_of there ∙ next.seen) goes.leads goes.undoes goes.whole),
        record { entries = is.1.entries; inverses = is.1.inverses },
        ahead_next k is.0 undone rest j.crossings.stack next new goes.inverse crossings.inverses crossings.stack there goes.inverses (goes.stack ∙ next.taken.below),
      ))

  pub went_forward : {T E : Type 0} (r : Result T E) (new : Content) (crossings : Crossed) → j.crossings.undone ≢ [] →
      OnOk r ((undone : Undone) (rest : List Undone) → j.crossings.undone ≡ undone ∷ rest → GoesForward machine j.crossings new crossings undone rest) → OnErr r (crossings ≡ j.crossings) → OnErr r (new ≡ machine) →
      IsSession new (crossed j crossings) width count
  went_forward (Ok x) new crossings some goes same stays =
      let first = head_there j.crossings.undone some in
      forward_by new crossings first.0 first.1 first.2 (goes first.0 first.1 first.2)
  went_forward (Err x) new crossings some goes same stays =
      subst (λ (c : Content). IsSession c (crossed j crossings) width count) (sym stays) (subst (λ (c : Crossed). IsSession machine (crossed j c) width count) (sym same) is)

  pub forward_moved : (new : Content) (crossings : Crossed) → j.crossings.undone ≢ [] →
      ((undone : Undone) (rest : List Undone) → j.crossings.undone ≡ undone ∷ rest → GoesForward machine j.crossings new crossings undone rest) → length crossings.inverses ≡ length j.crossings.inverses + 1
  forward_moved new crossings some goes =
      let first = head_there j.crossings.undone some in
      let went = goes first.0 first.1 first.2 in
      ap length went.inverses ∙ length-append j.crossings.inverses (went.inverse ∷ [])

  -- where something is kept the session is not at its end
  pub kept_before_end : j.crossings.undone ≢ [] → position_of k < length k.entries
  kept_before_end some = let first = head_there j.crossings.undone some in before_end first.0 first.1 first.2
