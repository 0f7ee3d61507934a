-- What a session keeps after a step.
use Rattle.std.proofs.Common.{◌≡◌, ℕ, ◌∷◌, Bool, true, false, List, Result, OnOk, OnErr, sym, ap, subst, ◌∙◌, arith}
use Rattle.std.specs.Prelude.{vec_capacity}
use Rattle.tx_base.specs.declared.steps.Accepted.{Accepted}
use Rattle.tx_core.specs.Lives.{lives}
use Rattle.tx_journal.proofs.Extended.{history_more, journal_more, more, seen_at_end}
use Rattle.tx_journal.specs.Entries.{accepted_of, history_of}
use Rattle.tx_journal.specs.Laws.{SessionLaws}
use Rattle.tx_journal.specs.Rooms.{HasAbortPlaces, HasPlaces, IsAdded, SameRecord}
use Rattle.tx_journal.specs.Sessions.{HasRoom, IsAtEnd, IsJournal, SessionState, session_state, start_of}
use Rattle.tx_journal.specs.declared.entry.Entry.{Entry}
use Rattle.tx_journal.specs.declared.journal.Journal.{Journal}
use Rattle.tx_laws.specs.Sound.{IsSound}
use Rattle.tx_content.specs.Content.{view_of}
use Rattle.tx_content.specs.declared.content.Content.{Content}
use Rattle.tx_model.specs.Answer.{Lawful}
use Rattle.tx_model.specs.History.{table_of}
use Rattle.tx_model.specs.Membership.{Table}
use Rattle.tx_model.specs.State.{State, boot_state}
use Rattle.tx_model.specs.View.{View, view}

-- the room of a session, by its machine's view
abbrev pub IsKeptSo : Content → Journal → ℕ → ℕ → Type 0
IsKeptSo machine j width count = IsJournal (session_state machine j width count) × HasRoom (session_state machine j width count) (vec_capacity j.entries) j.crossings.room

table_seen : (k : SessionState) → view_of k.machine ≡ view (start_of k) (history_of k.entries) → (view_of k.machine).table ≡ table_of (start_of k) (history_of k.entries)
unfolding view
table_seen k seen = ap (λ (V : View). V.table) seen

-- where it has the view of its entries, there is room for the aborts after them
room_there : (new : Content) (after : Journal) (width count : ℕ) → view_of new ≡ view (boot_state width count) (history_of after.entries.items) → HasAbortPlaces new after →
    HasRoom (session_state new after width count) (vec_capacity after.entries) after.crossings.room
room_there new after width count there places =
    let has : HasPlaces after (lives (table_of (boot_state width count) (history_of after.entries.items)))
    = subst (λ (t : Table). HasPlaces after (lives t)) (table_seen (session_state new after width count) there) places in
    record { entries = has.entries; inverses = has.inverses }

module _ (laws : SessionLaws) (machine : Content) (j : Journal) (width count : ℕ) (is : IsKeptSo machine j width count) (at_end : IsAtEnd (session_state machine j width count)) where
  seen : view_of machine ≡ view (boot_state width count) (history_of j.entries.items)
  seen = seen_at_end (session_state machine j width count) is.0 at_end

  pub sound_now : IsSound (view_of machine)
  sound_now = subst IsSound (sym seen) (laws.sound (boot_state width count) (history_of j.entries.items) is.0.lawful)

  pub places_now : HasAbortPlaces machine j
  places_now = subst (λ (t : Table). HasPlaces j (lives t)) (sym (table_seen (session_state machine j width count) seen)) (record { entries = is.1.entries; inverses = is.1.inverses })

  -- where nothing was added
  pub kept_same : (new : Content) (after : Journal) → new ≡ machine → SameRecord after j → HasAbortPlaces machine after → IsKeptSo new after width count
  kept_same new after same stays places =
      let alike : session_state machine j width count ≡ session_state new after width count
      = λ i. record { machine = sym same i; entries = sym stays.entries i; inverses = sym stays.crossings.inverses i; width = width; count = count } in
      let there : view_of new ≡ view (boot_state width count) (history_of after.entries.items)
      = ap view_of same ∙ seen ∙ ap (λ (es : List Entry). view (boot_state width count) (history_of es)) (sym stays.entries) in
      (subst IsJournal alike is.0, room_there new after width count there (subst (λ (k : Content). HasAbortPlaces k after) (sym same) places))

  -- where an entry was added
  pub kept_more : (entry : Entry) (new : Content) (after : Journal) → IsAdded machine j entry new after →
      ((start : State) (earlier : List Accepted) → Lawful start earlier → view_of machine ≡ view start earlier → Lawful start (accepted_of entry ∷ earlier) × (view_of new ≡ view start (accepted_of entry ∷ earlier))) →
      IsKeptSo new after width count
  kept_more entry new after added along =
      let next = along (boot_state width count) (history_of j.entries.items) is.0.lawful seen in
      let same : more (session_state machine j width count) entry added.inverse new ≡ session_state new after width count
      = λ i. record { machine = new; entries = sym added.entries i; inverses = sym added.inverses i; width = width; count = count } in
      let there : view_of new ≡ view (boot_state width count) (history_of after.entries.items)
      = next.1 ∙ ap (view (boot_state width count)) (sym (history_more j.entries.items entry) ∙ ap history_of (sym added.entries)) in (
        subst IsJournal same (journal_more (session_state machine j width count) entry added.inverse new is.0 at_end next.0 next.1 added.leads added.undoes added.whole),
        room_there new after width count there added.places,
      )

  -- whichever
  pub kept_after : (entry : Entry) (new : Content) (after : Journal) (made : Bool) → (made ≡ true → IsAdded machine j entry new after) → (made ≡ false → new ≡ machine) → (made ≡ false → SameRecord after j) →
      (made ≡ false → HasAbortPlaces machine after) →
      (made ≡ true → (start : State) (earlier : List Accepted) → Lawful start earlier → view_of machine ≡ view start earlier → Lawful start (accepted_of entry ∷ earlier) × (view_of new ≡ view start (accepted_of entry ∷ earlier))) →
      IsKeptSo new after width count
  kept_after entry new after made added same stays places along = grind (arith, kept_more, kept_same)

  -- the same, as it is answered
  pub kept_answered : {T E : Type 0} (entry : Entry) (new : Content) (after : Journal) (r : Result T E) → OnOk r (IsAdded machine j entry new after) → OnErr r (new ≡ machine) → OnErr r (after ≡ j) →
      OnOk r ((start : State) (earlier : List Accepted) → Lawful start earlier → view_of machine ≡ view start earlier → Lawful start (accepted_of entry ∷ earlier) × (view_of new ≡ view start (accepted_of entry ∷ earlier))) →
      IsKeptSo new after width count
  kept_answered entry new after r added same stays along = grind (arith, kept_more)
