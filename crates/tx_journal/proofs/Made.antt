-- The room of a journal as a step is made.
use Rattle.std.proofs.Common.{◌≡◌, ◌+◌, ◌<◌, ◌≤◌, true, [], ◌∷◌, ◌++◌, inl, inr, length, arith, sym, ap, subst, ◌∙◌, length-append}
use Rattle.std.specs.Prelude.{vec_capacity}
use Rattle.tx_base.specs.declared.steps.Reply.{Reply}
use Rattle.tx_base.specs.declared.steps.Step.{Step}
use Rattle.tx_core.specs.Lives.{lives, one_if}
use Rattle.tx_core.specs.Undo.{LeadsBack}
use Rattle.tx_journal.proofs.After.{aborts_is, aborts_was, lives_after}
use Rattle.tx_journal.proofs.Lives.{one_most}
use Rattle.tx_journal.specs.Laws.{SessionLaws}
use Rattle.tx_journal.specs.Lives.{has_place, starter_of}
use Rattle.tx_journal.specs.Rooms.{HasPlaces, IsAdded, IsReady}
use Rattle.tx_journal.specs.declared.entry.Entry.{Entry}
use Rattle.tx_journal.specs.declared.journal.Journal.{Journal}
use Rattle.tx_laws.specs.Fits.{Fits}
use Rattle.tx_laws.specs.Sound.{IsSound}
use Rattle.tx_content.specs.Content.{view_of}
use Rattle.tx_content.specs.declared.content.Content.{Content}
use Rattle.tx_content.specs.declared.inverse.Inverse.{Inverse}
use Rattle.tx_model.specs.Answer.{answer, IsAccepted}
use Rattle.tx_model.specs.Events.{process_of}
use Rattle.tx_model.specs.Membership.{is_live}
use Rattle.tx_model.specs.View.{View, event_on, next, role_on}
use Rattle.tx_step.specs.Steps.{IsStep}

module _ (laws : SessionLaws) (old new : Content) (j : Journal) (step : Step) (reply : Reply) (inverse : Inverse)
    (sound : IsSound (view_of old)) (at_end : length j.crossings.inverses ≡ length j.entries.items) (ready : IsReady (view_of old).table step j) (made : IsStep old step reply inverse new) where
  accepted : IsAccepted (answer (view_of old) step)
  accepted = subst IsAccepted (sym made.answered) made.accepted

  fits : Fits (role_on (view_of old) step) (event_on (view_of old) step) (process_of step) (view_of old)
  fits = (laws.fits (view_of old) step sound accepted).1

  sound_after : IsSound (next (view_of old) step)
  sound_after = laws.next (view_of old) step sound accepted

  -- one more is live after a step at most, and after an abort one less
  bound : lives (next (view_of old) step).table + one_if (is_live (view_of old).table (starter_of (view_of old).table step))
      ≤ lives (view_of old).table + one_if (is_live (next (view_of old) step).table (starter_of (view_of old).table step))
  bound = lives_after (view_of old) step sound sound_after

  more : lives (next (view_of old) step).table ≤ lives (view_of old).table + 1
  more = let less = bound in let most = one_most (is_live (next (view_of old) step).table (starter_of (view_of old).table step)) in omega (arith, less, most)

  less : has_place (view_of old).table step ≡ true → lives (next (view_of old) step).table + 1 ≤ lives (view_of old).table
  less is =
      let few = bound in
      let was : one_if (is_live (view_of old).table (starter_of (view_of old).table step)) ≡ 1 = ap one_if (aborts_was (view_of old) step is fits) in
      let now : one_if (is_live (next (view_of old) step).table (starter_of (view_of old).table step)) ≡ 0 = ap one_if (aborts_is (view_of old) step is) in
      omega (arith, few, was, now)

  -- there is room for its entry, for what takes it back, and for the aborts after it
  places : HasPlaces j (lives (next (view_of old) step).table + 1)
  places = elim ready [
    | inl has ↦ let few = more in let e = has.entries in let i = has.inverses in record { entries = omega (arith, few, e); inverses = omega (arith, few, i) }
    | inr (has, is) ↦ let few = less is in let e = has.entries in let i = has.inverses in record { entries = omega (arith, few, e); inverses = omega (arith, few, i) }
  ]

  pub room_entries : length j.entries.items < vec_capacity j.entries
  room_entries = let e = places.entries in omega (arith, e)

  pub room_inverses : length j.crossings.inverses < j.crossings.room
  room_inverses = let i = places.inverses in omega (arith, i, at_end)

  pub added : (entry : Entry) (after : Journal) → LeadsBack new inverse → after.entries.items ≡ j.entries.items ++ entry ∷ [] → after.crossings.inverses ≡ j.crossings.inverses ++ inverse ∷ [] → after.crossings.undone ≡ [] →
      vec_capacity after.entries ≡ vec_capacity j.entries → after.crossings.room ≡ j.crossings.room → IsAdded old j entry new after
  added entry after leads entries inverses none cap room = record {
    inverse = inverse;
    entries = entries;
    inverses = inverses;
    undone = none;
    leads = leads;
    undoes = made.back;
    whole = made.whole;
    places =
        let longer : length after.entries.items ≡ length j.entries.items + 1 = ap length entries ∙ length-append j.entries.items (entry ∷ []) in
        let seen : lives (view_of new).table ≡ lives (next (view_of old) step).table = ap (λ (V : View). lives V.table) made.next in
        let e = places.entries in
        let i = places.inverses in
        record { entries = omega (arith, longer, seen, e, cap); inverses = omega (arith, longer, seen, i, room) };
  }
