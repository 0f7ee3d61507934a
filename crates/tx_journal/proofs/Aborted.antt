-- The kernel's abort, which has its place from the sys_xbegin.
use Rattle.std.proofs.Common.{◌≡◌, ℕ, ◌<◌, ◌++◌, ◌∷◌, [], length, inr, refl}
use Rattle.std.specs.Prelude.{vec_capacity}
use Rattle.tx_base.specs.declared.names.Pid.{Pid}
use Rattle.tx_base.specs.declared.steps.Reply.TheVariants.{Aborted}
use Rattle.tx_base.specs.declared.steps.Step.TheVariants.{KernelAbort}
use Rattle.tx_core.specs.Undo.{LeadsBack}
use Rattle.tx_journal.proofs.Made.{added, room_entries, room_inverses}
use Rattle.tx_journal.specs.Laws.{SessionLaws}
use Rattle.tx_journal.specs.Rooms.{HasAbortPlaces, IsAdded, IsReady}
use Rattle.tx_journal.specs.declared.entry.Entry.{Entry}
use Rattle.tx_journal.specs.declared.journal.Journal.{Journal}
use Rattle.tx_laws.specs.Sound.{IsSound}
use Rattle.tx_content.specs.Content.{view_of}
use Rattle.tx_content.specs.declared.content.Content.{Content}
use Rattle.tx_content.specs.declared.inverse.Inverse.{Inverse}
use Rattle.tx_step.specs.Steps.{IsStep}

module _ (laws : SessionLaws) (old new : Content) (j : Journal) (starter : Pid) (status : ℕ) (inverse : Inverse)
    (sound : IsSound (view_of old)) (at_end : length j.crossings.inverses ≡ length j.entries.items) (places : HasAbortPlaces old j)
    (made : IsStep old (KernelAbort starter) (Aborted status) inverse new) where
  ready : IsReady (view_of old).table (KernelAbort starter) j
  ready = inr (places, refl)

  pub abort_room_entries : length j.entries.items < vec_capacity j.entries
  abort_room_entries = room_entries laws old new j (KernelAbort starter) (Aborted status) inverse sound at_end ready made

  pub abort_room_inverses : length j.crossings.inverses < j.crossings.room
  abort_room_inverses = room_inverses laws old new j (KernelAbort starter) (Aborted status) inverse sound at_end ready made

  pub abort_added : (entry : Entry) (after : Journal) → LeadsBack new inverse → after.entries.items ≡ j.entries.items ++ entry ∷ [] → after.crossings.inverses ≡ j.crossings.inverses ++ inverse ∷ [] → after.crossings.undone ≡ [] →
      vec_capacity after.entries ≡ vec_capacity j.entries → after.crossings.room ≡ j.crossings.room → IsAdded old j entry new after
  abort_added = added laws old new j (KernelAbort starter) (Aborted status) inverse sound at_end ready made
