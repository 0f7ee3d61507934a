use Rattle.std.proofs.Common.{◌≡◌, take}
use Rattle.tx_journal.specs.Entries.{history_of}
use Rattle.tx_journal.specs.Noted.{noted_back, notes_in}
use Rattle.tx_content.specs.Content.{view_of}
use Rattle.tx_model.specs.State.{boot_state}
use Rattle.tx_model.specs.View.{view}
use Rattle.tx_journal.proofs.moved.notes_of.Given as goal

abbrev pub invariant-loop-entry : goal.invariant-loop-entry
invariant-loop-entry l = record {
  seen : view_of l.retrace ≡ view (boot_state l.width l.count) (history_of (take l.entry-index l.entries));
  noted : noted_back l.notes.items ≡ notes_in (boot_state l.width l.count) (history_of (take l.entry-index l.entries));
}
