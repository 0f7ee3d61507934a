-- A session as it boots, and what its readers say.
use Rattle.std.proofs.Common.{◌≡◌, ℕ, zero, suc, ◌≤◌, [], List, length, arith, ap, refl}
use Rattle.tx_core.specs.Lives.{lives, lives_to}
use Rattle.tx_core.specs.Machines.{IsWidth}
use Rattle.tx_journal.specs.Entries.{history_of}
use Rattle.tx_journal.specs.Sessions.{HasRoom, IsJournal, session_state}
use Rattle.tx_journal.specs.Walks.{WalksBack}
use Rattle.tx_journal.specs.declared.journal.Journal.{Journal}
use Rattle.tx_content.specs.Content.{view_of}
use Rattle.tx_content.specs.declared.content.Content.{Content}
use Rattle.tx_content.specs.declared.inverse.Inverse.{Inverse}
use Rattle.tx_journal.specs.declared.entry.Entry.{Entry}
use Rattle.tx_model.specs.Answer.{Lawful}
use Rattle.tx_model.specs.History.{table_of}
use Rattle.tx_model.specs.Membership.{empty_table}
use Rattle.tx_model.specs.State.{boot_state}
use Rattle.tx_model.specs.View.{view}

none_live : (width n : ℕ) → lives_to (empty_table width) n ≡ 0
unfolding lives_to
none_live width zero = refl
none_live width (suc n) = let rest : lives_to (empty_table width) n ≡ 0 = none_live width n in omega (arith, rest)

module _ (machine : Content) (width count : ℕ) where
  starts : (es : List Entry) → es ≡ [] → (is : List Inverse) → is ≡ [] → 1 ≤ count → count ≤ width → IsWidth width → view_of machine ≡ view (boot_state width count) [] →
      IsJournal (record { machine = machine; entries = es; inverses = is; width = width; count = count })
  unfolding Lawful WalksBack
  starts es none is nothing low high wide seen = grind arith

  none_at_start : (es : List Entry) → es ≡ [] → lives (table_of (boot_state width count) (history_of es)) ≡ 0
  unfolding table_of
  none_at_start es none = grind (arith, none_live)

  pub journal_starts : (j : Journal) → j.entries.items ≡ [] → j.crossings.inverses ≡ [] → 1 ≤ count → count ≤ width → IsWidth width → view_of machine ≡ view (boot_state width count) [] →
      IsJournal (session_state machine j width count)
  journal_starts j entries inverses low high wide seen = starts j.entries.items entries j.crossings.inverses inverses low high wide seen

  pub room_starts : (j : Journal) → j.entries.items ≡ [] → (room places : ℕ) → HasRoom (session_state machine j width count) room places
  room_starts j entries room places =
      let none = none_at_start j.entries.items entries in
      let long : length j.entries.items ≡ 0 = ap length entries in
      record { entries = omega (arith, none, long); inverses = omega (arith, none, long) }
