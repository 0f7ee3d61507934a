-- What lies under the lock after a turn.
use Rattle.std.proofs.Common.{◌≡◌, ℕ, ◌+◌, ◌-◌, ◌≤◌, ◌++◌, List, Option, Some, length, All, drop, take, arith, ap, sym, subst, ◌∙◌, length-append}
use Rattle.std.proofs.Math.Seq.{drop-append_seam, take-append_seam}
use Rattle.tx_journal.specs.Entries.{history_of}
use Rattle.tx_journal.specs.Sessions.{start_of, IsAtEnd, SessionState, SameBoot}
use Rattle.tx_journal.specs.declared.entry.Entry.{Entry}
use Rattle.tx_content.specs.Content.{view_of}
use Rattle.tx_model.specs.State.{boot_state}
use Rattle.tx_model.specs.View.{view, View}
use Rattle.tx_lines.specs.declared.programs.Program.{Program}
use Rattle.tx_workers.proofs.Grown.{grown_more, one_is_few, turn_is_named, turn_is_one}
use Rattle.tx_workers.specs.Desks.{IsDesk}
use Rattle.tx_workers.specs.Histories.{view_after}
use Rattle.tx_workers.specs.Tops.{HasTop, IsWithin}
use Rattle.tx_workers.specs.Turns.{adds_by_next}

-- the entries that a turn adds there
abbrev pub added_by : Program → SessionState → ℕ → Option ℕ → List Entry
added_by program session worker next = adds_by_next program.instructions.items (view_of session.machine) worker next

-- after a turn whose entries are counted, the same is so
pub desk_turned : (run : Option Program) (given : Option SessionState) (program : Program) (old new : SessionState) (worker : ℕ) (next : Option ℕ) (total count : ℕ) → IsDesk run given old total
    → run ≡ Some program → view_of old.machine ≡ view_after (start_of old) old.entries → new.entries ≡ old.entries ++ added_by program old worker next → SameBoot new old → IsAtEnd new
    → count ≡ total + (length new.entries - length old.entries) → IsDesk run given new count
desk_turned run given program old new worker next total count desk is after entries boot at_end counted = record {
  at_end = at_end;
  grown = λ other start is_run is_given.
      let so = desk.grown program start is is_given in
      let V : View = view_of old.machine in
      let adds : List Entry = added_by program old worker next in
      let from_start : V ≡ view_after (start_of start) old.entries = after ∙ (λ j. view (boot_state (so.boot.width j) (so.boot.count j)) (history_of old.entries)) in
      let sum : count ≡ total + length adds = omega (arith, counted, ap length entries, length-append old.entries adds) in
      let same : other ≡ program = cc in
      rw same
      (grown_more program.instructions.items start old new adds total count so (turn_is_named program.instructions.items (start_of start) old.entries V worker next from_start) entries
      boot sum);
}

-- after a turn the session has one entry more at most
pub few_entries : (program : Program) (session new : SessionState) (worker : ℕ) (next : Option ℕ) → new.entries ≡ session.entries ++ added_by program session worker next
    → length new.entries ≤ length session.entries + 1
few_entries program session new worker next entries =
    let adds : List Entry = added_by program session worker next in
    let few : length adds ≤ 1 = one_is_few worker adds (turn_is_one program.instructions.items (view_of session.machine) worker next) in
    omega (arith, few, ap length entries, length-append session.entries adds)

-- the entries that were there are the first ones
pub front_within : (top count : ℕ) (session new : SessionState) (adds : List Entry) → HasTop top session → new.entries ≡ session.entries ++ adds → count ≡ length session.entries
    → All (λ entry. IsWithin top entry.step) (take count new.entries)
front_within top count session new adds has entries is =
    subst (All (λ entry. IsWithin top entry.step)) (sym (ap (take count) entries ∙ (λ j. take (is j) (session.entries ++ adds)) ∙ take-append_seam session.entries adds)) has.made

-- what was added are the last ones
pub last_added : (count : ℕ) (session new : SessionState) (adds : List Entry) → new.entries ≡ session.entries ++ adds → count ≡ length session.entries → drop count new.entries ≡ adds
last_added count session new adds entries is = ap (drop count) entries ∙ (λ j. drop (is j) (session.entries ++ adds)) ∙ drop-append_seam session.entries adds
