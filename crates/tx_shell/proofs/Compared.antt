-- The states at two positions.
use Rattle.std.proofs.Common.{◌≡◌, arith, ℕ, Bool, false, List, [], ◌++◌, if◌then◌else◌, sym, subst, ap, ◌∙◌, take}
use Rattle.tx_base.specs.declared.steps.Accepted.{Accepted}
use Rattle.tx_journal.specs.Entries.{history_of}
use Rattle.tx_journal.specs.Rows.{lines_of, state_pieces}
use Rattle.tx_journal.specs.Sessions.{SameJournal, SessionState, made_of, position_of, start_of}
use Rattle.tx_journal.specs.declared.pieces.Piece.{Piece}
use Rattle.tx_model.specs.State.{boot_state}
use Rattle.tx_model.specs.View.{View, view}
use Rattle.tx_script.specs.Debug.{view_at}
use Rattle.tx_shell.proofs.Differed.{pairs_say}
use Rattle.tx_shell.proofs.Listed.{history_to}
use Rattle.tx_shell.specs.Comparisons.{are_there, compared_at, IsAmong}
use Rattle.tx_shell.specs.Differences.{all_differing, piece_differing, views_differing}
use Rattle.tx_state_text.specs.Each.{each_text}

-- what a session shows that went to a position
pub shown_there : (first now : SessionState) (at : ℕ) → SameJournal now first → position_of now ≡ at → view (start_of now) (history_of (made_of now)) ≡ view_at (start_of first) (history_of first.entries) at
shown_there first now at journal there =
    (λ i. view (boot_state (journal.boot.width i) (journal.boot.count i)) (history_of (take (there i) (journal.entries i))))
    ∙ ap (λ (h : List Accepted). view (start_of first) h) (history_to at first.entries)

-- where the lines of all pieces are put down, they say how the states differ
pub states_said : (V W : View) (found one two : List Piece) (before after : List (List ℕ)) (none report : List ℕ) → found ≡ state_pieces V.table.width → one ≡ found → two ≡ found → before ≡ lines_of one V → after ≡ lines_of two W →
    none ≡ [] → report ≡ none ++ all_differing before after → report ≡ views_differing V W
states_said V W found one two before after none report are first second was is blank put =
    put
    ∙ (λ i. blank i ++ all_differing (was i) (is i))
    ∙ (λ i. all_differing (lines_of (first i) V) (lines_of (second i) W))
    ∙ pairs_say V W found
    ∙ ap (each_text (piece_differing V W)) are

-- where one of two positions is not there, the old one stays
pub among_missing : (history : List Accepted) (from to old at : ℕ) → are_there history from to ≡ false → at ≡ old → IsAmong old (compared_at history from to old from) (compared_at history from to old to) at
among_missing history from to old at missing stays =
    subst (λ (b : Bool). IsAmong old (if b then from else old) (if b then to else old) at) (sym missing) (record { least = omega (arith, stays); greatest = omega (arith, stays) })

-- one that went on from there
pub same_journals : (first next last : SessionState) → SameJournal next first → SameJournal last next → SameJournal last first
same_journals first next last one two = record {
  entries = two.entries ∙ one.entries;
  boot = record { width = two.boot.width ∙ one.boot.width; count = two.boot.count ∙ one.boot.count };
}
