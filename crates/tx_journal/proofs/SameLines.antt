-- The pieces that have the same lines after a step.
use Rattle.std.proofs.Common.{◌≡◌, ◌≢◌, ℕ, Bool, true, false, List, [], Option, if◌then◌else◌, nat_le, refl, sym, ap, ◌∙◌, eq-eqb, arith}
use Rattle.tx_base.specs.declared.marks.Mark.{Mark}
use Rattle.tx_base.specs.declared.steps.Step.{Step}
use Rattle.tx_journal.proofs.Unreached.{held_stays, marks_there, objects_stay}
use Rattle.tx_journal.specs.Lives.{starter_of}
use Rattle.tx_journal.specs.Pieces.{piece_text}
use Rattle.tx_journal.specs.Reach.{is_reached, may_change, own_mark}
use Rattle.tx_journal.specs.ReachLaws.{ReachLaws}
use Rattle.tx_journal.specs.declared.pieces.Piece.{Piece}
use Rattle.tx_journal.specs.declared.pieces.Piece.TheVariants as pieces
use Rattle.tx_laws.specs.Sound.{IsSound}
use Rattle.tx_model.specs.Answer.{answer, IsAccepted}
use Rattle.tx_model.specs.State.{Sending, Proc, Desc, Pipe}
use Rattle.tx_model.specs.View.{View, next, present}
use Rattle.tx_state_text.specs.Descriptors.{desc_line, pipe_line}
use Rattle.tx_state_text.specs.Pieces.{fd_of, ids_of, page_of, pending_of, queue_of}
use Rattle.tx_state_text.specs.Processes.{process_lines}
use Rattle.tx_state_text.specs.Txns.{mark_text, members_text, txn_lines}

mark_own : (width : ℕ) (marks : ℕ → Option Mark) (s : ℕ) (sends : List Sending) (mark : Option Mark) → mark_text width marks s sends (own_mark s mark) ≡ mark_text width marks s sends mark
mark_own width marks s sends mark = grind arith

module _ (width s : ℕ) (one other : ℕ → Option Mark) (same : (n : ℕ) → own_mark s (one n) ≡ own_mark s (other n)) where
  members_same : (ended : Bool) → members_text width one s ended ≡ members_text width other s ended
  members_same ended = grind arith

  mark_same : (sends : List Sending) (mark : Option Mark) → mark_text width one s sends mark ≡ mark_text width other s sends mark
  mark_same sends mark = grind (arith, members_same)

  pub txn_same : (one_held other_held : ℕ → List Sending) → one_held s ≡ other_held s → txn_lines width one one_held s ≡ txn_lines width other other_held s
  txn_same one_held other_held held = grind (arith, mark_own, mark_same)

next_width : (V : View) (step : Step) → (next V step).table.width ≡ V.table.width
unfolding next
next_width V step = refl

module _ (laws : ReachLaws) (V : View) (step : Step) (sound : IsSound V) (accepted : IsAccepted (answer V step)) where
  same_process : (n : ℕ) → may_change V step (Proc n) ≡ false → (present V).procs n ≡ (present (next V step)).procs n
  same_process n unreached = sym (objects_stay laws V step (Proc n) sound accepted refl unreached)

  -- a piece that a step may not change has the same lines after it
  pub same_lines : (piece : Piece) → is_reached V step piece ≡ false → piece_text piece V ≡ piece_text piece (next V step)
  same_lines (pieces.Proc p) unreached = ap (process_lines p.0) (same_process p.0 unreached)
  same_lines (pieces.Page p number) unreached = ap (page_of number) (same_process p.0 unreached)
  same_lines (pieces.Fd p fd) unreached = ap (fd_of fd) (same_process p.0 unreached)
  same_lines (pieces.Pending p) unreached = ap pending_of (same_process p.0 unreached)
  same_lines (pieces.Queue p) unreached = ap queue_of (same_process p.0 unreached)
  same_lines (pieces.Ids p) unreached = ap ids_of (same_process p.0 unreached)
  same_lines (pieces.Desc number) unreached = ap (desc_line number.0) (sym (objects_stay laws V step (Desc number.0) sound accepted refl unreached))
  same_lines (pieces.Pipe number) unreached = ap (pipe_line number.0) (sym (objects_stay laws V step (Pipe number.0) sound accepted refl unreached))
  same_lines (pieces.Txn starter) unreached =
      let other : starter.0 ≢ starter_of V.table step = λ same. absurd (true_false (sym (eq-eqb starter.0 (starter_of V.table step) same) ∙ unreached)) in
      let W : View = next V step in
      let txn : txn_lines V.table.width V.table.marks (present V).held starter.0 ≡ txn_lines V.table.width W.table.marks (present W).held starter.0 =
      txn_same V.table.width starter.0 V.table.marks W.table.marks (λ n. sym (marks_there laws V step starter.0 sound accepted other n)) (present V).held (present W).held (sym (held_stays laws V step starter.0 sound accepted other)) in
      ap (λ (t : List ℕ). if nat_le starter.0 V.table.width then t else []) txn
      ∙ ap (λ (width : ℕ). if nat_le starter.0 width then txn_lines width W.table.marks (present W).held starter.0 else []) (sym (next_width V step))
    where
      true_false : true ≡ false → ⊥
      true_false e = cc
