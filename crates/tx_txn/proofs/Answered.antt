-- Doom, two answers and who is in the way, by what is kept.
use Rattle.std.proofs.Common.{◌≡◌, ℕ, Bool, true, false, length, Option, Some, None, is_some, if◌then◌else◌, refl, sym, ap, ap₂, ◌∙◌}
use Rattle.tx_laws.specs.TwoAnswers.{owns_named, sends_differ, states_in_way}
use Rattle.tx_laws.specs.TwoStates.{states_view}
use Rattle.tx_model.specs.Events.{Event, actor, effect, objects}
use Rattle.tx_model.specs.Membership.{is_live, is_member_of}
use Rattle.tx_model.specs.SignalSets.{kill_signo, is_in_set}
use Rattle.tx_model.specs.State.{Process, Proc, has_object}
use Rattle.tx_model.specs.View.{has_pending, has_two_answers, starter_in_way, in_way, is_doomed, least}
use Rattle.tx_signal.specs.Parts.{PendingView}
use Rattle.tx_txn.specs.Content.{Txn, LogKernel, IsKept, kept_of, two_states_of, starter_differs, stands_in_way}
use Rattle.tx_txn.specs.Faces.{Face, face_of, pending_in, faces_differ, running}
use Rattle.tx_txn.specs.Laws.{RoleLaws}
use Rattle.tx_txn.proofs.Owned.{kept_pending, live_txn}
use Rattle.tx_txn.proofs.Posted.{differs_faces, queued_in}

pending_there : (signo : ℕ) (x : Option Process) (face : Face) → face_of x ≡ Some face → has_pending signo x ≡ is_in_set (pending_in x).standard signo
pending_there signo None face h = cc
pending_there signo (Some q) face h = refl

module _ (laws : RoleLaws) (c : LogKernel) (k : IsKept c) where
  pub doom_pending : (s : ℕ) (t : Txn) → c.txns s ≡ Some t → is_doomed (states_view (two_states_of c)) s ≡ is_in_set t.pending.standard kill_signo
  doom_pending s t e =
      laws.doom (two_states_of c) s k.sound (live_txn c k s t e)
      ∙ pending_there kill_signo ((kept_of c).procs s) (running t.ids) (k.starter s t e)
      ∙ ap (λ (P : PendingView). is_in_set P.standard kill_signo) (kept_pending c k s t e)

  -- whether sends to the starter differ, its faces tell
  sends_faces : (ev : Event) (s : ℕ) (t : Txn) → c.txns s ≡ Some t → sends_differ (two_states_of c) ev s ≡ starter_differs c ev s t
  sends_faces ev s t e =
      differs_faces s (effect ev c.now).sends (c.now.procs s) ((kept_of c).procs s)
      ∙ ap₂ (λ (f : Option Face) (P : PendingView). faces_differ s (effect ev c.now).sends (face_of (c.now.procs s)) (queued_in (c.now.procs s)) f (length P.queued))
      (k.starter s t e) (kept_pending c k s t e)

  pub two_answers_faces : (ev : Event) (s : ℕ) (t : Txn) → c.txns s ≡ Some t → has_object (Proc s) (objects ev c.now) ≡ false
      → has_two_answers (states_view (two_states_of c)) ev s ≡ starter_differs c ev s t
  two_answers_faces ev s t e out = laws.two_answers (two_states_of c) ev s k.sound (live_txn c k s t e) out ∙ sends_faces ev s t e

  way_faces : (ev : Event) (s : ℕ) → states_in_way (two_states_of c) ev s ≡ stands_in_way c ev s (c.txns s)
  way_faces ev s = by (c.txns s) refl
    where
      by : (x : Option Txn) → c.txns s ≡ x → states_in_way (two_states_of c) ev s ≡ stands_in_way c ev s x
      by None e = let dead : is_live c.table s ≡ false = sym (k.live s) ∙ ap is_some e in rw dead refl
      by (Some t) e =
          let live : is_live c.table s ≡ true = live_txn c k s t e in
          rw live (ap (λ (d : Bool). if is_member_of c.table s (actor ev) then false else (if owns_named (two_states_of c) ev s then true else d)) (sends_faces ev s t e))

  pub in_way_faces : (ev : Event) (s : ℕ) → in_way (states_view (two_states_of c)) ev s ≡ stands_in_way c ev s (c.txns s)
  in_way_faces ev s = laws.in_way (two_states_of c) ev s k.sound ∙ way_faces ev s

  pub starter_in_way_faces : (ev : Event) → starter_in_way (states_view (two_states_of c)) ev ≡ least (λ s. stands_in_way c ev s (c.txns s)) c.table.width
  starter_in_way_faces ev = laws.starter_in_way (two_states_of c) ev k.sound ∙ ap (λ (P : ℕ → Bool). least P c.table.width) (λ i s. way_faces ev s i)
