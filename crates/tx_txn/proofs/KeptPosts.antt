-- Posts to what is kept, and back.
use Rattle.std.proofs.Common.{◌≡◌, ◌<◌, ◌≤◌, ℕ, ℤ, Bool, true, false, not, ◌&&◌, List, [], ◌∷◌, ◌++◌, length, nat_lt, nat_le, if◌then◌else◌, Option, Some, None, Result, Ok, Err, refl, ap, sym, ◌∙◌, arith}
use Rattle.std.proofs.lemmas.Bool.{le-leb, ltb-true}
use Rattle.std.proofs.Math.Nat.{le_refl}
use Rattle.tx_base.specs.Signals.{bits_of}
use Rattle.tx_base.specs.declared.errors.Errno.{Errno}
use Rattle.tx_base.specs.declared.errors.Errno.TheVariants.{TryAgain}
use Rattle.tx_base.specs.declared.limits.TheConstants.{QUEUED}
use Rattle.tx_base.specs.declared.signals.SigSet.{SigSet}
use Rattle.tx_model.specs.Posts.{is_quiet, is_realtime, may_signal, target_after, with_signal}
use Rattle.tx_model.specs.Words.{with_pending, with_queued}
use Rattle.tx_model.specs.State.{Process, Queued, Sender, Sending, booted_process}
use Rattle.tx_signal.specs.Entries.{entry_given, entry_swapped}
use Rattle.tx_cred.specs.Cred.{ids_of}
use Rattle.tx_txn.proofs.Posted.{pending_received}
use Rattle.tx_txn.specs.Faces.{pending_after, pending_in, running}
use Rattle.tx_txn.specs.KeptParts.{kept_as}
use Rattle.tx_txn.specs.declared.kept.Kept.{Kept}
use Rattle.tx_signal.specs.Parts.{PendingView, post_result, sending_of, with_pending_part}

-- a post that gets through is the signal's
pub reached : (m : Sending) (q after : Process) → true ≡ (may_signal m.from q.ids && not (is_quiet m q)) → with_signal m q ≡ after → target_after m (Some q) ≡ Some after
reached m q after through does = ap Some (by (may_signal m.from q.ids) (is_quiet m q) through ∙ does)
  where
    by : (permitted quiet : Bool) → true ≡ (permitted && not quiet) → (if permitted then (if quiet then q else with_signal m q) else q) ≡ with_signal m q
    by true false e = refl
    by true true e = cc
    by false quiet e = cc

-- any other changes nothing
pub stopped : (m : Sending) (q : Process) → false ≡ (may_signal m.from q.ids && not (is_quiet m q)) → target_after m (Some q) ≡ Some q
stopped m q through = ap Some (by (may_signal m.from q.ids) (is_quiet m q) through)
  where
    by : (permitted quiet : Bool) → false ≡ (permitted && not quiet) → (if permitted then (if quiet then q else with_signal m q) else q) ≡ q
    by true false e = cc
    by true true e = refl
    by false quiet e = refl

-- the posting rule, on what is pending alone
abbrev pub Posts : ℕ → ℤ → PendingView → PendingView → Type 0
Posts signo value old new = (target : ℕ) (from : Option Sender) (me : Process) → with_signal (sending_of signo value target from) (with_pending_part old me) ≡ with_pending_part new me

abbrev done_as : Result (Unit {0}) Errno
done_as = Ok tt

has_room_for : (signo : ℕ) (old : PendingView) → is_realtime signo ≡ true → done_as ≡ post_result signo old → nat_lt (length old.queued) QUEUED ≡ true
has_room_for signo old realtime done = by (is_realtime signo) (nat_lt (length old.queued) QUEUED) realtime done
  where
    by : (b room : Bool) → b ≡ true → done_as ≡ (if b then (if room then done_as else Err TryAgain) else done_as) → room ≡ true
    by true true e d = refl
    by true false e d = cc
    by false room e d = cc

abbrev no_entry : Option Queued
no_entry = None

-- a realtime signal that was put last in the queue is taken out again
pub back_queued : ((place : ℕ) (entry : Option Queued) (queue : List Queued) → length queue ≤ QUEUED → entry_swapped place (entry_given place entry queue) (entry_swapped place entry queue) ≡ queue) →
    (signo : ℕ) (value : ℤ) (old new : PendingView) (place : ℕ) → is_realtime signo ≡ true → done_as ≡ post_result signo old → Posts signo value old new → place ≡ length old.queued →
    ((entry : Queued) → length old.queued < QUEUED → entry_swapped place (Some entry) old.queued ≡ old.queued ++ entry ∷ []) →
    record new { queued = entry_swapped place None new.queued } ≡ old
back_queued twice signo value old new place realtime done posts last_one puts =
    let entry : Queued = record { signo = signo; value = value } in
    let room : nat_lt (length old.queued) QUEUED ≡ true = has_room_for signo old realtime done in
    let few : length old.queued < QUEUED = ltb-true (length old.queued) QUEUED room in
    let after : with_queued (sending_of signo value 0 None) (with_pending_part old (booted_process 1)) ≡ with_pending_part new (booted_process 1)
    = sym (by (is_realtime signo) (nat_lt (length old.queued) QUEUED) realtime room) ∙ posts 0 None (booted_process 1) in
    let queue : old.queued ++ entry ∷ [] ≡ new.queued = ap (λ (q : Process). q.queued) after in
    let out : entry_given place (Some entry) old.queued ≡ None = given (nat_le place (length old.queued)) (nat_lt (length old.queued) QUEUED) (ap (λ (n : ℕ). nat_le n (length old.queued)) last_one ∙ le-leb (length old.queued) (length old.queued) (le_refl (length old.queued))) room in
    let back : entry_swapped place None new.queued ≡ old.queued
    = ap (entry_swapped place None) (sym queue ∙ sym (puts entry few))
    ∙ ap (λ (x : Option Queued). entry_swapped place x (entry_swapped place (Some entry) old.queued)) (sym out)
    ∙ twice place (Some entry) old.queued (omega (arith, few)) in
    (λ i. record { standard = sym (ap (λ (q : Process). q.pending) after) i; queued = back i })
  where
    by : (b room : Bool) → b ≡ true → room ≡ true →
        (if b then (if room then with_queued (sending_of signo value 0 None) (with_pending_part old (booted_process 1)) else with_pending_part old (booted_process 1))
        else with_pending signo (with_pending_part old (booted_process 1))) ≡ with_queued (sending_of signo value 0 None) (with_pending_part old (booted_process 1))
    by true true e f = refl
    by true false e f = cc
    by false room e f = cc

    given : (below room : Bool) → below ≡ true → room ≡ true → (if (if below then room else false) then no_entry else Some (record { signo = signo; value = value })) ≡ no_entry
    given true true e f = refl
    given true false e f = cc
    given false room e f = cc

-- a standard signal that was made pending is as it was
pub back_standard : (signo : ℕ) (value : ℤ) (old new : PendingView) (set : SigSet) → is_realtime signo ≡ false → Posts signo value old new → bits_of set ≡ old.standard →
    record new { standard = bits_of set } ≡ old
back_standard signo value old new set standard posts was =
    let after : with_pending signo (with_pending_part old (booted_process 1)) ≡ with_pending_part new (booted_process 1)
    = sym (by (is_realtime signo) (nat_lt (length old.queued) QUEUED) standard) ∙ posts 0 None (booted_process 1) in
    (λ i. record { standard = was i; queued = sym (ap (λ (q : Process). q.queued) after) i })
  where
    by : (b room : Bool) → b ≡ false →
        (if b then (if room then with_queued (sending_of signo value 0 None) (with_pending_part old (booted_process 1)) else with_pending_part old (booted_process 1))
        else with_pending signo (with_pending_part old (booted_process 1))) ≡ with_pending signo (with_pending_part old (booted_process 1))
    by false room e = refl
    by true room e = cc

-- what is pending after a post at what is kept
pub kept_pending : (m : Sending) (old new : Kept) (me : Process) → target_after m (Some (kept_as old me)) ≡ Some (kept_as new me) →
    new.pending ≡ pending_after m (Some (running (ids_of old.ids))) old.pending
kept_pending m old new me receives = sym (ap pending_in receives) ∙ pending_received m (Some (kept_as old me))
