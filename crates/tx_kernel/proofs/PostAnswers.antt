-- What posts come to, by their answers.
use Rattle.std.proofs.Common.{◌≡◌, ◌<◌, Bool, true, false, ℤ, pos, negsuc, length, if◌then◌else◌, Some, refl, ap, sym, subst}
use Rattle.std.proofs.lemmas.Bool.{ltb-true}
use Rattle.tx_base.specs.declared.errors.Errno.{Errno}
use Rattle.tx_base.specs.declared.errors.Errno.TheVariants.{NotPermitted, NoSuchProcess, BadDescriptor, NoChild, TryAgain, BadAddress, InvalidArgument, TooManyDescriptors, BrokenPipe}
use Rattle.tx_base.specs.declared.limits.TheConstants.{QUEUED}
use Rattle.tx_model.specs.Numbers.{error_answer}
use Rattle.tx_model.specs.Posts.{is_quiet, is_realtime, may_signal, has_room, with_signal, room_answer, post_answer, target_after}
use Rattle.tx_model.specs.Words.{with_pending, with_queued}
use Rattle.tx_model.specs.State.{Process, Sending}

-- an error is not 0
abbrev IsError : ℤ → Type 0
IsError (pos n) = ⊥
IsError (negsuc n) = Unit {0}

errors : (errno : Errno) → IsError (error_answer errno)
errors NotPermitted = tt
errors NoSuchProcess = tt
errors BadDescriptor = tt
errors NoChild = tt
errors TryAgain = tt
errors BadAddress = tt
errors InvalidArgument = tt
errors TooManyDescriptors = tt
errors BrokenPipe = tt

abbrev IsAnswer : ℤ → Type 0
IsAnswer (pos n) = Unit {0}
IsAnswer (negsuc n) = ⊥

abbrev IsYes : Bool → Type 0
IsYes true = Unit {0}
IsYes false = ⊥

true_false : true ≡ false → ⊥
true_false e = subst IsYes e tt

-- a post that is answered with an error leaves its target
pub error_leaves : (m : Sending) (q : Process) (errno : Errno) → error_answer errno ≡ post_answer m (Some q) → target_after m (Some q) ≡ Some q
error_leaves m q errno answer = ap Some (by (may_signal m.from q.ids) (is_quiet m q) (is_realtime m.signo) (has_room q) (subst IsError answer (errors errno)))
  where
    by : (permitted quiet realtime room : Bool) →
        IsError (if permitted then (if quiet then pos 0 else (if realtime then (if room then pos 0 else negsuc 10) else pos 0)) else negsuc 0) →
        (if permitted then (if quiet then q else (if realtime then (if room then with_queued m q else q) else with_pending m.signo q)) else q) ≡ q
    by false quiet realtime room error = refl
    by true true realtime room error = refl
    by true false true false error = refl
    by true false true true error = absurd error
    by true false false room error = absurd error

-- and so does a quiet one
pub quiet_leaves : (m : Sending) (q : Process) → is_quiet m q ≡ true → target_after m (Some q) ≡ Some q
quiet_leaves m q quiet = ap Some (by (may_signal m.from q.ids) (is_quiet m q) quiet)
  where
    by : (permitted b : Bool) → b ≡ true → (if permitted then (if b then q else with_signal m q) else q) ≡ q
    by false b e = refl
    by true true e = refl
    by true false e = absurd (true_false (sym e))

-- one that is answered 0, and is not quiet, is pending then
pub sent : (m : Sending) (q : Process) → pos 0 ≡ post_answer m (Some q) → is_quiet m q ≡ false → target_after m (Some q) ≡ Some (with_signal m q)
sent m q answer loud = ap Some (by (may_signal m.from q.ids) (is_quiet m q) loud (subst IsAnswer answer tt))
  where
    by : (permitted b : Bool) → b ≡ false → IsAnswer (if permitted then room_answer m q else negsuc 0) → (if permitted then (if b then q else with_signal m q) else q) ≡ with_signal m q
    by false b e error = absurd error
    by true false e error = refl
    by true true e error = absurd (true_false e)

-- and a realtime one had room
pub had_room : (m : Sending) (q : Process) → pos 0 ≡ post_answer m (Some q) → is_quiet m q ≡ false → is_realtime m.signo ≡ true → length q.queued < QUEUED
had_room m q answer loud realtime = ltb-true (length q.queued) QUEUED (by (may_signal m.from q.ids) (is_quiet m q) (is_realtime m.signo) (has_room q) loud realtime (subst IsAnswer answer tt))
  where
    by : (permitted quiet real room : Bool) → quiet ≡ false → real ≡ true →
        IsAnswer (if permitted then (if quiet then pos 0 else (if real then (if room then pos 0 else negsuc 10) else pos 0)) else negsuc 0) → room ≡ true
    by false quiet real room loud realtime answer = absurd answer
    by true true real room loud realtime answer = absurd (true_false loud)
    by true false false room loud realtime answer = absurd (true_false (sym realtime))
    by true false true true loud realtime answer = refl
    by true false true false loud realtime answer = absurd answer
