-- What posts make of one process: one that runs gets the signals and nothing else, any other one stays as it is.
use Rattle.std.proofs.Common.{◌≡◌, ℕ, Bool, true, false, ◌||◌, List, [], ◌∷◌, ◌++◌, length, pos, negsuc, Option, Some, None, is_some, is_none, if◌then◌else◌, nat_lt, ◌==◌, refl, sym, ap, ◌∙◌, inl, inr, eqb-true}
use Rattle.tx_base.specs.declared.limits.TheConstants.{QUEUED}
use Rattle.tx_model.specs.SignalSets.{is_realtime, with_one_more}
use Rattle.tx_model.specs.State.{Process, Sending, State, Object, Proc, Desc, Pipe, Held, same_object}
use Rattle.tx_model.specs.StateLaws.{EqualAt}
use Rattle.tx_model.specs.Posts.{may_signal, is_quiet, with_signal, room_answer, post_answer, target_after, after_post, after_posts, post_answers}
use Rattle.tx_model.specs.Answer.{is_running}
use Rattle.tx_laws.specs.Fits.{IsIn}
use Rattle.tx_laws.proofs.Agree.{part_refl, part_trans}
use Rattle.tx_moment.specs.Unseen.{Signals}

-- what is pending at the process
abbrev pub signals_of : Process → Signals
signals_of q = record { pending = q.pending; queued = q.queued }

-- the process with these signals pending in place of its own
abbrev pub signalled : Signals → Process → Process
signalled g q = record q { pending = g.pending; queued = g.queued }

-- what is pending after a post that is let through
abbrev signals_after : Sending → Signals → Signals
signals_after m g =
    if m.signo == 0 || (m.target == 1 || false) then g
    else (if is_realtime m.signo then (if nat_lt (length g.queued) QUEUED then record { pending = g.pending; queued = g.queued ++ record { signo = m.signo; value = m.value } ∷ [] } else g)
    else record { pending = with_one_more g.pending m.signo; queued = g.queued })

-- a process that runs has these after such a post
let_through : (m : Sending) (g : Signals) (q : Process) → q.status ≡ None → (if is_quiet m (signalled g q) then signalled g q else with_signal m (signalled g q)) ≡ signalled (signals_after m g) q
let_through m g q runs = by (is_some q.status) (ap is_some runs)
  where
    more : Signals
    more = record { pending = g.pending; queued = g.queued ++ record { signo = m.signo; value = m.value } ∷ [] }

    once : Signals
    once = record { pending = with_one_more g.pending m.signo; queued = g.queued }

    chosen : (quiet realtime room : Bool) → (if quiet then signalled g q else (if realtime then (if room then signalled more q else signalled g q) else signalled once q))
        ≡ signalled (if quiet then g else (if realtime then (if room then more else g) else once)) q
    chosen true realtime room = refl
    chosen false true true = refl
    chosen false true false = refl
    chosen false false room = refl

    by : (ended : Bool) → ended ≡ false → (if m.signo == 0 || (m.target == 1 || ended) then signalled g q else with_signal m (signalled g q)) ≡ signalled (signals_after m g) q
    by true e = cc
    by false e = chosen (m.signo == 0 || (m.target == 1 || false)) (is_realtime m.signo) (nat_lt (length g.queued) QUEUED)

-- a post that is let through is not answered that it is not permitted
permitted : (m : Sending) (q : Process) → room_answer m q ≡ negsuc 0 → ⊥
permitted m q = by (is_quiet m q) (is_realtime m.signo) (nat_lt (length q.queued) QUEUED)
  where
    by : (quiet realtime room : Bool) → (if quiet then pos 0 else (if realtime then (if room then pos 0 else negsuc 10) else pos 0)) ≡ negsuc 0 → ⊥
    by true realtime room e = cc
    by false true true e = cc
    by false true false e = cc
    by false false room e = cc

-- two processes that run, and have the same signals pending, have the same again after posts that are answered alike
module _ (s : ℕ) (x y : Process) (x_runs : x.status ≡ None) (y_runs : y.status ≡ None) where
  received_alike : (m : Sending) (g : Signals) → post_answer m (Some (signalled g x)) ≡ post_answer m (Some (signalled g y)) →
      (h : Signals) × ((target_after m (Some (signalled g x)) ≡ Some (signalled h x)) × (target_after m (Some (signalled g y)) ≡ Some (signalled h y)))
  received_alike m g = by (may_signal m.from x.ids) (may_signal m.from y.ids)
    where
      through : Process → Process
      through q = if is_quiet m q then q else with_signal m q

      by : (one other : Bool) → (if one then room_answer m (signalled g x) else negsuc 0) ≡ (if other then room_answer m (signalled g y) else negsuc 0) →
          (h : Signals) × ((Some (if one then through (signalled g x) else signalled g x) ≡ Some (signalled h x)) × (Some (if other then through (signalled g y) else signalled g y) ≡ Some (signalled h y)))
      by true true e = (signals_after m g, (ap Some (let_through m g x x_runs), ap Some (let_through m g y y_runs)))
      by true false e = absurd (permitted m (signalled g x) e)
      by false true e = absurd (permitted m (signalled g y) (sym e))
      by false false e = (g, (refl, refl))

  post_alike : (m : Sending) (g : Signals) (S R : State) → S.procs s ≡ Some (signalled g x) → R.procs s ≡ Some (signalled g y) →
      post_answer m (S.procs m.target) ≡ post_answer m (R.procs m.target) →
      (h : Signals) × (((after_post m S).procs s ≡ Some (signalled h x)) × ((after_post m R).procs s ≡ Some (signalled h y)))
  post_alike m g S R one other same = by (s == m.target) (λ e. eqb-true s m.target e)
    where
      at_target : s ≡ m.target → (h : Signals) × ((target_after m (S.procs m.target) ≡ Some (signalled h x)) × (target_after m (R.procs m.target) ≡ Some (signalled h y)))
      at_target e =
          let one' : S.procs m.target ≡ Some (signalled g x) = ap S.procs (sym e) ∙ one in
          let other' : R.procs m.target ≡ Some (signalled g y) = ap R.procs (sym e) ∙ other in
          let r = received_alike m g (ap (post_answer m) (sym one') ∙ same ∙ ap (post_answer m) other') in
          (r.0, (ap (target_after m) one' ∙ r.1.0, ap (target_after m) other' ∙ r.1.1))

      by : (b : Bool) → (b ≡ true → s ≡ m.target) →
          (h : Signals) × (((if b then target_after m (S.procs m.target) else S.procs s) ≡ Some (signalled h x)) × ((if b then target_after m (R.procs m.target) else R.procs s) ≡ Some (signalled h y)))
      by true e = at_target (e refl)
      by false e = (g, (one, other))

  pub posts_alike : (ms : List Sending) (g : Signals) (S R : State) → S.procs s ≡ Some (signalled g x) → R.procs s ≡ Some (signalled g y) → post_answers ms S ≡ post_answers ms R →
      (h : Signals) × (((after_posts ms S).procs s ≡ Some (signalled h x)) × ((after_posts ms R).procs s ≡ Some (signalled h y)))
  unfolding after_posts post_answers
  posts_alike [] g S R one other same = (g, (one, other))
  posts_alike (m ∷ ms) g S R one other same =
      let first : post_answer m (S.procs m.target) ≡ post_answer m (R.procs m.target) = cc in
      let rest : post_answers ms (after_post m S) ≡ post_answers ms (after_post m R) = cc in
      let p = post_alike m g S R one other first in
      posts_alike ms p.0 (after_post m S) (after_post m R) p.1.0 p.1.1 rest

-- a process that has ended, or is not there, stays as it is
received_still : (m : Sending) (x : Option Process) → is_running x ≡ false → target_after m x ≡ x
received_still m None h = refl
received_still m (Some q) h = by (may_signal m.from q.ids) (m.signo == 0) (m.target == 1) (is_some q.status) (ended q.status h)
  where
    ended : (status : Option ℕ) → is_none status ≡ false → is_some status ≡ true
    ended None k = cc
    ended (Some n) k = refl

    by : (may null first over : Bool) → over ≡ true → Some (if may then (if null || (first || over) then q else with_signal m q) else q) ≡ Some q
    by false null first over e = refl
    by true true first over e = refl
    by true false true over e = refl
    by true false false true e = refl
    by true false false false e = cc

post_still : (m : Sending) (S : State) (n : ℕ) → is_running (S.procs n) ≡ false → (after_post m S).procs n ≡ S.procs n
post_still m S n h = by (n == m.target) (λ e. eqb-true n m.target e)
  where
    by : (b : Bool) → (b ≡ true → n ≡ m.target) → (if b then target_after m (S.procs m.target) else S.procs n) ≡ S.procs n
    by true e = ap (λ (k : ℕ). target_after m (S.procs k)) (sym (e refl)) ∙ received_still m (S.procs n) h
    by false e = refl

pub posts_still : (ms : List Sending) (S : State) (n : ℕ) → is_running (S.procs n) ≡ false → (after_posts ms S).procs n ≡ S.procs n
unfolding after_posts
posts_still [] S n h = refl
posts_still (m ∷ ms) S n h =
    let e : (after_post m S).procs n ≡ S.procs n = post_still m S n h in
    posts_still ms (after_post m S) n (ap is_running e ∙ h) ∙ e

-- what no post goes to stays as it is
post_apart : (m : Sending) (S : State) (o : Object) → same_object o (Proc m.target) ≡ false → EqualAt (after_post m S) S o
post_apart m S (Proc n) h = rw h refl
post_apart m S (Desc n) h = refl
post_apart m S (Pipe n) h = refl
post_apart m S (Held n) h = refl

pub posts_apart : (ms : List Sending) (S : State) (o : Object) → ((m : Sending) → IsIn m ms → same_object o (Proc m.target) ≡ false) → EqualAt (after_posts ms S) S o
unfolding after_posts
posts_apart [] S o h = part_refl S o
posts_apart (m ∷ ms) S o h = part_trans (after_posts ms (after_post m S)) (after_post m S) S o (posts_apart ms (after_post m S) o (λ n i. h n (inr i))) (post_apart m S o (h m (inl refl)))
