-- Other signals pending at one process, carried through writes, posts and conclusions.
use Rattle.std.proofs.Common.{◌≡◌, ℕ, Bool, true, false, ◌||◌, List, [], ◌∷◌, ℤ, Option, Some, None, is_some, if◌then◌else◌, ◌==◌, refl, sym, ap, ap₂, ◌∙◌, eqb-true}
use Rattle.tx_model.specs.State.{Process, State, Sending, Object, Proc, Desc, Pipe, Held, Write, SetProc, SetDesc, SetPipe, SetHeld, write_one, with_writes}
use Rattle.tx_model.specs.StateLaws.{state_ext, EqualAt}
use Rattle.tx_model.specs.Posts.{target_after, post_answer, after_post, after_posts, post_answers}
use Rattle.tx_model.specs.Effects.{Conclusion, Replies, AnswersPost, ListsFailed, Effect, with_answer, with_answer_if, first_answer, after_conclusion, send_answers, after_effect}
use Rattle.tx_laws.specs.OneMoment.{is_sent_to}
use Rattle.tx_moment.specs.Unseen.{Signals, resignalled_if, with_signals}

-- the write, with these signals pending in what it makes of process s
abbrev pub resign : ℕ → Signals → Write → Write
resign s g (SetProc n x) = SetProc n (if n == s then resignalled_if g x else x)
resign s g (SetDesc n x) = SetDesc n x
resign s g (SetPipe n x) = SetPipe n x
resign s g (SetHeld n x) = SetHeld n x

abbrev pub resigned_all : ℕ → Signals → List Write → List Write
resigned_all s g [] = []
resigned_all s g (w ∷ ws) = resign s g w ∷ resigned_all s g ws

abbrev pub resigned : ℕ → Signals → Effect → Effect
resigned s g f = record { writes = resigned_all s g f.writes; sends = f.sends; conclusion = f.conclusion }

module _ (s : ℕ) (g : Signals) where
  -- process n in the state with these signals
  pub seen : (S : State) (n : ℕ) → (with_signals s g S).procs n ≡ (if n == s then resignalled_if g (S.procs n) else S.procs n)
  seen S n = by (n == s) (λ e. eqb-true n s e)
    where
      by : (b : Bool) → (b ≡ true → n ≡ s) → (if b then resignalled_if g (S.procs s) else S.procs n) ≡ (if b then resignalled_if g (S.procs n) else S.procs n)
      by true h = ap (λ (m : ℕ). resignalled_if g (S.procs m)) (sym (h refl))
      by false h = refl

  -- an edit that does not touch what is pending
  pub edit_resigned : (f : Option Process → Option Process) → ((x : Option Process) → f (resignalled_if g x) ≡ resignalled_if g (f x)) → (S : State) (n : ℕ) →
      SetProc n (f ((with_signals s g S).procs n)) ≡ resign s g (SetProc n (f (S.procs n)))
  edit_resigned f h S n = ap (λ (x : Option Process). SetProc n (f x)) (seen S n) ∙ by (n == s)
    where
      by : (b : Bool) → SetProc n (f (if b then resignalled_if g (S.procs n) else S.procs n)) ≡ SetProc n (if b then resignalled_if g (f (S.procs n)) else f (S.procs n))
      by true = ap (SetProc n) (h (S.procs n))
      by false = refl

  pub noted_resigned : (r : ℤ) (x : Option Process) → with_answer_if r (resignalled_if g x) ≡ resignalled_if g (with_answer_if r x)
  noted_resigned r None = refl
  noted_resigned r (Some q) = by (is_some q.status)
    where
      by : (b : Bool) → Some (with_answer r (if b then q else record q { pending = g.pending; queued = g.queued }))
          ≡ Some (if b then with_answer r q else record (with_answer r q) { pending = g.pending; queued = g.queued })
      by true = refl
      by false = refl

  proc_write : (n : ℕ) (x : Option Process) (S : State) (o : Object) → EqualAt (write_one (resign s g (SetProc n x)) (with_signals s g S)) (with_signals s g (write_one (SetProc n x) S)) o
  proc_write n x S (Proc m) = by (m == n) (m == s) (n == s) (s == n) (λ e. ap (λ (k : ℕ). k == s) (sym (eqb-true m n e))) (λ e. ap (λ (k : ℕ). k == n) (sym (eqb-true m s e)))
    where
      by : (b c d e : Bool) → (b ≡ true → d ≡ c) → (c ≡ true → e ≡ b) → (if b then (if d then resignalled_if g x else x) else (if c then resignalled_if g (S.procs s) else S.procs m))
          ≡ (if c then resignalled_if g (if e then x else S.procs s) else (if b then x else S.procs m))
      by true true d e h k = rw (h refl) (rw (k refl) refl)
      by true false d e h k = rw (h refl) refl
      by false true d e h k = rw (k refl) refl
      by false false d e h k = refl
  proc_write n x S (Desc m) = refl
  proc_write n x S (Pipe m) = refl
  proc_write n x S (Held m) = refl

  pub write_resigned : (w : Write) (S : State) → write_one (resign s g w) (with_signals s g S) ≡ with_signals s g (write_one w S)
  write_resigned (SetProc n x) S = state_ext (write_one (resign s g (SetProc n x)) (with_signals s g S)) (with_signals s g (write_one (SetProc n x) S)) refl (proc_write n x S)
  write_resigned (SetDesc n x) S = refl
  write_resigned (SetPipe n x) S = refl
  write_resigned (SetHeld n x) S = refl

  pub written_resigned : (ws : List Write) (S : State) → with_writes (resigned_all s g ws) (with_signals s g S) ≡ with_signals s g (with_writes ws S)
  unfolding with_writes
  written_resigned [] S = refl
  written_resigned (w ∷ ws) S = ap (with_writes (resigned_all s g ws)) (write_resigned w S) ∙ written_resigned ws (write_one w S)

  -- a post to another process
  other_post : (m : Sending) (S : State) → (m.target == s) ≡ false → after_post m (with_signals s g S) ≡ with_signals s g (after_post m S)
  other_post m S e =
      let x : Option Process = target_after m (S.procs m.target) in
      ap (λ (b : Bool). write_one (SetProc m.target (target_after m (if b then resignalled_if g (S.procs s) else S.procs m.target))) (with_signals s g S)) e
      ∙ ap (λ (b : Bool). write_one (SetProc m.target (if b then resignalled_if g x else x)) (with_signals s g S)) (sym e)
      ∙ write_resigned (SetProc m.target x) S

  other_answer : (m : Sending) (S : State) → (m.target == s) ≡ false → post_answer m ((with_signals s g S).procs m.target) ≡ post_answer m (S.procs m.target)
  other_answer m S e = ap (λ (b : Bool). post_answer m (if b then resignalled_if g (S.procs s) else S.procs m.target)) e

  not_head : (a b : Bool) → (a || b) ≡ false → a ≡ false
  not_head true b h = h
  not_head false b h = refl

  not_rest : (a b : Bool) → (a || b) ≡ false → b ≡ false
  not_rest true b h = cc
  not_rest false b h = h

  posts_resigned : (ms : List Sending) (S : State) → is_sent_to s ms ≡ false → after_posts ms (with_signals s g S) ≡ with_signals s g (after_posts ms S)
  unfolding after_posts is_sent_to
  posts_resigned [] S h = refl
  posts_resigned (m ∷ ms) S h =
      ap (after_posts ms) (other_post m S (not_head (m.target == s) (is_sent_to s ms) h)) ∙ posts_resigned ms (after_post m S) (not_rest (m.target == s) (is_sent_to s ms) h)

  answers_resigned : (ms : List Sending) (S : State) → is_sent_to s ms ≡ false → post_answers ms (with_signals s g S) ≡ post_answers ms S
  unfolding post_answers is_sent_to
  answers_resigned [] S h = refl
  answers_resigned (m ∷ ms) S h =
      let e : (m.target == s) ≡ false = not_head (m.target == s) (is_sent_to s ms) h in
      ap₂ (λ (r : ℤ) (rs : List ℤ). r ∷ rs) (other_answer m S e)
      (ap (post_answers ms) (other_post m S e) ∙ answers_resigned ms (after_post m S) (not_rest (m.target == s) (is_sent_to s ms) h))

  concluded_resigned : (c : Conclusion) (rs : List ℤ) (S : State) → after_conclusion c rs (with_signals s g S) ≡ with_signals s g (after_conclusion c rs S)
  concluded_resigned (Replies r) rs S = refl
  concluded_resigned (AnswersPost p) rs S =
      ap (λ (w : Write). write_one w (with_signals s g S)) (edit_resigned (with_answer_if (first_answer rs)) (noted_resigned (first_answer rs)) S p)
      ∙ write_resigned (SetProc p (with_answer_if (first_answer rs) (S.procs p))) S
  concluded_resigned ListsFailed rs S = refl

  pub send_answers_resigned : (f : Effect) (S : State) → is_sent_to s f.sends ≡ false → send_answers (resigned s g f) (with_signals s g S) ≡ send_answers f S
  send_answers_resigned f S h = ap (post_answers f.sends) (written_resigned f.writes S) ∙ answers_resigned f.sends (with_writes f.writes S) h

  applied_resigned : (f : Effect) (rs : List ℤ) (S : State) → is_sent_to s f.sends ≡ false → after_effect (resigned s g f) rs (with_signals s g S) ≡ with_signals s g (after_effect f rs S)
  applied_resigned f rs S h =
      ap (λ (X : State). after_conclusion f.conclusion rs (after_posts f.sends X)) (written_resigned f.writes S)
      ∙ ap (after_conclusion f.conclusion rs) (posts_resigned f.sends (with_writes f.writes S) h)
      ∙ concluded_resigned f.conclusion rs (after_posts f.sends (with_writes f.writes S))

  -- the state after an effect that is the same with these signals, and the answers to its posts
  pub effect_resigned : (f h : Effect) (S : State) → h ≡ resigned s g f → is_sent_to s f.sends ≡ false →
      after_effect h (send_answers h (with_signals s g S)) (with_signals s g S) ≡ with_signals s g (after_effect f (send_answers f S) S)
  effect_resigned f h S e k =
      ap (λ (x : Effect). after_effect x (send_answers x (with_signals s g S)) (with_signals s g S)) e
      ∙ ap (λ (rs : List ℤ). after_effect (resigned s g f) rs (with_signals s g S)) (send_answers_resigned f S k)
      ∙ applied_resigned f (send_answers f S) S k
