-- What an event keeps of a process that is no object of it: it gets posts and the answer of one, and nothing else.
use Rattle.std.proofs.Common.{◌≡◌, ℕ, Bool, true, false, List, [], ◌∷◌, ℤ, Option, Some, None, if◌then◌else◌, ◌==◌, refl, sym, subst, eqb-true}
use Rattle.tx_model.specs.State.{Process, State, Sending, Proc, has_object}
use Rattle.tx_model.specs.Posts.{target_after, after_post, after_posts}
use Rattle.tx_model.specs.Effects.{Conclusion, Replies, AnswersPost, ListsFailed, Effect, with_answer_if, first_answer, after_conclusion, send_answers}
use Rattle.tx_model.specs.Words.{before_sends}
use Rattle.tx_model.specs.Events.{Event, effect, objects, after}
use Rattle.tx_model.specs.Answer.{is_running}
use Rattle.tx_laws.proofs.Agree.{edited_at, received_same}
use Rattle.tx_laws.proofs.StatesElsewhere.{writes_elsewhere}

-- posts keep it, and answers do
pub record IsKept (P : Option Process → Type 0) : Type 0 where
  pub posted : (m : Sending) (x : Option Process) → P x → P (target_after m x)
  pub noted : (r : ℤ) (x : Option Process) → P x → P (with_answer_if r x)

module _ (P : Option Process → Type 0) (keeps : IsKept P) (s : ℕ) where
  edit_keeps : (g : Option Process → Option Process) → ((x : Option Process) → P x → P (g x)) → (t : ℕ) (S : State) → P (S.procs s) → P ((edited_at g t S).procs s)
  edit_keeps g k t S h = by (s == t) (λ e. eqb-true s t e)
    where
      by : (b : Bool) → (b ≡ true → s ≡ t) → P (if b then g (S.procs t) else S.procs s)
      by true e = k (S.procs t) (subst (λ (n : ℕ). P (S.procs n)) (e refl) h)
      by false e = h

  posts_keep : (ms : List Sending) (S : State) → P (S.procs s) → P ((after_posts ms S).procs s)
  unfolding after_posts
  posts_keep [] S h = h
  posts_keep (m ∷ ms) S h = posts_keep ms (after_post m S) (edit_keeps (target_after m) (keeps.posted m) m.target S h)

  pub concluded_keeps : (c : Conclusion) (rs : List ℤ) (S : State) → P (S.procs s) → P ((after_conclusion c rs S).procs s)
  concluded_keeps (Replies r) rs S h = h
  concluded_keeps (AnswersPost p) rs S h = edit_keeps (with_answer_if (first_answer rs)) (keeps.noted (first_answer rs)) p S h
  concluded_keeps ListsFailed rs S h = h

  pub event_keeps : (ev : Event) (S : State) → has_object (Proc s) (objects ev S) ≡ false → P (S.procs s) → P ((after ev S).procs s)
  unfolding after
  event_keeps ev S out h =
      let f : Effect = effect ev S in
      concluded_keeps f.conclusion (send_answers f S) (after_posts f.sends (before_sends f S))
      (posts_keep f.sends (before_sends f S) (subst P (sym (writes_elsewhere ev S S (Proc s) out)) h))

abbrev pub Runs : Option Process → Type 0
Runs x = is_running x ≡ true

-- a process that runs still runs
pub runs_kept : IsKept Runs
runs_kept = record { posted = posted; noted = noted }
  where
    posted : (m : Sending) (x : Option Process) → Runs x → Runs (target_after m x)
    posted m None h = h
    posted m (Some q) h = subst (λ (b : Bool). b ≡ true) (sym (received_same (λ (p : Process). is_running (Some p)) m q refl refl)) h

    noted : (r : ℤ) (x : Option Process) → Runs x → Runs (with_answer_if r x)
    noted r None h = h
    noted r (Some q) h = h
