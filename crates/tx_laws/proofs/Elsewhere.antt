-- An event changes nothing but its objects and its targets.
use Rattle.std.proofs.Common.{◌≡◌, ℕ, Bool, true, false, List, [], ◌∷◌, ◌++◌, ℤ, Option, if◌then◌else◌, ◌==◌, refl, sym, ap, ◌∙◌, eqb-true}
use Rattle.tx_base.specs.declared.steps.Step.{Step}
use Rattle.tx_base.specs.declared.steps.Step.TheVariants.{KernelAbort}
use Rattle.tx_model.specs.ObjectFacts.{has_head, has_tail}
use Rattle.tx_model.specs.State.{Process, State, Sending, Object, Proc, Desc, Pipe, Held, Write, SetProc, SetDesc, SetPipe, SetHeld, write_one, with_writes, has_parent, names_at, side_in, same_object, has_object}
use Rattle.tx_model.specs.StateLaws.{AgreeAt}
use Rattle.tx_model.specs.Posts.{target_after, after_post, after_posts}
use Rattle.tx_model.specs.Effects.{Inside, Conclusion, Replies, AnswersPost, ListsFailed, Effect, with_answer_if, first_answer, after_conclusion, send_answers}
use Rattle.tx_model.specs.Events.{Event, Do, Note, Commit, process_of, page_of_step, objects_at, step_effect, effect, objects, after}
use Rattle.tx_laws.proofs.Agree.{agree_refl, agree_trans, KeepsFamily, edited_at, received_keeps, noted_keeps}
use Rattle.tx_laws.proofs.OfActs.{act_fits}
use Rattle.tx_laws.proofs.Objects.{WriteFits, WritesFit, TargetsIn, ConclusionIn, Covers, different, writes_append}

-- a value put in at k, seen through a function that sees it as what was there at first
put_seen : {A B : Type 0} (view : A → B) (f g : ℕ → A) (k : ℕ) (x : A) → view x ≡ view (g k) → ((q : ℕ) → view (f q) ≡ view (g q)) → (q : ℕ) → view (if q == k then x else f q) ≡ view (g q)
put_seen {A} {B} view f g k x e h q = by (q == k) (λ z. eqb-true q k z)
  where
    by : (b : Bool) → (b ≡ true → q ≡ k) → view (if b then x else f q) ≡ view (g q)
    by true z = e ∙ sym (ap (λ (m : ℕ). view (g m)) (z refl))
    by false z = h q

write_else : (w : Write) (S T : State) (os : List Object) (o : Object) → WriteFits S os w → has_object o os ≡ false → AgreeAt T S o → AgreeAt (write_one w T) S o
write_else (SetProc k x) S T os (Proc n) f h a = record {
  width = a.width;
  equal = rw (different (Proc n) (Proc k) os f.0 h) a.equal;
  family = λ ne q. put_seen (has_parent n) T.procs S.procs k x (f.1 n ne h) (a.family ne) q;
}
write_else (SetProc k x) S T os (Desc n) f h a = record {
  width = a.width;
  equal = a.equal;
  family = λ q i. put_seen (names_at n i) T.procs S.procs k x (f.2 n i h) (λ p. a.family p i) q;
}
write_else (SetProc k x) S T os (Pipe n) f h a = record { width = a.width; equal = a.equal; family = a.family }
write_else (SetProc k x) S T os (Held n) f h a = record { width = a.width; equal = a.equal; family = tt }
write_else (SetDesc k x) S T os (Proc n) f h a = record { width = a.width; equal = a.equal; family = a.family }
write_else (SetDesc k x) S T os (Desc n) f h a = record { width = a.width; equal = rw (different (Desc n) (Desc k) os f.0 h) a.equal; family = a.family }
write_else (SetDesc k x) S T os (Pipe n) f h a = record {
  width = a.width;
  equal = a.equal;
  family = λ d. put_seen (side_in n) T.descs S.descs k x (f.1 n h) a.family d;
}
write_else (SetDesc k x) S T os (Held n) f h a = record { width = a.width; equal = a.equal; family = tt }
write_else (SetPipe k x) S T os (Proc n) f h a = record { width = a.width; equal = a.equal; family = a.family }
write_else (SetPipe k x) S T os (Desc n) f h a = record { width = a.width; equal = a.equal; family = a.family }
write_else (SetPipe k x) S T os (Pipe n) f h a = record { width = a.width; equal = rw (different (Pipe n) (Pipe k) os f h) a.equal; family = a.family }
write_else (SetPipe k x) S T os (Held n) f h a = record { width = a.width; equal = a.equal; family = tt }
write_else (SetHeld k x) S T os (Proc n) f h a = record { width = a.width; equal = a.equal; family = a.family }
write_else (SetHeld k x) S T os (Desc n) f h a = record { width = a.width; equal = a.equal; family = a.family }
write_else (SetHeld k x) S T os (Pipe n) f h a = record { width = a.width; equal = a.equal; family = a.family }
write_else (SetHeld k x) S T os (Held n) f h a = record { width = a.width; equal = rw (different (Held n) (Held k) os f h) a.equal; family = tt }

pub written_else : (ws : List Write) (S T : State) (os : List Object) (o : Object) → WritesFit S os ws → has_object o os ≡ false → AgreeAt T S o → AgreeAt (with_writes ws T) S o
unfolding with_writes
written_else [] S T os o f h a = a
written_else (w ∷ ws) S T os o f h a = written_else ws S (write_one w T) os o f.1 h (write_else w S T os o f.0 h a)

-- an edit of another process in place
edit_else : (g : Option Process → Option Process) → KeepsFamily g → (t : ℕ) (S : State) (o : Object) → same_object o (Proc t) ≡ false → AgreeAt (edited_at g t S) S o
edit_else g k t S (Proc n) h = record {
  width = refl;
  equal = rw h refl;
  family = λ ne q. put_seen (has_parent n) S.procs S.procs t (g (S.procs t)) (k.parent n (S.procs t)) (λ p. refl) q;
}
edit_else g k t S (Desc n) h = record {
  width = refl;
  equal = refl;
  family = λ q f. put_seen (names_at n f) S.procs S.procs t (g (S.procs t)) (k.names n f (S.procs t)) (λ p. refl) q;
}
edit_else g k t S (Pipe n) h = record { width = refl; equal = refl; family = λ d. refl }
edit_else g k t S (Held n) h = record { width = refl; equal = refl; family = tt }

posts_else : (ms : List Sending) (S : State) (os : List Object) (o : Object) → TargetsIn ms os → has_object o os ≡ false → AgreeAt (after_posts ms S) S o
unfolding after_posts
posts_else [] S os o i h = agree_refl S o
posts_else (m ∷ ms) S os o i h =
    agree_trans (after_posts ms (after_post m S)) (after_post m S) S o (posts_else ms (after_post m S) os o i.1 h)
    (edit_else (target_after m) (received_keeps m) m.target S o (different o (Proc m.target) os i.0 h))

pub concluded_else : (c : Conclusion) (rs : List ℤ) (S : State) (os : List Object) (o : Object) → ConclusionIn c os → has_object o os ≡ false → AgreeAt (after_conclusion c rs S) S o
concluded_else (Replies r) rs S os o i h = agree_refl S o
concluded_else (AnswersPost p) rs S os o i h = edit_else (with_answer_if (first_answer rs)) (noted_keeps (first_answer rs)) p S o (different o (Proc p) os i h)
concluded_else ListsFailed rs S os o i h = agree_refl S o

-- the effect stays in these objects
pub record EffectFits (S : State) (os : List Object) (f : Effect) : Type 0 where
  pub writes : WritesFit S os f.writes
  pub sends : TargetsIn f.sends os
  pub conclusion : ConclusionIn f.conclusion os

pub after_else : (ev : Event) (S : State) (os : List Object) (o : Object) → EffectFits S os (effect ev S) → has_object o os ≡ false → AgreeAt (after ev S) S o
unfolding after
after_else ev S os o i h =
    let f : Effect = effect ev S in
    let R : State = with_writes f.writes S in
    agree_trans (after_conclusion f.conclusion (send_answers f S) (after_posts f.sends R)) (after_posts f.sends R) S o
    (concluded_else f.conclusion (send_answers f S) (after_posts f.sends R) os o i.conclusion h)
    (agree_trans (after_posts f.sends R) R S o (posts_else f.sends R os o i.sends h) (written_else f.writes S S os o i.writes h (agree_refl S o)))

targets_left : (xs ys : List Sending) (os : List Object) → TargetsIn (xs ++ ys) os → TargetsIn xs os
targets_left [] ys os i = tt
targets_left (x ∷ xs) ys os i = (i.0, targets_left xs ys os i.1)

step_fits : (step : Step) (inside : Option Inside) (S : State) (os : List Object) → Covers os (objects_at inside (process_of step) (page_of_step step) S)
    → WritesFit S os (step_effect step inside S).writes × ConclusionIn (step_effect step inside S).conclusion os
step_fits (KernelAbort s) inside S os c = (tt, tt)
step_fits step inside S os c = act_fits inside (process_of step) step S os c

pub event_fits : (ev : Event) (S : State) (os : List Object) → Covers os (objects ev S) → WritesFit S os (effect ev S).writes × ConclusionIn (effect ev S).conclusion os
unfolding effect objects
event_fits (Do step inside) S os c = step_fits step inside S os c
event_fits (Note p r) S os c =
    (((c (Proc p) (has_head (Proc p) []), λ n ne k. (noted_keeps r).parent n (S.procs p), λ d f k. (noted_keeps r).names d f (S.procs p)), tt), tt)
event_fits (Commit s ev) S os c =
    let inner = event_fits ev S os (λ o h. c o (has_tail o (Held s) (objects ev S) h)) in
    (writes_append S os (effect ev S).writes (SetHeld s [] ∷ []) inner.0 (c (Held s) (has_head (Held s) (objects ev S)), tt), tt)

pub effect_fits : (ev : Event) (S : State) (os : List Object) → Covers os (objects ev S) → TargetsIn (effect ev S).sends os → EffectFits S os (effect ev S)
effect_fits ev S os c t = let f = event_fits ev S os c in record { writes = f.0; sends = t; conclusion = f.1 }
