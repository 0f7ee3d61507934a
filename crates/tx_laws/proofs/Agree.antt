-- States that agree at an object agree there after the same writes, posts and conclusion.
use Rattle.std.proofs.Common.{◌≡◌, ℕ, Bool, true, false, List, [], ◌∷◌, ℤ, Option, Some, None, if◌then◌else◌, ◌==◌, refl, sym, ap, ◌∙◌, subst, eqb-true}
use Rattle.tx_model.specs.State.{Process, State, Sending, Object, Proc, Desc, Pipe, Held, Write, SetProc, SetDesc, SetPipe, SetHeld, put_at, write_one, with_writes, has_parent, names_at, side_in}
use Rattle.tx_model.specs.StateLaws.{EqualAt, AgreeFamily, AgreeAt}
use Rattle.tx_model.specs.Posts.{is_realtime, has_room, may_signal, is_quiet, with_signal, target_after, after_post, after_posts}
use Rattle.tx_model.specs.Words.{with_queued, with_pending}
use Rattle.tx_model.specs.Effects.{Conclusion, Replies, AnswersPost, ListsFailed, Effect, with_answer_if, first_answer, after_conclusion, after_effect}

pub part_refl : (S : State) (o : Object) → EqualAt S S o
part_refl S (Proc n) = refl
part_refl S (Desc n) = refl
part_refl S (Pipe n) = refl
part_refl S (Held n) = refl

pub part_sym : (S R : State) (o : Object) → EqualAt S R o → EqualAt R S o
part_sym S R (Proc n) h = sym h
part_sym S R (Desc n) h = sym h
part_sym S R (Pipe n) h = sym h
part_sym S R (Held n) h = sym h

pub part_trans : (S R Q : State) (o : Object) → EqualAt S R o → EqualAt R Q o → EqualAt S Q o
part_trans S R Q (Proc n) h k = h ∙ k
part_trans S R Q (Desc n) h k = h ∙ k
part_trans S R Q (Pipe n) h k = h ∙ k
part_trans S R Q (Held n) h k = h ∙ k

family_refl : (S : State) (o : Object) → AgreeFamily S S o
family_refl S (Proc n) = λ ne q. refl
family_refl S (Desc n) = λ q f. refl
family_refl S (Pipe n) = λ d. refl
family_refl S (Held n) = tt

family_sym : (S R : State) (o : Object) → AgreeFamily S R o → AgreeFamily R S o
family_sym S R (Proc n) h = λ ne q. sym (h ne q)
family_sym S R (Desc n) h = λ q f. sym (h q f)
family_sym S R (Pipe n) h = λ d. sym (h d)
family_sym S R (Held n) h = tt

family_trans : (S R Q : State) (o : Object) → AgreeFamily S R o → AgreeFamily R Q o → AgreeFamily S Q o
family_trans S R Q (Proc n) h k = λ ne q. h ne q ∙ k ne q
family_trans S R Q (Desc n) h k = λ q f. h q f ∙ k q f
family_trans S R Q (Pipe n) h k = λ d. h d ∙ k d
family_trans S R Q (Held n) h k = tt

pub agree_refl : (S : State) (o : Object) → AgreeAt S S o
agree_refl S o = record { width = refl; equal = part_refl S o; family = family_refl S o }

pub agree_sym : (S R : State) (o : Object) → AgreeAt S R o → AgreeAt R S o
agree_sym S R o h = record { width = sym h.width; equal = part_sym S R o h.equal; family = family_sym S R o h.family }

pub agree_trans : (S R Q : State) (o : Object) → AgreeAt S R o → AgreeAt R Q o → AgreeAt S Q o
agree_trans S R Q o h k = record { width = h.width ∙ k.width; equal = part_trans S R Q o h.equal k.equal; family = family_trans S R Q o h.family k.family }

-- a value put in both maps, seen through a function
put_same : {A B : Type 0} (g : A → B) (f k : ℕ → A) (p : ℕ) (v : A) (n : ℕ) → g (f n) ≡ g (k n) → g (put_at f p v n) ≡ g (put_at k p v n)
put_same {A} {B} g f k p v n h = by (n == p)
  where
    by : (b : Bool) → g (if b then v else f n) ≡ g (if b then v else k n)
    by true = refl
    by false = h

put_part : {A : Type 0} (f k : ℕ → A) (p : ℕ) (v : A) (n : ℕ) → f n ≡ k n → put_at f p v n ≡ put_at k p v n
put_part {A} f k p v n h = ap (λ (x : A). if n == p then v else x) h

write_part : (w : Write) (S R : State) (o : Object) → EqualAt S R o → EqualAt (write_one w S) (write_one w R) o
write_part (SetProc p x) S R (Proc n) h = put_part S.procs R.procs p x n h
write_part (SetProc p x) S R (Desc n) h = h
write_part (SetProc p x) S R (Pipe n) h = h
write_part (SetProc p x) S R (Held n) h = h
write_part (SetDesc p x) S R (Proc n) h = h
write_part (SetDesc p x) S R (Desc n) h = put_part S.descs R.descs p x n h
write_part (SetDesc p x) S R (Pipe n) h = h
write_part (SetDesc p x) S R (Held n) h = h
write_part (SetPipe p x) S R (Proc n) h = h
write_part (SetPipe p x) S R (Desc n) h = h
write_part (SetPipe p x) S R (Pipe n) h = put_part S.pipes R.pipes p x n h
write_part (SetPipe p x) S R (Held n) h = h
write_part (SetHeld p x) S R (Proc n) h = h
write_part (SetHeld p x) S R (Desc n) h = h
write_part (SetHeld p x) S R (Pipe n) h = h
write_part (SetHeld p x) S R (Held n) h = put_part S.held R.held p x n h

write_family : (w : Write) (S R : State) (o : Object) → AgreeFamily S R o → AgreeFamily (write_one w S) (write_one w R) o
write_family (SetProc p x) S R (Proc n) h = λ ne q. put_same (has_parent n) S.procs R.procs p x q (h ne q)
write_family (SetProc p x) S R (Desc n) h = λ q f. put_same (names_at n f) S.procs R.procs p x q (h q f)
write_family (SetProc p x) S R (Pipe n) h = h
write_family (SetProc p x) S R (Held n) h = tt
write_family (SetDesc p x) S R (Proc n) h = h
write_family (SetDesc p x) S R (Desc n) h = h
write_family (SetDesc p x) S R (Pipe n) h = λ d. put_same (side_in n) S.descs R.descs p x d (h d)
write_family (SetDesc p x) S R (Held n) h = tt
write_family (SetPipe p x) S R (Proc n) h = h
write_family (SetPipe p x) S R (Desc n) h = h
write_family (SetPipe p x) S R (Pipe n) h = h
write_family (SetPipe p x) S R (Held n) h = tt
write_family (SetHeld p x) S R (Proc n) h = h
write_family (SetHeld p x) S R (Desc n) h = h
write_family (SetHeld p x) S R (Pipe n) h = h
write_family (SetHeld p x) S R (Held n) h = tt

pub write_width : (w : Write) (S : State) → (write_one w S).width ≡ S.width
write_width (SetProc p x) S = refl
write_width (SetDesc p x) S = refl
write_width (SetPipe p x) S = refl
write_width (SetHeld p x) S = refl

pub written_part : (ws : List Write) (S R : State) (o : Object) → EqualAt S R o → EqualAt (with_writes ws S) (with_writes ws R) o
unfolding with_writes
written_part [] S R o h = h
written_part (w ∷ ws) S R o h = written_part ws (write_one w S) (write_one w R) o (write_part w S R o h)

written_family : (ws : List Write) (S R : State) (o : Object) → AgreeFamily S R o → AgreeFamily (with_writes ws S) (with_writes ws R) o
unfolding with_writes
written_family [] S R o h = h
written_family (w ∷ ws) S R o h = written_family ws (write_one w S) (write_one w R) o (write_family w S R o h)

pub written_width : (ws : List Write) (S : State) → (with_writes ws S).width ≡ S.width
unfolding with_writes
written_width [] S = refl
written_width (w ∷ ws) S = written_width ws (write_one w S) ∙ write_width w S

-- where two states agree, they agree after the same writes
pub written_keeps : (ws : List Write) (S R : State) (o : Object) → AgreeAt S R o → AgreeAt (with_writes ws S) (with_writes ws R) o
written_keeps ws S R o h = record { width = written_width ws S ∙ h.width ∙ sym (written_width ws R); equal = written_part ws S R o h.equal; family = written_family ws S R o h.family }

-- an edit of a process in place changes no family
pub record KeepsFamily (g : Option Process → Option Process) : Type 0 where
  pub parent : (n : ℕ) (x : Option Process) → has_parent n (g x) ≡ has_parent n x
  pub names : (d f : ℕ) (x : Option Process) → names_at d f (g x) ≡ names_at d f x

abbrev pub edited_at : (Option Process → Option Process) → ℕ → State → State
edited_at g t S = write_one (SetProc t (g (S.procs t))) S

pub edit_part : (g : Option Process → Option Process) (t : ℕ) (S R : State) (o : Object) → EqualAt S R o → EqualAt (edited_at g t S) (edited_at g t R) o
edit_part g t S R (Proc n) h = by (n == t) (λ e. eqb-true n t e)
  where
    by : (b : Bool) → (b ≡ true → n ≡ t) → (if b then g (S.procs t) else S.procs n) ≡ (if b then g (R.procs t) else R.procs n)
    by true e = let h' : S.procs t ≡ R.procs t = subst (λ (x : ℕ). S.procs x ≡ R.procs x) (e refl) h in ap g h'
    by false e = h
edit_part g t S R (Desc n) h = h
edit_part g t S R (Pipe n) h = h
edit_part g t S R (Held n) h = h

-- what a function that the edit keeps sees after the edit in both
edit_same : {B : Type 0} (view : Option Process → B) (g : Option Process → Option Process) (t : ℕ) (S R : State) → ((x : Option Process) → view (g x) ≡ view x) →
    ((q : ℕ) → view (S.procs q) ≡ view (R.procs q)) → (q : ℕ) → view (put_at S.procs t (g (S.procs t)) q) ≡ view (put_at R.procs t (g (R.procs t)) q)
edit_same {B} view g t S R keeps h q = by (q == t)
  where
    by : (b : Bool) → view (if b then g (S.procs t) else S.procs q) ≡ view (if b then g (R.procs t) else R.procs q)
    by true = keeps (S.procs t) ∙ h t ∙ sym (keeps (R.procs t))
    by false = h q

edit_family : (g : Option Process → Option Process) → KeepsFamily g → (t : ℕ) (S R : State) (o : Object) → AgreeFamily S R o → AgreeFamily (edited_at g t S) (edited_at g t R) o
edit_family g k t S R (Proc n) h = λ ne q. edit_same (has_parent n) g t S R (k.parent n) (h ne) q
edit_family g k t S R (Desc n) h = λ q f. edit_same (names_at n f) g t S R (k.names n f) (λ p. h p f) q
edit_family g k t S R (Pipe n) h = h
edit_family g k t S R (Held n) h = tt

-- a choice of processes that a function sees as q
chosen : {B : Type 0} (view : Process → B) (q : Process) (b : Bool) (x y : Process) → view x ≡ view q → view y ≡ view q → view (if b then x else y) ≡ view q
chosen view q true x y h k = h
chosen view q false x y h k = k

pub received_same : {B : Type 0} (view : Process → B) (m : Sending) (q : Process) → view (with_queued m q) ≡ view q → view (with_pending m.signo q) ≡ view q →
    view (if may_signal m.from q.ids then (if is_quiet m q then q else with_signal m q) else q) ≡ view q
received_same view m q h k =
    chosen view q (may_signal m.from q.ids) (if is_quiet m q then q else with_signal m q) q
    (chosen view q (is_quiet m q) q (with_signal m q) refl
    (chosen view q (is_realtime m.signo) (if has_room q then with_queued m q else q) (with_pending m.signo q)
    (chosen view q (has_room q) (with_queued m q) q h refl) k)) refl

pub received_keeps : (m : Sending) → KeepsFamily (target_after m)
received_keeps m = record { parent = parent; names = names }
  where
    parent : (n : ℕ) (x : Option Process) → has_parent n (target_after m x) ≡ has_parent n x
    parent n None = refl
    parent n (Some q) = received_same (λ (p : Process). has_parent n (Some p)) m q refl refl

    names : (d f : ℕ) (x : Option Process) → names_at d f (target_after m x) ≡ names_at d f x
    names d f None = refl
    names d f (Some q) = received_same (λ (p : Process). names_at d f (Some p)) m q refl refl

pub noted_keeps : (r : ℤ) → KeepsFamily (with_answer_if r)
noted_keeps r = record { parent = parent; names = names }
  where
    parent : (n : ℕ) (x : Option Process) → has_parent n (with_answer_if r x) ≡ has_parent n x
    parent n None = refl
    parent n (Some q) = refl

    names : (d f : ℕ) (x : Option Process) → names_at d f (with_answer_if r x) ≡ names_at d f x
    names d f None = refl
    names d f (Some q) = refl

pub post_part : (m : Sending) (S R : State) (o : Object) → EqualAt S R o → EqualAt (after_post m S) (after_post m R) o
post_part m S R o h = edit_part (target_after m) m.target S R o h

pub posts_part : (ms : List Sending) (S R : State) (o : Object) → EqualAt S R o → EqualAt (after_posts ms S) (after_posts ms R) o
unfolding after_posts
posts_part [] S R o h = h
posts_part (m ∷ ms) S R o h = posts_part ms (after_post m S) (after_post m R) o (post_part m S R o h)

posts_family : (ms : List Sending) (S R : State) (o : Object) → AgreeFamily S R o → AgreeFamily (after_posts ms S) (after_posts ms R) o
unfolding after_posts
posts_family [] S R o h = h
posts_family (m ∷ ms) S R o h = posts_family ms (after_post m S) (after_post m R) o (edit_family (target_after m) (received_keeps m) m.target S R o h)

posts_width : (ms : List Sending) (S : State) → (after_posts ms S).width ≡ S.width
unfolding after_posts
posts_width [] S = refl
posts_width (m ∷ ms) S = posts_width ms (after_post m S)

concluded_part : (c : Conclusion) (rs : List ℤ) (S R : State) (o : Object) → EqualAt S R o → EqualAt (after_conclusion c rs S) (after_conclusion c rs R) o
concluded_part (Replies r) rs S R o h = h
concluded_part (AnswersPost p) rs S R o h = edit_part (with_answer_if (first_answer rs)) p S R o h
concluded_part ListsFailed rs S R o h = h

concluded_family : (c : Conclusion) (rs : List ℤ) (S R : State) (o : Object) → AgreeFamily S R o → AgreeFamily (after_conclusion c rs S) (after_conclusion c rs R) o
concluded_family (Replies r) rs S R o h = h
concluded_family (AnswersPost p) rs S R o h = edit_family (with_answer_if (first_answer rs)) (noted_keeps (first_answer rs)) p S R o h
concluded_family ListsFailed rs S R o h = h

concluded_width : (c : Conclusion) (rs : List ℤ) (S : State) → (after_conclusion c rs S).width ≡ S.width
concluded_width (Replies r) rs S = refl
concluded_width (AnswersPost p) rs S = refl
concluded_width ListsFailed rs S = refl

pub applied_part : (f : Effect) (rs : List ℤ) (S R : State) (o : Object) → EqualAt S R o → EqualAt (after_effect f rs S) (after_effect f rs R) o
applied_part f rs S R o h =
    concluded_part f.conclusion rs (after_posts f.sends (with_writes f.writes S)) (after_posts f.sends (with_writes f.writes R)) o
    (posts_part f.sends (with_writes f.writes S) (with_writes f.writes R) o (written_part f.writes S R o h))

applied_family : (f : Effect) (rs : List ℤ) (S R : State) (o : Object) → AgreeFamily S R o → AgreeFamily (after_effect f rs S) (after_effect f rs R) o
applied_family f rs S R o h =
    concluded_family f.conclusion rs (after_posts f.sends (with_writes f.writes S)) (after_posts f.sends (with_writes f.writes R)) o
    (posts_family f.sends (with_writes f.writes S) (with_writes f.writes R) o (written_family f.writes S R o h))

pub applied_width : (f : Effect) (rs : List ℤ) (S : State) → (after_effect f rs S).width ≡ S.width
applied_width f rs S = concluded_width f.conclusion rs (after_posts f.sends (with_writes f.writes S)) ∙ posts_width f.sends (with_writes f.writes S) ∙ written_width f.writes S

pub applied_keeps : (f : Effect) (rs : List ℤ) (S R : State) (o : Object) → AgreeAt S R o → AgreeAt (after_effect f rs S) (after_effect f rs R) o
applied_keeps f rs S R o h = record {
  width = applied_width f rs S ∙ h.width ∙ sym (applied_width f rs R);
  equal = applied_part f rs S R o h.equal;
  family = applied_family f rs S R o h.family;
}
