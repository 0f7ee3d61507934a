-- What a process is to the others: its parent, and whether it runs.
use Rattle.std.proofs.Common.{◌≡◌, ◌⊎◌, ℕ, ◌≤◌, Bool, true, false, List, [], ◌∷◌, ℤ, Option, Some, None, is_some, is_none, if◌then◌else◌, ◌==◌, refl, sym, ap, ◌∙◌, subst, inl, inr}
use Rattle.tx_model.specs.State.{Process, State, Sending, SetProc, put_at, write_one}
use Rattle.tx_model.specs.StateLaws.{put_cases}
use Rattle.tx_model.specs.Posts.{has_room, may_signal, is_quiet, target_after, after_post, after_posts}
use Rattle.tx_model.specs.Words.{with_queued, with_pending}
use Rattle.tx_model.specs.SignalSets.{is_realtime}
use Rattle.tx_model.specs.Effects.{Conclusion, Replies, AnswersPost, ListsFailed, with_answer_if, first_answer, after_conclusion}
use Rattle.tx_base.specs.declared.marks.Mark.{Mark}
use Rattle.tx_model.specs.Book.{member_sends}
use Rattle.tx_model.specs.Membership.{Table, is_of, is_member_of, is_live, is_open_of}
use Rattle.tx_model.specs.Answer.{is_running}
use Rattle.tx_laws.specs.WellFormedTable.{sent_by_kernel, HasParentInside, HasParentOutside, IsTransaction}

pub record Standing : Type 0 where
  pub parent : ℕ
  pub runs : Bool

abbrev pub standing_of : Process → Standing
standing_of q = record { parent = q.parent; runs = is_none q.status }

abbrev pub stand : Option Process → Option Standing
stand None = None
stand (Some q) = Some (standing_of q)

abbrev runs_at : Option Standing → Bool
runs_at None = false
runs_at (Some x) = x.runs

running_stand : (x : Option Process) → is_running x ≡ runs_at (stand x)
running_stand None = refl
running_stand (Some q) = refl

some_stand : (x : Option Process) → is_some x ≡ is_some (stand x)
some_stand None = refl
some_stand (Some q) = refl

pub running_same : (x y : Option Process) → stand x ≡ stand y → is_running x ≡ is_running y
running_same x y e = running_stand x ∙ ap runs_at e ∙ sym (running_stand y)

pub some_same : (x y : Option Process) → stand x ≡ stand y → is_some x ≡ is_some y
some_same x y e = some_stand x ∙ ap (λ (z : Option Standing). is_some z) e ∙ sym (some_stand y)

abbrev pub parent_of : Option Process → Option ℕ
parent_of None = None
parent_of (Some q) = Some q.parent

abbrev parent_in : Option Standing → Option ℕ
parent_in None = None
parent_in (Some x) = Some x.parent

parent_stand : (x : Option Process) → parent_of x ≡ parent_in (stand x)
parent_stand None = refl
parent_stand (Some q) = refl

pub parent_same : (x y : Option Process) → stand x ≡ stand y → parent_of x ≡ parent_of y
parent_same x y e = parent_stand x ∙ ap parent_in e ∙ sym (parent_stand y)

pub parent_is : (x : Option Process) (parent : ℕ) (runs : Bool) → stand x ≡ Some (record { parent = parent; runs = runs }) → parent_of x ≡ Some parent
parent_is x parent runs e = parent_stand x ∙ ap parent_in e

pub running_is : (x : Option Process) (parent : ℕ) (runs : Bool) → stand x ≡ Some (record { parent = parent; runs = runs }) → is_running x ≡ runs
running_is x parent runs e = running_stand x ∙ ap runs_at e

pub some_is : (x : Option Process) (y : Standing) → stand x ≡ Some y → is_some x ≡ true
some_is x y e = some_stand x ∙ ap (λ (z : Option Standing). is_some z) e

pub inside_same : (t new : Table) (s : ℕ) (x y : Option Process) → parent_of x ≡ parent_of y → ((n : ℕ) → is_member_of t s n ≡ true → is_member_of new s n ≡ true)
    → HasParentInside t s y → HasParentInside new s x
inside_same t new s None y e m h = tt
inside_same t new s (Some q) None e m h = cc
inside_same t new s (Some q) (Some r) e m h =
    let same : q.parent ≡ r.parent = cc in
    elim h [ inl z ↦ inl (same ∙ z) | inr z ↦ inr (m q.parent (subst (λ (n : ℕ). is_member_of t s n ≡ true) (sym same) z)) ]

pub outside_same : (t new : Table) (s : ℕ) (x y : Option Process) → parent_of x ≡ parent_of y
    → ((n : ℕ) → parent_of y ≡ Some n → is_member_of t s n ≡ false → is_member_of new s n ≡ false) → HasParentOutside t s y → HasParentOutside new s x
outside_same t new s None y e m h = tt
outside_same t new s (Some q) None e m h = cc
outside_same t new s (Some q) (Some r) e m h =
    let same : r.parent ≡ q.parent = cc in
    subst (λ (n : ℕ). is_member_of new s n ≡ false) same (m r.parent refl h)

-- one whose parent is so
pub inside_by_parent : (t : Table) (s : ℕ) (x : Option Process) (n : ℕ) → parent_of x ≡ Some n → (n ≡ 1) ⊎ (is_member_of t s n ≡ true) → HasParentInside t s x
inside_by_parent t s None n e h = tt
inside_by_parent t s (Some q) n e h =
    let same : n ≡ q.parent = cc in
    subst (λ (i : ℕ). (i ≡ 1) ⊎ (is_member_of t s i ≡ true)) same h

pub inside_parent : (t : Table) (s : ℕ) (x : Option Process) (n : ℕ) → parent_of x ≡ Some n → HasParentInside t s x → (n ≡ 1) ⊎ (is_member_of t s n ≡ true)
inside_parent t s None n e h = cc
inside_parent t s (Some q) n e h =
    let same : q.parent ≡ n = cc in
    subst (λ (i : ℕ). (i ≡ 1) ⊎ (is_member_of t s i ≡ true)) same h

pub outside_parent : (t : Table) (s : ℕ) (x : Option Process) (n : ℕ) → parent_of x ≡ Some n → HasParentOutside t s x → is_member_of t s n ≡ false
outside_parent t s None n e h = cc
outside_parent t s (Some q) n e h =
    let same : q.parent ≡ n = cc in
    subst (λ (i : ℕ). is_member_of t s i ≡ false) same h

-- the table after is as before to the transaction of s, but for parts that end
pub record SameFor (t new : Table) (s : ℕ) : Type 0 where
  pub members : (n : ℕ) → is_member_of new s n ≡ is_member_of t s n
  pub open_parts : (n : ℕ) → is_open_of s (new.marks n) ≡ true → is_open_of s (t.marks n) ≡ true

pub open_member : (s : ℕ) (x : Option Mark) → is_open_of s x ≡ true → is_of s x ≡ true
open_member s None h = cc
open_member s (Some m) h = by m.ended h
  where
    by : (b : Bool) → (if b then false else m.starter.0 == s) ≡ true → (m.starter.0 == s) ≡ true
    by true z = cc
    by false z = z

-- a transaction stays so, where its members stand as before, and it holds the same
pub transaction_same : (t new : Table) (S T : State) (s : ℕ) → is_live t s ≡ true → SameFor t new s
    → ((n : ℕ) → is_member_of t s n ≡ true → stand (T.procs n) ≡ stand (S.procs n)) → T.held s ≡ S.held s → IsTransaction t S s → IsTransaction new T s
transaction_same t new S T s live same stands held k = record {
  starter = some_same (T.procs s) (S.procs s) (stands s live) ∙ k.starter;
  open_parts = λ p h.
      running_same (T.procs p) (S.procs p) (stands p (open_member s (t.marks p) (same.open_parts p h))) ∙ k.open_parts p (same.open_parts p h);
  parents = λ p h ne.
      let was : is_member_of t s p ≡ true = sym (same.members p) ∙ h in
      inside_same t new s (T.procs p) (S.procs p) (parent_same (T.procs p) (S.procs p) (stands p was)) (λ n z. same.members n ∙ z) (k.parents p was ne);
  outside = outside_same t new s (T.procs s) (S.procs s) (parent_same (T.procs s) (S.procs s) (stands s live)) (λ n e z. same.members n ∙ z) k.outside;
  sent = subst (λ (ms : List Sending). member_sends ms ≤ 32) (sym held) k.sent;
  told_none = λ h. ap sent_by_kernel held ∙ k.told_none (sym (running_same (T.procs s) (S.procs s) (stands s live)) ∙ h);
  told_once = subst (λ (ms : List Sending). sent_by_kernel ms ≤ 1) (sym held) k.told_once;
}

-- posts and conclusions change nothing of that
received_stand : (m : Sending) (x : Option Process) → stand (target_after m x) ≡ stand x
received_stand m None = refl
received_stand m (Some q) = by (may_signal m.from q.ids) (is_quiet m q) (is_realtime m.signo) (has_room q)
  where
    by : (a b c d : Bool) → stand (Some (if a then (if b then q else (if c then (if d then with_queued m q else q) else with_pending m.signo q)) else q)) ≡ stand (Some q)
    by false b c d = refl
    by true true c d = refl
    by true false true true = refl
    by true false true false = refl
    by true false false d = refl

pub put_stand : (f : ℕ → Option Process) (k : ℕ) (v : Option Process) → stand v ≡ stand (f k) → (n : ℕ) → stand (put_at f k v n) ≡ stand (f n)
put_stand f k v e n = elim (put_cases f k v n) [
  | inl z ↦ ap stand z.1 ∙ e ∙ sym (ap (λ (i : ℕ). stand (f i)) z.0)
  | inr z ↦ ap stand z.1
]

pub posts_stand : (ms : List Sending) (S : State) (n : ℕ) → stand ((after_posts ms S).procs n) ≡ stand (S.procs n)
unfolding after_posts
posts_stand [] S n = refl
posts_stand (m ∷ ms) S n = posts_stand ms (after_post m S) n ∙ put_stand S.procs m.target (target_after m (S.procs m.target)) (received_stand m (S.procs m.target)) n

pub posts_held : (ms : List Sending) (S : State) (u : ℕ) → (after_posts ms S).held u ≡ S.held u
unfolding after_posts
posts_held [] S u = refl
posts_held (m ∷ ms) S u = posts_held ms (after_post m S) u

noted_stand : (r : ℤ) (x : Option Process) → stand (with_answer_if r x) ≡ stand x
noted_stand r None = refl
noted_stand r (Some q) = refl

pub note_stand : (p : ℕ) (r : ℤ) (S : State) (n : ℕ) → stand ((write_one (SetProc p (with_answer_if r (S.procs p))) S).procs n) ≡ stand (S.procs n)
note_stand p r S n = put_stand S.procs p (with_answer_if r (S.procs p)) (noted_stand r (S.procs p)) n

pub concluded_stand : (c : Conclusion) (rs : List ℤ) (S : State) (n : ℕ) → stand ((after_conclusion c rs S).procs n) ≡ stand (S.procs n)
concluded_stand (Replies r) rs S n = refl
concluded_stand (AnswersPost p) rs S n = note_stand p (first_answer rs) S n
concluded_stand ListsFailed rs S n = refl

pub concluded_held : (c : Conclusion) (rs : List ℤ) (S : State) (u : ℕ) → (after_conclusion c rs S).held u ≡ S.held u
concluded_held (Replies r) rs S u = refl
concluded_held (AnswersPost p) rs S u = refl
concluded_held ListsFailed rs S u = refl
