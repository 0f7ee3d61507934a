-- What fork, exit and waitpid owe, and the end of a process.
use Rattle.std.proofs.Common.{◌≡◌, ◌≢◌, ℕ, zero, suc, ◌+◌, Bool, true, false, List, [], ◌∷◌, ◌++◌, ℤ, pos, Option, Some, None, is_some, if◌then◌else◌, ◌==◌, slice_index_or, refl, sym, ap, ap₂, ◌∙◌, subst, inl, inr, eq-eqb, eqb-true}
use Rattle.std.proofs.lemmas.Bool.{both_ways}
use Rattle.tx_base.specs.declared.errors.Errno.TheVariants.{NotPermitted, NoChild}
use Rattle.tx_base.specs.declared.steps.Refusal.TheVariants.{NumberTaken, Wait}
use Rattle.tx_base.specs.declared.steps.Reply.TheVariants.{Ended}
use Rattle.tx_model.specs.Numbers.{error_answer}
use Rattle.tx_model.specs.ObjectFacts.{has_head, has_tail}
use Rattle.tx_model.specs.State.{Process, State, Sending, Object, Proc, Desc, Held, Write, SetProc, SetHeld, write_one, has_parent, is_number, names_at, has_object}
use Rattle.tx_model.specs.StateLaws.{AgreeAt, AgreeOn}
use Rattle.tx_model.specs.Effects.{Inside, Replies, with_answer}
use Rattle.tx_laws.specs.Fits.{IsIn}
use Rattle.tx_model.specs.Descriptors.{open_in, pipes_of, removals, desc_objects, desc_pipe_objects}
use Rattle.tx_model.specs.Processes.{ended_process, children_below, children_of, with_parent, orphan_writes, child_notice, NotTold, AtOnce, parent_notice, notice_now, notice_held, ending, held_objects, ending_objects, exit_status, pid_of, procs_of}
use Rattle.tx_model.specs.Words.{notice_by, exit_objects, numbered_objects, fork_objects, waitpid_objects, pipe_list, with_status}
use Rattle.tx_model.specs.Forms.{fails, refuses, does, effect_of, ◌when◌, caller}
use Rattle.tx_model.specs.Book.{fork, exit, waitpid}
use Rattle.tx_model.specs.BookLaws.{fork_lines, waitpid_lines}
use Rattle.tx_laws.proofs.Objects.{WriteFits, WritesFit, Covers, writes_append}
use Rattle.tx_laws.proofs.Owed.{IsLocal}
use Rattle.tx_laws.proofs.InPlace.{StaysIn, in_place, kept_fits, done_local}
use Rattle.tx_laws.proofs.OfPages.{none_there, or_same, when_same, Owes, answers_owes, fails_owes, refuses_owes, changes_owes, page_local}
use Rattle.tx_laws.proofs.Released.{lacks_both, agree_left, agree_right, agree_rest, ends_same, released_fits, released_after, descs_held, ends_held, covers_left, covers_right, covers_rest, covers_head}

-- processes are nothing held
procs_held : (u : ℕ) (qs : List ℕ) → has_object (Held u) (procs_of qs) ≡ false
unfolding has_object
procs_held u [] = refl
procs_held u (q ∷ qs) = procs_held u qs

pub held_own : (inside : Option Inside) (i : Inside) → inside ≡ Some i → (u : ℕ) → has_object (Held u) (held_objects inside) ≡ true → u ≡ i.starter
unfolding has_object
held_own None i e u h = cc
held_own (Some inside) i e u h = by (u == inside.starter) refl h
  where
    same : inside ≡ i
    same = cc

    by : (b : Bool) → (u == inside.starter) ≡ b → (if b then true else false) ≡ true → u ≡ i.starter
    by true k l = eqb-true u inside.starter k ∙ ap (λ (x : Inside). x.starter) same
    by false k l = cc

-- a number of the list is none that is not in it
other_number : (all : List Object) (p n : ℕ) → has_object (Proc p) all ≡ true → has_object (Proc n) all ≡ false → (p == n) ≡ false
other_number all p n h k = by (p == n) refl
  where
    by : (b : Bool) → (p == n) ≡ b → b ≡ false
    by true e = absurd (both_ways (has_object (Proc n) all) k (subst (λ (m : ℕ). has_object (Proc m) all ≡ true) (eqb-true p n e) h))
    by false e = refl

-- a child of p is none of another
other_parent : (all : List Object) (p n q : ℕ) → has_object (Proc p) all ≡ true → has_object (Proc n) all ≡ false → (q == p) ≡ true → (q == n) ≡ false
other_parent all p n q h k e = subst (λ (m : ℕ). (m == n) ≡ false) (sym (eqb-true q p e)) (other_number all p n h k)

named_open : (d f : ℕ) (ds : List (Option ℕ)) → is_number d (slice_index_or ds f None) ≡ true → has_object (Desc d) (desc_objects (open_in ds)) ≡ true
unfolding has_object open_in
named_open d f [] h = cc
named_open d zero (None ∷ ds) h = cc
named_open d zero (Some x ∷ ds) h = rw (eq-eqb d x (sym (eqb-true x d h))) refl
named_open d (suc f) (None ∷ ds) h = named_open d f ds h
named_open d (suc f) (Some x ∷ ds) h = has_tail (Desc d) (Desc x) (desc_objects (open_in ds)) (named_open d f ds h)

-- a process names descriptions of its descriptors alone
pub names_none : (all : List Object) (me : Process) (d f : ℕ) → Covers all (desc_objects (open_in me.descriptors)) → has_object (Desc d) all ≡ false → names_at d f (Some me) ≡ false
names_none all me d f c h = by (is_some me.status) (is_number d (slice_index_or me.descriptors f None)) refl
  where
    by : (b a : Bool) → is_number d (slice_index_or me.descriptors f None) ≡ a → (if b then false else a) ≡ false
    by true a e = refl
    by false true e = absurd (both_ways (has_object (Desc d) all) h (c (Desc d) (named_open d f me.descriptors e)))
    by false false e = refl

-- fork
pub child_in : (c : ℕ) (me : Process) → has_object (Proc c) (fork_objects c me) ≡ true
child_in c me = has_head (Proc c) (desc_objects (open_in me.descriptors))

module _ (inside : Option Inside) (p child : ℕ) (me : Process) where
  pub fork_owes : (S : State) → Owes p me S (fork_objects child me) (fork child (caller inside p me S))
  fork_owes S =
      fork_lines (λ o. Owes p me S (fork_objects child me) o) (caller inside p me S) (fails_owes p me S (fork_objects child me)) child (λ z. refuses_owes p me S (fork_objects child me) NumberTaken)
      λ free. changes_owes p me S (fork_objects child me) (pos child) me _ λ all e mine c.
      let k : S.procs child ≡ None = none_there (S.procs child) free in (
        kept_fits p me S all e mine (with_answer (pos child) me) (in_place me _ refl refl refl),
        (
          (c (Proc child) (child_in child me), λ n ne l. rw k (other_number all p n mine l), λ d f l. rw k (names_none all me d f (covers_rest all (Proc child) _ c) l)),
          tt,
        ),
      )

  fork_held : (u : ℕ) → has_object (Held u) (fork_objects child me) ≡ false
  unfolding has_object
  fork_held u = descs_held u (open_in me.descriptors)

  pub fork_local : IsLocal inside p me (λ S. effect_of p me (fork child (caller inside p me S))) (λ S. fork_objects child me)
  fork_local =
      page_local inside p me (fork child) (λ S. fork_objects child me)
      (λ S R a. when_same (is_some (S.procs child)) (is_some (R.procs child)) (refuses NumberTaken) _ _
      (ap is_some (a (Proc child) (has_tail (Proc child) (Proc p) (fork_objects child me) (child_in child me))).equal) (λ z. refl))
      (λ S R a. refl) (λ S u. fork_held u) fork_owes

-- the children of a process
children_below_same : (p n : ℕ) (S R : State) → ((q : ℕ) → has_parent p (S.procs q) ≡ has_parent p (R.procs q)) → children_below p n S ≡ children_below p n R
unfolding children_below
children_below_same p zero S R h = refl
children_below_same p (suc q) S R h = ap₂ (λ (b : Bool) (qs : List ℕ). if b then q ∷ qs else qs) (h q) (children_below_same p q S R h)

pub children_same : (p : ℕ) (S R : State) → AgreeAt S R (Proc p) → children_of p S ≡ children_of p R
children_same p S R a = by (p == 1) refl
  where
    by : (b : Bool) → (p == 1) ≡ b → (if b then [] else children_below p (S.width + 1) S) ≡ (if b then [] else children_below p (R.width + 1) R)
    by true e = refl
    by false e =
        children_below_same p (S.width + 1) S R (a.family (λ k. both_ways (p == 1) e (eq-eqb p 1 k)))
        ∙ ap (λ (w : ℕ). children_below p (w + 1) R) a.width

orphaned_same : (qs : List ℕ) (S R : State) → AgreeOn (procs_of qs) S R → orphan_writes qs S ≡ orphan_writes qs R
unfolding orphan_writes
orphaned_same [] S R a = refl
orphaned_same (q ∷ qs) S R a =
    ap₂ (λ (x : Option Process) (ws : List Write). SetProc q (with_parent 1 x) ∷ ws) (a (Proc q) (has_head (Proc q) (procs_of qs))).equal
    (orphaned_same qs S R (agree_rest (Proc q) (procs_of qs) S R a))

-- a child gets parent 1, which changes the families of its parent and of process 1 alone
orphan_fits : (p q : ℕ) (S : State) (all : List Object) → has_object (Proc p) all ≡ true → has_object (Proc q) all ≡ true → has_parent p (S.procs q) ≡ true → WriteFits S all (SetProc q (with_parent 1 (S.procs q)))
orphan_fits p q S all h g e = (g, λ n ne l. parents n ne l (S.procs q) e, λ d f l. names d f (S.procs q))
  where
    parents : (n : ℕ) → n ≢ 1 → has_object (Proc n) all ≡ false → (x : Option Process) → has_parent p x ≡ true → has_parent n (with_parent 1 x) ≡ has_parent n x
    parents n ne l None k = refl
    parents n ne l (Some c) k = by (1 == n) refl
      where
        by : (b : Bool) → (1 == n) ≡ b → b ≡ (c.parent == n)
        by true a = absurd (ne (sym (eqb-true 1 n a)))
        by false a = sym (other_parent all p n c.parent h l k)

    names : (d f : ℕ) (x : Option Process) → names_at d f (with_parent 1 x) ≡ names_at d f x
    names d f None = refl
    names d f (Some c) = refl

orphans_below_fit : (p n : ℕ) (S : State) (all : List Object) → has_object (Proc p) all ≡ true → Covers all (procs_of (children_below p n S)) → WritesFit S all (orphan_writes (children_below p n S) S)
unfolding children_below orphan_writes
orphans_below_fit p zero S all h c = tt
orphans_below_fit p (suc q) S all h c = by (has_parent p (S.procs q)) refl c (orphans_below_fit p q S all h)
  where
    qs : List ℕ
    qs = children_below p q S

    by : (b : Bool) → has_parent p (S.procs q) ≡ b → Covers all (procs_of (if b then q ∷ qs else qs)) → (Covers all (procs_of qs) → WritesFit S all (orphan_writes qs S))
        → WritesFit S all (orphan_writes (if b then q ∷ qs else qs) S)
    by true e k rest = (orphan_fits p q S all h (covers_head all (Proc q) (procs_of qs) k) e, rest (covers_rest all (Proc q) (procs_of qs) k))
    by false e k rest = rest k

orphans_fit : (p : ℕ) (S : State) (all : List Object) → has_object (Proc p) all ≡ true → Covers all (procs_of (children_of p S)) → WritesFit S all (orphan_writes (children_of p S) S)
unfolding orphan_writes
orphans_fit p S all h c = by (p == 1) c
  where
    by : (b : Bool) → Covers all (procs_of (if b then [] else children_below p (S.width + 1) S)) → WritesFit S all (orphan_writes (if b then [] else children_below p (S.width + 1) S) S)
    by true k = tt
    by false k = orphans_below_fit p (S.width + 1) S all h k

-- what is told to the parent
later_same : (inside : Option Inside) (parent : ℕ) (S R : State) → AgreeOn (held_objects inside) S R
    → notice_held (parent_notice inside parent) parent S ≡ notice_held (parent_notice inside parent) parent R
later_same None parent S R a = by (parent == 1)
  where
    by : (b : Bool) → notice_held (if b then NotTold else AtOnce) parent S ≡ notice_held (if b then NotTold else AtOnce) parent R
    by true = refl
    by false = refl
later_same (Some inside) parent S R a = by (parent == 1) (inside.members parent)
  where
    by : (b d : Bool) → notice_held (if b then NotTold else (notice_by (if d then None else Some inside))) parent S
        ≡ notice_held (if b then NotTold else (notice_by (if d then None else Some inside))) parent R
    by true d = refl
    by false true = refl
    by false false = ap (λ (ms : List Sending). SetHeld inside.starter (ms ++ child_notice parent ∷ []) ∷ []) (a (Held inside.starter) (has_head (Held inside.starter) [])).equal

later_fits : (inside : Option Inside) (parent : ℕ) (S : State) (all : List Object) → Covers all (held_objects inside) → WritesFit S all (notice_held (parent_notice inside parent) parent S)
later_fits None parent S all c = by (parent == 1)
  where
    by : (b : Bool) → WritesFit S all (notice_held (if b then NotTold else AtOnce) parent S)
    by true = tt
    by false = tt
later_fits (Some inside) parent S all c = by (parent == 1) (inside.members parent)
  where
    by : (b d : Bool) → WritesFit S all (notice_held (if b then NotTold else (notice_by (if d then None else Some inside))) parent S)
    by true d = tt
    by false true = tt
    by false false = (covers_head all (Held inside.starter) [] c, tt)

tells_members : (i : Inside) (parent : ℕ) (m : Sending) → IsIn m (notice_now (parent_notice (Some i) parent) parent) → i.members m.target ≡ true
tells_members i parent m h = by (parent == 1) (i.members parent) refl h
  where
    by : (b d : Bool) → i.members parent ≡ d → IsIn m (notice_now (if b then NotTold else (notice_by (if d then None else Some i))) parent) → i.members m.target ≡ true
    by true d e k = absurd k
    by false true e (inl k) = subst (λ (x : Sending). i.members x.target ≡ true) (sym k) e
    by false true e (inr k) = absurd k
    by false false e k = absurd k

-- the end of process p, which is me, as it is now: with the same parent and the same descriptors
module _ (inside : Option Inside) (p status : ℕ) (me now : Process) where
  ends : State → List Object
  ends S = desc_pipe_objects (open_in now.descriptors) S

  children : State → List Object
  children S = procs_of (children_of p S)

  ending_same : (S R : State) → AgreeOn (Proc p ∷ ending_objects (caller inside p now S)) S R → ending status (caller inside p now S) ≡ ending status (caller inside p now R)
  unfolding ends children
  ending_same S R a = λ i. record {
    writes = SetProc p (Some (ended_process status now)) ∷ orphans i ++ released_after (open_in now.descriptors) p (Some (ended_process status now)) S R in_ends i ++ later_same inside now.parent S R in_held i;
    sends = notice_now (parent_notice inside now.parent) now.parent;
    conclusion = Replies Ended;
  }
    where
      others : AgreeOn (ending_objects (caller inside p now S)) S R
      others = agree_rest (Proc p) (ending_objects (caller inside p now S)) S R a

      in_both : AgreeOn (ends S ++ children S) S R
      in_both = agree_left (ends S ++ children S) (held_objects inside) S R others

      in_held : AgreeOn (held_objects inside) S R
      in_held = agree_right (ends S ++ children S) (held_objects inside) S R others

      in_ends : AgreeOn (ends S) S R
      in_ends = agree_left (ends S) (children S) S R in_both

      orphans : orphan_writes (children_of p S) S ≡ orphan_writes (children_of p R) R
      orphans =
          orphaned_same (children_of p S) S R (agree_right (ends S) (children S) S R in_both)
          ∙ ap (λ (qs : List ℕ). orphan_writes qs R) (children_same p S R (a (Proc p) (has_head (Proc p) (ending_objects (caller inside p now S)))))

  ending_foot : (S R : State) → AgreeOn (Proc p ∷ ending_objects (caller inside p now S)) S R → ending_objects (caller inside p now S) ≡ ending_objects (caller inside p now R)
  unfolding ends children
  ending_foot S R a =
      ap₂ (λ (os : List Object) (qs : List ℕ). os ++ procs_of qs ++ held_objects inside)
      (ends_same (open_in now.descriptors) S R
      (agree_left (ends S) (children S) S R (agree_left (ends S ++ children S) (held_objects inside) S R (agree_rest (Proc p) (ending_objects (caller inside p now S)) S R a))))
      (children_same p S R (a (Proc p) (has_head (Proc p) (ending_objects (caller inside p now S)))))

  ending_fits : now.parent ≡ me.parent → now.descriptors ≡ me.descriptors → (S : State) (all : List Object) → S.procs p ≡ Some me → Covers all (Proc p ∷ ending_objects (caller inside p now S))
      → StaysIn S all (ending status (caller inside p now S))
  unfolding ends children
  ending_fits parent descriptors S all e c = (
    (
      goes,
      writes_append S all (orphan_writes (children_of p S) S ++ removals ds T) (notice_held (parent_notice inside now.parent) now.parent S)
          (writes_append S all (orphan_writes (children_of p S) S) (removals ds T) (orphans_fit p S all mine in_children) (released_fits ds S T all refl in_ends))
          (later_fits inside now.parent S all (covers_right all (ends S ++ children S) (held_objects inside) others)),
    ),
    tt,
  )
    where
      ds : List ℕ
      ds = open_in now.descriptors

      T : State
      T = write_one (SetProc p (Some (ended_process status now))) S

      mine : has_object (Proc p) all ≡ true
      mine = covers_head all (Proc p) (ending_objects (caller inside p now S)) c

      others : Covers all (ending_objects (caller inside p now S))
      others = covers_rest all (Proc p) (ending_objects (caller inside p now S)) c

      in_both : Covers all (ends S ++ children S)
      in_both = covers_left all (ends S ++ children S) (held_objects inside) others

      in_children : Covers all (children S)
      in_children = covers_right all (ends S) (children S) in_both

      in_ends : Covers all (ends S)
      in_ends = covers_left all (ends S) (children S) in_both

      in_descs : Covers all (desc_objects (open_in me.descriptors))
      in_descs = subst (λ (fs : List (Option ℕ)). Covers all (desc_objects (open_in fs))) descriptors (covers_left all (desc_objects ds) (pipe_list (pipes_of ds S)) in_ends)

      goes : WriteFits S all (SetProc p (Some (ended_process status now)))
      goes = (mine, λ n ne l. rw e (ap (λ (m : ℕ). m == n) parent), λ d f l. rw e (sym (names_none all me d f in_descs l)))

  ending_held : (S : State) (i : Inside) → inside ≡ Some i → (u : ℕ) → has_object (Held u) (ending_objects (caller inside p now S)) ≡ true → u ≡ i.starter
  unfolding ends children
  ending_held S i e u h = by (has_object (Held u) (held_objects inside)) refl
    where
      both : has_object (Held u) (ends S ++ children S) ≡ false
      both = lacks_both (Held u) (ends S) (children S) (ends_held u (open_in now.descriptors) S) (procs_held u (children_of p S))

      by : (b : Bool) → has_object (Held u) (held_objects inside) ≡ b → u ≡ i.starter
      by true k = held_own inside i e u k
      by false k = absurd (both_ways (has_object (Held u) (ending_objects (caller inside p now S))) (lacks_both (Held u) (ends S ++ children S) (held_objects inside) both k) h)

  pub ending_local : now.parent ≡ me.parent → now.descriptors ≡ me.descriptors → IsLocal inside p me (λ S. ending status (caller inside p now S)) (λ S. ending_objects (caller inside p now S))
  ending_local parent descriptors = record {
    same = ending_same;
    foot = ending_foot;
    fits = ending_fits parent descriptors;
    sends = λ S i e k m h. tells_members i now.parent m (subst (λ (x : Option Inside). IsIn m (notice_now (parent_notice x now.parent) now.parent)) e h);
    holds = ending_held;
  }

-- exit
pub exit_local : (inside : Option Inside) (p : ℕ) (v : ℤ) (me : Process) → IsLocal inside p me (λ S. effect_of p me (exit v (caller inside p me S))) (λ S. exit_objects (caller inside p me S))
exit_local inside p v me = by (p == 1)
  where
    by : (b : Bool) → IsLocal inside p me (λ S. effect_of p me ((fails NotPermitted when b) (does (ending (exit_status v) (caller inside p me S))))) (λ S. if b then [] else ending_objects (caller inside p me S))
    by true = done_local inside p me (error_answer NotPermitted)
    by false = ending_local inside p (exit_status v) me me refl refl

-- waitpid
numbered_held : (u : ℕ) (t : Option ℕ) → has_object (Held u) (numbered_objects t) ≡ false
unfolding has_object
numbered_held u None = refl
numbered_held u (Some t) = refl

module _ (inside : Option Inside) (p : ℕ) (me : Process) (t : ℤ) (nohang : Bool) where
  pub waitpid_owes : (S : State) → Owes p me S (waitpid_objects t S) (waitpid t nohang (caller inside p me S))
  waitpid_owes S =
      let os : List Object = waitpid_objects t S in
      waitpid_lines (λ o. Owes p me S os o) (caller inside p me S) (fails_owes p me S os) t nohang (answers_owes p me S os (pos 0)) (refuses_owes p me S os Wait)
      λ child status q is there mine over. changes_owes p me S os (pos child) (with_status status me) _ λ all e h c. (
        kept_fits p me S all e h (with_answer (pos child) (with_status status me)) (in_place me _ refl refl refl),
        (
          (
            covers_head all (Proc child) [] (subst (λ (x : Option ℕ). Covers all (numbered_objects x)) is c),
            λ n ne l. rw there (sym (other_parent all p n q.parent h l mine)),
            λ d f l. rw (there, over) refl,
          ),
          tt,
        ),
      )

  waitpid_same : (S R : State) → AgreeOn (Proc p ∷ waitpid_objects t S) S R → waitpid t nohang (caller inside p me S) ≡ waitpid t nohang (caller inside p me R)
  waitpid_same S R a =
      or_same (pid_of S.width t) (pid_of R.width t) (fails NoChild) _ _ (ap (λ (w : ℕ). pid_of w t) (a (Proc p) (has_head (Proc p) (waitpid_objects t S))).width)
      λ child e. or_same (S.procs child) (R.procs child) (fails NoChild) _ _
      (a (Proc child) (has_tail (Proc child) (Proc p) (waitpid_objects t S) (rw e (has_head (Proc child) [])))).equal λ q z. refl

  pub waitpid_local : IsLocal inside p me (λ S. effect_of p me (waitpid t nohang (caller inside p me S))) (λ S. waitpid_objects t S)
  waitpid_local =
      page_local inside p me (waitpid t nohang) (λ S. waitpid_objects t S) waitpid_same
      (λ S R a. ap (λ (w : ℕ). numbered_objects (pid_of w t)) (a (Proc p) (has_head (Proc p) (waitpid_objects t S))).width)
      (λ S u. numbered_held u (pid_of S.width t)) waitpid_owes
