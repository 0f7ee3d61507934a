-- The end of a process leaves a state well formed.
use Rattle.std.proofs.Common.{◌≡◌, ◌≢◌, ℕ, zero, suc, ◌+◌, ◌<◌, ◌⊎◌, Bool, true, false, List, [], ◌∷◌, ◌++◌, ℤ, Option, Some, None, is_some, is_none, if◌then◌else◌, ◌==◌, slice_index_or, refl, sym, ap, ◌∙◌, subst, inl, inr, eq-eqb, eqb-true, arith}
use Rattle.std.proofs.lemmas.Bool.{both_ways, cases_Bool, ne_eqb}
use Rattle.tx_model.specs.Numbers.{error_answer}
use Rattle.tx_model.specs.State.{Process, Description, State, Sending, Object, Proc, Desc, Pipe, Held, Write, SetProc, SetHeld, put_at, write_one, with_writes, has_parent, is_number, names_at, side_in, is_between, has_object}
use Rattle.tx_model.specs.Effects.{Inside}
use Rattle.tx_model.specs.Forms.{effect_of, caller}
use Rattle.tx_model.specs.Book.{exit}
use Rattle.tx_model.specs.BookLaws.{exit_lines}
use Rattle.tx_model.specs.Descriptors.{open_in, pipes_of, removals, desc_objects, desc_pipe_objects}
use Rattle.tx_model.specs.Words.{notice_by, pipe_list}
use Rattle.tx_model.specs.Processes.{ended_process, children_below, children_of, with_parent, orphan_writes, child_notice, ending, exit_status, parent_notice, notice_held, NotTold, AtOnce}
use Rattle.tx_model.specs.Answer.{is_running}
use Rattle.tx_model.specs.StateLaws.{put_here, put_cases, put_there, AgreeAt}
use Rattle.tx_laws.specs.WellFormed.{HasSizes, IsPlaced}
use Rattle.tx_laws.proofs.Released.{lacks_both, ends_held, released_same}
use Rattle.tx_laws.proofs.KeepsFormParts.{IsArranged, same_or_other, less_of, number_in, IsTabled, IsNamed, form_from, tabled_of, linked_of, linked_same}
use Rattle.tx_laws.proofs.KeepsFormReleased.{IsAmong, IsLoose, written_append, tabled_same, loosened, released_form}
use Rattle.tx_laws.proofs.KeepsFormNames.{KeepsForm, done_form, number_of}

-- what is held is no concern
pub held_arranged : (S : State) (held : ℕ → List Sending) → IsArranged S → IsArranged (record S { held = held })
held_arranged S held w =
    let T : State = record S { held = held } in
    form_from T (tabled_same S T refl refl (tabled_of S w)) (linked_same S T refl refl (λ n f d. refl) (linked_of S w))

pub held_form : (S : State) (s : ℕ) (ms : List Sending) → IsArranged S → IsArranged (write_one (SetHeld s ms) S)
held_form S s ms w = held_arranged S (put_at S.held s ms) w

-- what an open descriptor names is among those that are closed
among_open : (d f : ℕ) (xs : List (Option ℕ)) → is_number d (slice_index_or xs f None) ≡ true → IsAmong d (open_in xs)
unfolding open_in
among_open d f [] h = cc
among_open d zero (None ∷ xs) h = cc
among_open d zero (Some x ∷ xs) h = inl (sym (eqb-true x d h))
among_open d (suc f) (None ∷ xs) h = among_open d f xs h
among_open d (suc f) (Some x ∷ xs) h = inr (among_open d f xs h)

-- descriptions and pipes are no processes
descs_procs : (n : ℕ) (ds : List ℕ) → has_object (Proc n) (desc_objects ds) ≡ false
unfolding has_object
descs_procs n [] = refl
descs_procs n (d ∷ ds) = descs_procs n ds

pipes_procs : (n : ℕ) (ks : List ℕ) → has_object (Proc n) (pipe_list ks) ≡ false
unfolding has_object
pipes_procs n [] = refl
pipes_procs n (k ∷ ks) = pipes_procs n ks

ends_procs : (n : ℕ) (ds : List ℕ) (S : State) → has_object (Proc n) (desc_pipe_objects ds S) ≡ false
ends_procs n ds S = lacks_both (Proc n) (desc_objects ds) (pipe_list (pipes_of ds S)) (descs_procs n ds) (pipes_procs n (pipes_of ds S))

-- the same goes where the same is named
released_named : (ds : List ℕ) (T U : State) → T.width ≡ U.width → T.descs ≡ U.descs → T.pipes ≡ U.pipes → ((n f d : ℕ) → names_at d f (T.procs n) ≡ names_at d f (U.procs n))
    → removals ds T ≡ removals ds U
released_named ds T U width descs pipes names = released_same ds T U agree
  where
    agree : (o : Object) → has_object o (desc_pipe_objects ds T) ≡ true → AgreeAt T U o
    agree (Proc n) h = absurd (both_ways (has_object (Proc n) (desc_pipe_objects ds T)) (ends_procs n ds T) h)
    agree (Desc n) h = record { width = width; equal = ap (λ (f : ℕ → Option Description). f n) descs; family = λ q f. names q f n }
    agree (Pipe n) h = record { width = width; equal = ap (λ (f : ℕ → Option (List ℕ)). f n) pipes; family = λ d. ap (λ (f : ℕ → Option Description). side_in n (f d)) descs }
    agree (Held n) h = absurd (both_ways (has_object (Held n) (desc_pipe_objects ds T)) (ends_held n ds T) h)

-- what the children's new parent changes
orphaned_seen : {B : Type 0} (view : State → B) → ((q : ℕ) (x : Option Process) (W : State) → view (write_one (SetProc q x) W) ≡ view W) → (qs : List ℕ) (S V : State)
    → view (with_writes (orphan_writes qs S) V) ≡ view V
unfolding with_writes orphan_writes
orphaned_seen {B} view h [] S V = refl
orphaned_seen {B} view h (q ∷ qs) S V =
    orphaned_seen view h qs S (write_one (SetProc q (with_parent 1 (S.procs q))) V) ∙ h q (with_parent 1 (S.procs q)) V

module _ (p : ℕ) (S : State) where
  -- who is no child stays
  orphaned_other : (N : ℕ) (V : State) (m : ℕ) → has_parent p (S.procs m) ≡ false → (with_writes (orphan_writes (children_below p N S) S) V).procs m ≡ V.procs m
  unfolding with_writes orphan_writes children_below
  orphaned_other zero V m h = refl
  orphaned_other (suc q) V m h = by (has_parent p (S.procs q)) refl (λ W. orphaned_other q W m h)
    where
      by : (b : Bool) → has_parent p (S.procs q) ≡ b → ((W : State) → (with_writes (orphan_writes (children_below p q S) S) W).procs m ≡ W.procs m)
          → (with_writes (orphan_writes (if b then q ∷ children_below p q S else children_below p q S) S) V).procs m ≡ V.procs m
      by true z k =
          let ne : m ≢ q = λ a. both_ways (has_parent p (S.procs m)) h (subst (λ (i : ℕ). has_parent p (S.procs i) ≡ true) (sym a) z) in
          k (write_one (SetProc q (with_parent 1 (S.procs q))) V) ∙ put_there V.procs q (with_parent 1 (S.procs q)) m ne
      by false z k = k V

  -- each child gets parent 1
  orphaned_child : (N : ℕ) (V : State) (m : ℕ) → has_parent p (S.procs m) ≡ true → (m < N) ⊎ (V.procs m ≡ with_parent 1 (S.procs m))
      → (with_writes (orphan_writes (children_below p N S) S) V).procs m ≡ with_parent 1 (S.procs m)
  unfolding with_writes orphan_writes children_below
  orphaned_child zero V m h (inl less) = absurd (omega arith)
  orphaned_child zero V m h (inr z) = z
  orphaned_child (suc q) V m h z = by (has_parent p (S.procs q)) refl (λ W. orphaned_child q W m h)
    where
      later : (m < suc q) ⊎ (V.procs m ≡ with_parent 1 (S.procs m)) → (m < q) ⊎ (put_at V.procs q (with_parent 1 (S.procs q)) m ≡ with_parent 1 (S.procs m))
      later (inl less) = elim (same_or_other m q) [
        | inl a ↦
            inr (subst (λ (i : ℕ). put_at V.procs q (with_parent 1 (S.procs q)) i ≡ with_parent 1 (S.procs i)) (sym a) (put_here V.procs q (with_parent 1 (S.procs q))))
        | inr a ↦ inl (less_of m q less a)
      ]
      later (inr k) = elim (put_cases V.procs q (with_parent 1 (S.procs q)) m) [
        | inl a ↦ inr (a.1 ∙ ap (λ (i : ℕ). with_parent 1 (S.procs i)) (sym a.0))
        | inr a ↦ inr (a.1 ∙ k)
      ]

      passed : has_parent p (S.procs q) ≡ false → (m < suc q) ⊎ (V.procs m ≡ with_parent 1 (S.procs m)) → (m < q) ⊎ (V.procs m ≡ with_parent 1 (S.procs m))
      passed others (inl less) =
          inl (less_of m q less (λ a. both_ways (has_parent p (S.procs m)) (subst (λ (i : ℕ). has_parent p (S.procs i) ≡ false) (sym a) others) h))
      passed others (inr k) = inr k

      by : (b : Bool) → has_parent p (S.procs q) ≡ b
          → ((W : State) → (m < q) ⊎ (W.procs m ≡ with_parent 1 (S.procs m)) → (with_writes (orphan_writes (children_below p q S) S) W).procs m ≡ with_parent 1 (S.procs m))
          → (with_writes (orphan_writes (if b then q ∷ children_below p q S else children_below p q S) S) V).procs m ≡ with_parent 1 (S.procs m)
      by true a k = k (write_one (SetProc q (with_parent 1 (S.procs q))) V) (later z)
      by false a k = k V (passed a z)

-- what a new parent leaves as it was
parent_names : (d f : ℕ) (x : Option Process) → names_at d f (with_parent 1 x) ≡ names_at d f x
parent_names d f None = refl
parent_names d f (Some c) = refl

parent_runs : (x : Option Process) → is_running (with_parent 1 x) ≡ is_running x
parent_runs None = refl
parent_runs (Some c) = refl

child_of_parent : (p : ℕ) (x : Option Process) → has_parent p x ≡ true → (c : Process) × (x ≡ Some c)
child_of_parent p None h = cc
child_of_parent p (Some c) h = (c, refl)

ended_sizes : (status : ℕ) (me : Process) → HasSizes (ended_process status me)
ended_sizes status me = record { slots = refl; pages = refl; descriptors = refl; actions = refl; frames = omega arith; saved = tt; queued = omega arith }

-- process p ends, as it is now
module _ (S : State) (p status : ℕ) (me now : Process) (e : S.procs p ≡ Some me) (runs : me.status ≡ None) (w : IsArranged S) (first : p ≢ 1)
    (parent : now.parent ≡ me.parent) (descriptors : now.descriptors ≡ me.descriptors) where
  abbrev gone : State
  gone = write_one (SetProc p (Some (ended_process status now))) S

  abbrev left : State
  left = with_writes (orphan_writes (children_below p (S.width + 1) S) S) gone

  left_width : left.width ≡ S.width
  left_width = orphaned_seen (λ (W : State). W.width) (λ q x W. refl) (children_below p (S.width + 1) S) S gone

  left_descs : left.descs ≡ S.descs
  left_descs = orphaned_seen (λ (W : State). W.descs) (λ q x W. refl) (children_below p (S.width + 1) S) S gone

  left_pipes : left.pipes ≡ S.pipes
  left_pipes = orphaned_seen (λ (W : State). W.pipes) (λ q x W. refl) (children_below p (S.width + 1) S) S gone

  mine : IsPlaced S p me
  mine = w.placed p me e

  -- it is not its own child
  not_own : has_parent p (S.procs p) ≡ false
  not_own = by (me.parent == p) refl
    where
      by : (b : Bool) → (me.parent == p) ≡ b → has_parent p (S.procs p) ≡ false
      by true z = absurd (mine.other (eqb-true me.parent p z))
      by false z = ap (has_parent p) e ∙ z

  at_own : left.procs p ≡ Some (ended_process status now)
  at_own = orphaned_other p S (S.width + 1) gone p not_own ∙ put_here S.procs p (Some (ended_process status now))

  at_child : (m : ℕ) → has_parent p (S.procs m) ≡ true → left.procs m ≡ with_parent 1 (S.procs m)
  at_child m h =
      let c = child_of_parent p (S.procs m) h in
      orphaned_child p S (S.width + 1) gone m h (inl (number_in S.width m (w.placed m c.0 c.1).number))

  at_other : (m : ℕ) → m ≢ p → has_parent p (S.procs m) ≡ false → left.procs m ≡ S.procs m
  at_other m ne h = orphaned_other p S (S.width + 1) gone m h ∙ put_there S.procs p (Some (ended_process status now)) m ne

  -- what another process is seen as, where its parent is not seen
  seen : {B : Type 0} (view : Option Process → B) → ((x : Option Process) → view (with_parent 1 x) ≡ view x) → (m : ℕ) → m ≢ p → view (left.procs m) ≡ view (S.procs m)
  seen {B} view h m ne = elim (cases_Bool (has_parent p (S.procs m))) [
    | inl z ↦ ap view (at_child m z) ∙ h (S.procs m)
    | inr z ↦ ap view (at_other m ne z)
  ]

  runs_still : (m : ℕ) → m ≢ p → is_running (S.procs m) ≡ true → is_running (left.procs m) ≡ true
  runs_still m ne h = seen is_running parent_runs m ne ∙ h

  -- process 1 is no child
  first_apart : (1 ≢ p) × (has_parent p (S.procs 1) ≡ false)
  first_apart = (λ z. first (sym z), ap (has_parent p) w.first.1 ∙ by p mine.number)
    where
      by : (n : ℕ) → is_between S.width n ≡ true → (w.first.0.parent == n) ≡ false
      by zero z = cc
      by (suc n) z = ap (λ (k : ℕ). k == suc n) w.first.2.parent ∙ ne_eqb 0 (suc n) (λ k. omega arith)

  left_runs : is_running (left.procs 1) ≡ true
  left_runs = runs_still 1 first_apart.0 (ap is_running w.first.1 ∙ ap (λ (x : Option ℕ). is_none x) w.first.2.runs)

  adopted_sizes : (c : Process) → HasSizes c → HasSizes (record c { parent = 1 })
  adopted_sizes c h = record { slots = h.slots; pages = h.pages; descriptors = h.descriptors; actions = h.actions; frames = h.frames; saved = h.saved; queued = h.queued }

  number_left : (n : ℕ) (q : Process) → S.procs n ≡ Some q → is_between left.width n ≡ true
  number_left n q h = subst (λ (k : ℕ). is_between k n ≡ true) (sym left_width) (w.placed n q h).number

  own_placed : IsPlaced left p (ended_process status now)
  own_placed = record {
    number = number_left p me e;
    parent = λ ne. runs_still now.parent (λ z. mine.other (sym parent ∙ z)) (ap (λ (m : ℕ). is_running (S.procs m)) parent ∙ mine.parent ne);
    other = λ z. mine.other (sym parent ∙ z);
    sizes = ended_sizes status now;
  }

  child_placed : (n : ℕ) (c : Process) → S.procs n ≡ Some c → has_parent p (S.procs n) ≡ true → IsPlaced left n (record c { parent = 1 })
  child_placed n c h k = record {
    number = number_left n c h;
    parent = λ ne. left_runs;
    other = λ z. both_ways (has_parent p (S.procs 1)) first_apart.1 (subst (λ (i : ℕ). has_parent p (S.procs i) ≡ true) (sym z) k);
    sizes = adopted_sizes c (w.placed n c h).sizes;
  }

  other_placed : (n : ℕ) (q : Process) → S.procs n ≡ Some q → has_parent p (S.procs n) ≡ false → IsPlaced left n q
  other_placed n q h k =
      let was : IsPlaced S n q = w.placed n q h in
      let apart : q.parent ≢ p = λ z. both_ways (has_parent p (S.procs n)) k (ap (has_parent p) h ∙ eq-eqb q.parent p z) in
      record { number = number_left n q h; parent = λ ne. runs_still q.parent apart (was.parent ne); other = was.other; sizes = was.sizes }

  left_placed : (n : ℕ) (q : Process) → left.procs n ≡ Some q → IsPlaced left n q
  left_placed n q h = elim (same_or_other n p) [
    | inl z ↦
        let both : Some (ended_process status now) ≡ Some q = sym (ap left.procs z ∙ at_own) ∙ h in
        let same : ended_process status now ≡ q = cc in
        subst (λ (m : ℕ). IsPlaced left m q) (sym z) (subst (λ (r : Process). IsPlaced left p r) same own_placed)
    | inr z ↦ elim (cases_Bool (has_parent p (S.procs n))) [
      | inl k ↦
          let c = child_of_parent p (S.procs n) k in
          let both : Some (record c.0 { parent = 1 }) ≡ Some q = sym (at_child n k ∙ ap (with_parent 1) c.1) ∙ h in
          let same : record c.0 { parent = 1 } ≡ q = cc in
          subst (λ (r : Process). IsPlaced left n r) same (child_placed n c.0 c.1 k)
      | inr k ↦ other_placed n q (sym (at_other n z k) ∙ h) k
    ]
  ]

  left_tabled : IsTabled left
  left_tabled = record { first = (w.first.0, at_other 1 first_apart.0 first_apart.1 ∙ w.first.1, w.first.2); placed = left_placed }

  -- it names nothing any more, and the others name the same
  own_names_none : (n f d : ℕ) → n ≡ p → names_at d f (left.procs n) ≡ false
  own_names_none n f d z = ap (names_at d f) (ap left.procs z ∙ at_own)

  names_still : (n f d : ℕ) → n ≢ p → names_at d f (left.procs n) ≡ names_at d f (S.procs n)
  names_still n f d ne = seen (names_at d f) (parent_names d f) n ne

  left_loose : IsLoose (open_in now.descriptors) left
  left_loose = loosened (open_in now.descriptors) S left left_descs left_pipes new old (linked_of S w)
    where
      new : (n f d : ℕ) → names_at d f (left.procs n) ≡ true → is_some (S.descs d) ≡ true
      new n f d h = elim (same_or_other n p) [
        | inl z ↦ absurd (both_ways (names_at d f (left.procs n)) (own_names_none n f d z) h)
        | inr z ↦ w.names n f d (sym (names_still n f d z) ∙ h)
      ]

      old : (d : ℕ) → IsNamed d S → IsNamed d left ⊎ IsAmong d (open_in now.descriptors)
      old d h = elim (same_or_other h.process p) [
        | inl z ↦
            inr (subst (λ (xs : List (Option ℕ)). IsAmong d (open_in xs)) (sym descriptors)
            (among_open d h.place me.descriptors (number_of d h.place me (ap (names_at d h.place) (sym (ap S.procs z ∙ e)) ∙ h.names))))
        | inr z ↦ inl (record { process = h.process; place = h.place; names = names_still h.process h.place d z ∙ h.names })
      ]

  -- what goes is the same as before the children got parent 1
  names_gone : (n f d : ℕ) → names_at d f (gone.procs n) ≡ names_at d f (left.procs n)
  names_gone n f d = elim (same_or_other n p) [
    | inl z ↦ ap (names_at d f) (ap gone.procs z ∙ put_here S.procs p (Some (ended_process status now))) ∙ sym (own_names_none n f d z)
    | inr z ↦ ap (names_at d f) (put_there S.procs p (Some (ended_process status now)) n z) ∙ sym (names_still n f d z)
  ]

  left_form : IsArranged (with_writes (removals (open_in now.descriptors) gone) left)
  left_form =
      subst (λ (ws : List Write). IsArranged (with_writes ws left))
      (sym (released_named (open_in now.descriptors) gone left (sym left_width) (sym left_descs) (sym left_pipes) names_gone))
      (released_form (open_in now.descriptors) left left_tabled left_loose)

  later_form : (inside : Option Inside) (T V : State) → IsArranged V → IsArranged (with_writes (notice_held (parent_notice inside now.parent) now.parent T) V)
  unfolding with_writes
  later_form None T V k = by (now.parent == 1)
    where
      by : (b : Bool) → IsArranged (with_writes (notice_held (if b then NotTold else AtOnce) now.parent T) V)
      by true = k
      by false = k
  later_form (Some inside) T V k = by (now.parent == 1) (inside.members now.parent)
    where
      by : (b c : Bool) → IsArranged (with_writes (notice_held (if b then NotTold else (notice_by (if c then None else Some inside))) now.parent T) V)
      by true c = k
      by false true = k
      by false false = held_form V inside.starter (T.held inside.starter ++ child_notice now.parent ∷ []) k

  children_are : children_of p S ≡ children_below p (S.width + 1) S
  children_are = by (p == 1) refl
    where
      by : (b : Bool) → (p == 1) ≡ b → (if b then [] else children_below p (S.width + 1) S) ≡ children_below p (S.width + 1) S
      by true z = absurd (first (eqb-true p 1 z))
      by false z = refl

  pub ending_form : (inside : Option Inside) → KeepsForm S (ending status (caller inside p now S))
  unfolding with_writes
  ending_form inside =
      let xs : List Write = orphan_writes (children_of p S) S in
      let ys : List Write = removals (open_in now.descriptors) gone in
      let zs : List Write = notice_held (parent_notice inside now.parent) now.parent S in
      let same : with_writes ((xs ++ ys) ++ zs) gone ≡ with_writes zs (with_writes ys (with_writes xs gone)) =
      written_append (xs ++ ys) zs gone ∙ ap (with_writes zs) (written_append xs ys gone) in
      let form : IsArranged (with_writes zs (with_writes ys (with_writes xs gone))) =
      later_form inside S (with_writes ys (with_writes xs gone))
      (subst (λ (qs : List ℕ). IsArranged (with_writes ys (with_writes (orphan_writes qs S) gone))) (sym children_are) left_form) in
      subst (λ (R : State). IsArranged R) (sym same) form

-- exit
pub exit_form : (S : State) (p : ℕ) (me : Process) (inside : Option Inside) → S.procs p ≡ Some me → me.status ≡ None → IsArranged S → (v : ℤ)
    → KeepsForm S (effect_of p me (exit v (caller inside p me S)))
exit_form S p me inside e runs w v =
    exit_lines (λ outcome. KeepsForm S (effect_of p me outcome)) (caller inside p me S) (λ errno. done_form S p me e w (error_answer errno)) v
    λ other. ending_form S p (exit_status v) me me e runs w (λ a. both_ways (p == 1) other (eq-eqb p 1 a)) refl refl inside
