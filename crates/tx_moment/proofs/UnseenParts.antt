-- What is read of processes apart from their signals is the same, whatever is pending at one of them.
use Rattle.std.proofs.Common.{◌≡◌, ℕ, zero, suc, ◌+◌, Bool, true, false, List, [], ◌∷◌, ◌++◌, Option, Some, None, is_some, if◌then◌else◌, ◌==◌, refl, sym, ap, ap₂, ◌∙◌}
use Rattle.tx_base.specs.declared.limits.TheConstants.{DESCRIPTORS, DESCRIPTIONS}
use Rattle.tx_model.specs.State.{Process, Side, State, Write, SetProc, SetDesc, SetPipe, write_one, with_writes, has_parent, names_at, side_in}
use Rattle.tx_model.specs.Descriptors.{is_named, is_side, has_description, pipe_of, pipes_of, description_removals, pipe_removals, removals, some_below}
use Rattle.tx_model.specs.Words.{names_below, is_named_below, has_side_below}
use Rattle.tx_model.specs.Processes.{ended_process, children_below, children_of, with_parent, orphan_writes}
use Rattle.tx_moment.specs.Unseen.{Signals, resignalled_if, with_signals}
use Rattle.tx_moment.proofs.Resigned.{resign, resigned_all, seen, edit_resigned, write_resigned, written_resigned}

module _ (s : ℕ) (g : Signals) where
  -- what a function sees of a process, if it does not look at what is pending
  pub viewed : {B : Type 0} (view : Option Process → B) → ((x : Option Process) → view (resignalled_if g x) ≡ view x) → (S : State) (n : ℕ) → view ((with_signals s g S).procs n) ≡ view (S.procs n)
  viewed {B} view h S n = ap view (seen s g S n) ∙ by (n == s)
    where
      by : (b : Bool) → view (if b then resignalled_if g (S.procs n) else S.procs n) ≡ view (S.procs n)
      by true = h (S.procs n)
      by false = refl

  parent_viewed : (n : ℕ) (x : Option Process) → has_parent n (resignalled_if g x) ≡ has_parent n x
  parent_viewed n None = refl
  parent_viewed n (Some q) = by (is_some q.status)
    where
      by : (b : Bool) → has_parent n (Some (if b then q else record q { pending = g.pending; queued = g.queued })) ≡ has_parent n (Some q)
      by true = refl
      by false = refl

  names_viewed : (d f : ℕ) (x : Option Process) → names_at d f (resignalled_if g x) ≡ names_at d f x
  names_viewed d f None = refl
  names_viewed d f (Some q) = by (is_some q.status)
    where
      by : (b : Bool) → names_at d f (Some (if b then q else record q { pending = g.pending; queued = g.queued })) ≡ names_at d f (Some q)
      by true = refl
      by false = refl

  names_below_viewed : (d f : ℕ) (x : Option Process) → names_below d f (resignalled_if g x) ≡ names_below d f x
  unfolding some_below
  names_below_viewed d zero x = refl
  names_below_viewed d (suc f) x = ap₂ (λ (a b : Bool). if a then true else b) (names_below_viewed d f x) (names_viewed d f x)

  is_named_below_unseen : (d n : ℕ) (S : State) → is_named_below d n (with_signals s g S) ≡ is_named_below d n S
  unfolding some_below
  is_named_below_unseen d zero S = refl
  is_named_below_unseen d (suc q) S =
      ap₂ (λ (a b : Bool). if a then true else b) (is_named_below_unseen d q S) (viewed (names_below d DESCRIPTORS) (names_below_viewed d DESCRIPTORS) S q)

  pub has_side_unseen : (test : Side → Bool) (k d : ℕ) (S : State) → has_side_below test k d (with_signals s g S) ≡ has_side_below test k d S
  unfolding some_below
  has_side_unseen test k zero S = refl
  has_side_unseen test k (suc d) S = ap (λ (a : Bool). if a then true else is_side test (side_in k (S.descs d))) (has_side_unseen test k d S)

  pub pipes_unseen : (ds : List ℕ) (S : State) → pipes_of ds (with_signals s g S) ≡ pipes_of ds S
  unfolding pipes_of
  pipes_unseen [] S = refl
  pipes_unseen (d ∷ ds) S = ap (λ (ks : List ℕ). pipe_of (S.descs d) ++ ks) (pipes_unseen ds S)

  children_below_unseen : (p n : ℕ) (S : State) → children_below p n (with_signals s g S) ≡ children_below p n S
  unfolding children_below
  children_below_unseen p zero S = refl
  children_below_unseen p (suc q) S =
      ap₂ (λ (b : Bool) (qs : List ℕ). if b then q ∷ qs else qs) (viewed (has_parent p) (parent_viewed p) S q) (children_below_unseen p q S)

  pub children_unseen : (p : ℕ) (S : State) → children_of p (with_signals s g S) ≡ children_of p S
  children_unseen p S = ap (λ (qs : List ℕ). if p == 1 then [] else qs) (children_below_unseen p (S.width + 1) S)

  -- the same descriptions and pipes go
  unnamed_unseen : (ds : List ℕ) (S : State) → description_removals ds (with_signals s g S) ≡ description_removals ds S
  unfolding description_removals
  unnamed_unseen [] S = refl
  unnamed_unseen (d ∷ ds) S =
      ap₂ (λ (b : Bool) (ws : List Write). if b then ws else SetDesc d None ∷ ws) (is_named_below_unseen d (S.width + 1) S) (unnamed_unseen ds S)

  endless_unseen : (ks : List ℕ) (S : State) → pipe_removals ks (with_signals s g S) ≡ pipe_removals ks S
  unfolding pipe_removals
  endless_unseen [] S = refl
  endless_unseen (k ∷ ks) S =
      ap₂ (λ (b : Bool) (ws : List Write). if b then ws else SetPipe k None ∷ ws) (has_side_unseen (λ side. true) k DESCRIPTIONS S) (endless_unseen ks S)

  -- these writes make no process
  pub resigned_append : (xs ys : List Write) → resigned_all s g (xs ++ ys) ≡ resigned_all s g xs ++ resigned_all s g ys
  resigned_append [] ys = refl
  resigned_append (x ∷ xs) ys = ap (λ (ws : List Write). resign s g x ∷ ws) (resigned_append xs ys)

  unnamed_kept : (ds : List ℕ) (S : State) → resigned_all s g (description_removals ds S) ≡ description_removals ds S
  unfolding description_removals
  unnamed_kept [] S = refl
  unnamed_kept (d ∷ ds) S = by (is_named d S) (unnamed_kept ds S)
    where
      by : (b : Bool) → resigned_all s g (description_removals ds S) ≡ description_removals ds S → resigned_all s g (if b then description_removals ds S else SetDesc d None ∷ description_removals ds S) ≡ (if b then description_removals ds S else SetDesc d None ∷ description_removals ds S)
      by true h = h
      by false h = ap (λ (ws : List Write). SetDesc d None ∷ ws) h

  endless_kept : (ks : List ℕ) (S : State) → resigned_all s g (pipe_removals ks S) ≡ pipe_removals ks S
  unfolding pipe_removals
  endless_kept [] S = refl
  endless_kept (k ∷ ks) S = by (has_description k S) (endless_kept ks S)
    where
      by : (b : Bool) → resigned_all s g (pipe_removals ks S) ≡ pipe_removals ks S → resigned_all s g (if b then pipe_removals ks S else SetPipe k None ∷ pipe_removals ks S) ≡ (if b then pipe_removals ks S else SetPipe k None ∷ pipe_removals ks S)
      by true h = h
      by false h = ap (λ (ws : List Write). SetPipe k None ∷ ws) h

  released_kept : (ds : List ℕ) (S : State) → resigned_all s g (removals ds S) ≡ removals ds S
  released_kept ds S =
      let ws : List Write = description_removals ds S in
      let es : List Write = pipe_removals (pipes_of ds S) (with_writes ws S) in
      resigned_append ws es ∙ ap₂ (λ (xs ys : List Write). xs ++ ys) (unnamed_kept ds S) (endless_kept (pipes_of ds S) (with_writes ws S))

  released_unseen : (ds : List ℕ) (S : State) → removals ds (with_signals s g S) ≡ removals ds S
  released_unseen ds S =
      let ws : List Write = description_removals ds S in
      let ks : List ℕ = pipes_of ds S in
      let gone : with_writes ws (with_signals s g S) ≡ with_signals s g (with_writes ws S) =
      ap (λ (vs : List Write). with_writes vs (with_signals s g S)) (sym (unnamed_kept ds S)) ∙ written_resigned s g ws S in
      ap₂ (λ (vs : List Write) (ls : List ℕ). vs ++ pipe_removals ls (with_writes vs (with_signals s g S))) (unnamed_unseen ds S) (pipes_unseen ds S)
      ∙ ap (λ (X : State). ws ++ pipe_removals ks X) gone
      ∙ ap (λ (es : List Write). ws ++ es) (endless_unseen ks (with_writes ws S))

  -- what goes after process p was written
  pub released_after : (ds : List ℕ) (p : ℕ) (x y : Option Process) (S : State) → SetProc p y ≡ resign s g (SetProc p x) →
      removals ds (write_one (SetProc p y) (with_signals s g S)) ≡ resigned_all s g (removals ds (write_one (SetProc p x) S))
  released_after ds p x y S e =
      ap (λ (w : Write). removals ds (write_one w (with_signals s g S))) e
      ∙ ap (removals ds) (write_resigned s g (SetProc p x) S)
      ∙ released_unseen ds (write_one (SetProc p x) S)
      ∙ sym (released_kept ds (write_one (SetProc p x) S))

  orphan_viewed : (x : Option Process) → with_parent 1 (resignalled_if g x) ≡ resignalled_if g (with_parent 1 x)
  orphan_viewed None = refl
  orphan_viewed (Some q) = by (is_some q.status)
    where
      by : (b : Bool) → with_parent 1 (Some (if b then q else record q { pending = g.pending; queued = g.queued }))
          ≡ Some (if b then record q { parent = 1 } else record q { parent = 1; pending = g.pending; queued = g.queued })
      by true = refl
      by false = refl

  pub orphaned_resigned : (qs : List ℕ) (S : State) → orphan_writes qs (with_signals s g S) ≡ resigned_all s g (orphan_writes qs S)
  unfolding orphan_writes
  orphaned_resigned [] S = refl
  orphaned_resigned (q ∷ qs) S = ap₂ (λ (w : Write) (ws : List Write). w ∷ ws) (edit_resigned s g (with_parent 1) orphan_viewed S q) (orphaned_resigned qs S)

  -- an ended process is left
  pub ended_resigned : (p status : ℕ) (me : Process) → SetProc p (Some (ended_process status me)) ≡ resign s g (SetProc p (Some (ended_process status me)))
  ended_resigned p status me = by (p == s)
    where
      by : (b : Bool) → SetProc p (Some (ended_process status me)) ≡ SetProc p (if b then Some (ended_process status me) else Some (ended_process status me))
      by true = refl
      by false = refl
