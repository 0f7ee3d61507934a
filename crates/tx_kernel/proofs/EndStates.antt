-- The state after a process has ended: what the changes of others make of it.
use Rattle.std.proofs.Common.{◌≡◌, ◌≢◌, ◌⊎◌, ℕ, zero, suc, Bool, true, false, List, [], ◌∷◌, ◌++◌, option_map, Option, Some, None, if◌then◌else◌, refl, ap, sym, ◌∙◌, inl, inr}
use Rattle.tx_change.specs.States.{changed_by}
use Rattle.tx_change.specs.declared.change.Change.TheVariants.{Pipe}
use Rattle.tx_change.specs.declared.pipes.PipePart.TheVariants.{Whole}
use Rattle.tx_desc.specs.Descriptions.{HasDescs, description_at}
use Rattle.tx_desc.specs.declared.opened.Opened.{Opened}
use Rattle.tx_kernel.specs.Endings.{gone_changes, orphan_changes}
use Rattle.tx_model.specs.Descriptors.{pipe_removals, has_description, is_named, is_side, pipe_of, pipes_of, description_removals, some_below}
use Rattle.tx_model.specs.Words.{has_side_below}
use Rattle.tx_model.specs.Processes.{AtCommit, AtOnce, NotTold, children_below, orphan_writes, with_parent, Notice, notice_held, child_notice}
use Rattle.tx_model.specs.State.{Description, Process, Side, Sending, State, SetDesc, SetHeld, SetPipe, SetProc, Write, has_parent, put_at, side_in, write_one, with_writes}
use Rattle.tx_model.specs.StateLaws.{put_cases}
use Rattle.tx_proc.specs.Parts.{revised}
use Rattle.tx_proc.specs.declared.proc.Part.TheVariants.{Parent}

pub written-append : (front behind : List Write) (S : State) → with_writes (front ++ behind) S ≡ with_writes behind (with_writes front S)
unfolding with_writes
written-append [] behind S = refl
written-append (w ∷ front) behind S = written-append front behind (write_one w S)

-- descriptions that go, beside processes that change

unnamed_proc : (ds : List ℕ) (T X : State) (n : ℕ) (x : Option Process) →
    with_writes (description_removals ds T) (write_one (SetProc n x) X) ≡ write_one (SetProc n x) (with_writes (description_removals ds T) X)
unfolding description_removals with_writes
unnamed_proc [] T X n x = refl
unnamed_proc (d ∷ ds) T X n x = by (unnamed_proc ds T X n x) (unnamed_proc ds T (write_one (SetDesc d None) X) n x) (is_named d T)
  where
    by : with_writes (description_removals ds T) (write_one (SetProc n x) X) ≡ write_one (SetProc n x) (with_writes (description_removals ds T) X) →
        with_writes (description_removals ds T) (write_one (SetProc n x) (write_one (SetDesc d None) X)) ≡ write_one (SetProc n x) (with_writes (description_removals ds T) (write_one (SetDesc d None) X)) →
        (b : Bool) → with_writes (if b then description_removals ds T else SetDesc d None ∷ description_removals ds T) (write_one (SetProc n x) X)
        ≡ write_one (SetProc n x) (with_writes (if b then description_removals ds T else SetDesc d None ∷ description_removals ds T) X)
    by stays goes true = stays
    by stays goes false = goes

pub unnamed_orphans : (ds : List ℕ) (T S X : State) (qs : List ℕ) →
    with_writes (description_removals ds T) (with_writes (orphan_writes qs S) X) ≡ with_writes (orphan_writes qs S) (with_writes (description_removals ds T) X)
unfolding orphan_writes with_writes
unnamed_orphans ds T S X [] = refl
unnamed_orphans ds T S X (q ∷ qs) =
    unnamed_orphans ds T S (write_one (SetProc q (with_parent 1 (S.procs q))) X) qs
    ∙ ap (with_writes (orphan_writes qs S)) (unnamed_proc ds T X q (with_parent 1 (S.procs q)))

-- nothing else changes
unnamed_form : (ds : List ℕ) (T X : State) → with_writes (description_removals ds T) X ≡ record X { descs = (with_writes (description_removals ds T) X).descs }
unfolding description_removals with_writes
unnamed_form [] T X = refl
unnamed_form (d ∷ ds) T X = by (unnamed_form ds T X) (unnamed_form ds T (write_one (SetDesc d None) X)) (is_named d T)
  where
    by : with_writes (description_removals ds T) X ≡ record X { descs = (with_writes (description_removals ds T) X).descs } →
        with_writes (description_removals ds T) (write_one (SetDesc d None) X) ≡ record X { descs = (with_writes (description_removals ds T) (write_one (SetDesc d None) X)).descs } →
        (b : Bool) → with_writes (if b then description_removals ds T else SetDesc d None ∷ description_removals ds T) X
        ≡ record X { descs = (with_writes (if b then description_removals ds T else SetDesc d None ∷ description_removals ds T) X).descs }
    by stays goes true = stays
    by stays goes false = goes

pub unnamed_state : (ds : List ℕ) (T X : State) (D : List (Option Opened)) → HasDescs (with_writes (description_removals ds T) X) D →
    with_writes (description_removals ds T) X ≡ record X { descs = λ d. description_at D d }
unnamed_state ds T X D has = unnamed_form ds T X ∙ (λ i. record X { descs = λ d. has d i })

-- each description stays or goes
pub unnamed_each : (ds : List ℕ) (T X : State) (d : ℕ) →
    ((with_writes (description_removals ds T) X).descs d ≡ X.descs d) ⊎ ((with_writes (description_removals ds T) X).descs d ≡ None)
unfolding description_removals with_writes
unnamed_each [] T X d = inl refl
unnamed_each (e ∷ ds) T X d = by (unnamed_each ds T X d) (unnamed_each ds T (write_one (SetDesc e None) X) d) (is_named e T)
  where
    goes : (x : Option Description) → (x ≡ put_at X.descs e None d) ⊎ (x ≡ None) → (x ≡ X.descs d) ⊎ (x ≡ None)
    goes x (inr none) = inr none
    goes x (inl same) = elim (put_cases X.descs e None d) [
      | inl here ↦ inr (same ∙ here.1)
      | inr there ↦ inl (same ∙ there.1)
    ]

    by : ((with_writes (description_removals ds T) X).descs d ≡ X.descs d) ⊎ ((with_writes (description_removals ds T) X).descs d ≡ None) →
        ((with_writes (description_removals ds T) (write_one (SetDesc e None) X)).descs d ≡ put_at X.descs e None d)
        ⊎ ((with_writes (description_removals ds T) (write_one (SetDesc e None) X)).descs d ≡ None) →
        (b : Bool) → ((with_writes (if b then description_removals ds T else SetDesc e None ∷ description_removals ds T) X).descs d ≡ X.descs d)
        ⊎ ((with_writes (if b then description_removals ds T else SetDesc e None ∷ description_removals ds T) X).descs d ≡ None)
    by kept left true = kept
    by kept left false = goes ((with_writes (description_removals ds T) (write_one (SetDesc e None) X)).descs d) left

-- the children

-- none of these numbers is p
abbrev pub AreApart : ℕ → List ℕ → Type 0
AreApart p [] = Unit {0}
AreApart p (q ∷ qs) = (q ≢ p) × AreApart p qs

pub children_apart : (p n : ℕ) (S : State) → has_parent p (S.procs p) ≡ false → AreApart p (children_below p n S)
unfolding children_below
children_apart p zero S other = tt
children_apart p (suc q) S other = by (children_apart p q S other) (has_parent p (S.procs q)) refl
  where
    by : AreApart p (children_below p q S) → (b : Bool) → has_parent p (S.procs q) ≡ b → AreApart p (if b then q ∷ children_below p q S else children_below p q S)
    by rest true is = (λ same. let own : has_parent p (S.procs p) ≡ true = ap (λ (n : ℕ). has_parent p (S.procs n)) (sym same) ∙ is in let both : true ≡ false = sym own ∙ other in cc, rest)
    by rest false is = rest

-- the children of two states that have the same processes
pub children_same : (p n : ℕ) (S R : State) → ((q : ℕ) → S.procs q ≡ R.procs q) → children_below p n S ≡ children_below p n R
unfolding children_below
children_same p zero S R same = refl
children_same p (suc q) S R same =
    ap (λ (qs : List ℕ). if has_parent p (S.procs q) then q ∷ qs else qs) (children_same p q S R same)
    ∙ ap (λ (x : Option Process). if has_parent p x then q ∷ children_below p q R else children_below p q R) (same q)

parent_given : (x : Option Process) → option_map (λ (me : Process). revised (Parent (record { 0 = 1 })) me) x ≡ with_parent 1 x
parent_given None = refl
parent_given (Some me) = refl

parent_twice : (x : Option Process) → with_parent 1 (with_parent 1 x) ≡ with_parent 1 x
parent_twice None = refl
parent_twice (Some me) = refl

pub orphans_state : (p : ℕ) (qs : List ℕ) (S X : State) → AreApart p qs → ((q : ℕ) → q ≢ p → with_parent 1 (X.procs q) ≡ with_parent 1 (S.procs q)) →
    changed_by (orphan_changes qs) X ≡ with_writes (orphan_writes qs S) X
unfolding orphan_writes with_writes
orphans_state p [] S X apart same = refl
orphans_state p (q ∷ qs) S X apart same =
    ap (λ (x : Option Process). changed_by (orphan_changes qs) (write_one (SetProc q x) X)) (parent_given (X.procs q) ∙ same q apart.0)
    ∙ orphans_state p qs S (write_one (SetProc q (with_parent 1 (S.procs q))) X) apart.1 keeps
  where
    keeps : (r : ℕ) → r ≢ p → with_parent 1 (put_at X.procs q (with_parent 1 (S.procs q)) r) ≡ with_parent 1 (S.procs r)
    keeps r other = elim (put_cases X.procs q (with_parent 1 (S.procs q)) r) [
      | inl here ↦ ap (with_parent 1) here.1 ∙ parent_twice (S.procs q) ∙ ap (λ (n : ℕ). with_parent 1 (S.procs n)) (sym here.0)
      | inr there ↦ ap (with_parent 1) there.1 ∙ same r other
    ]

-- the pipes

pub pipes_same : (ds : List ℕ) (S R : State) → ((d : ℕ) → S.descs d ≡ R.descs d) → pipes_of ds S ≡ pipes_of ds R
unfolding pipes_of
pipes_same [] S R same = refl
pipes_same (d ∷ ds) S R same = ap (λ (ks : List ℕ). pipe_of (S.descs d) ++ ks) (pipes_same ds S R same) ∙ ap (λ (x : Option Description). pipe_of x ++ pipes_of ds R) (same d)

pub sides_same : (test : Side → Bool) (k n : ℕ) (S R : State) → ((d : ℕ) → S.descs d ≡ R.descs d) → has_side_below test k n S ≡ has_side_below test k n R
unfolding some_below
sides_same test k zero S R same = refl
sides_same test k (suc d) S R same =
    ap (λ (b : Bool). if b then true else is_side test (side_in k (S.descs d))) (sides_same test k d S R same)
    ∙ ap (λ (x : Option Description). if has_side_below test k d R then true else is_side test (side_in k x)) (same d)

pub gone_state : (ks : List ℕ) (R T X : State) → ((d : ℕ) → R.descs d ≡ T.descs d) → changed_by (gone_changes ks R) X ≡ with_writes (pipe_removals ks T) X
unfolding gone_changes pipe_removals with_writes
gone_state [] R T X same = refl
gone_state (k ∷ ks) R T X same =
    ap (λ (b : Bool). changed_by (if b then gone_changes ks R else Pipe (record { 0 = k }) (Whole None) ∷ gone_changes ks R) X) (sides_same (λ side. true) k 64 R T same)
    ∙ by (gone_state ks R T X same) (gone_state ks R T (write_one (SetPipe k None) X) same) (has_description k T)
  where
    by : changed_by (gone_changes ks R) X ≡ with_writes (pipe_removals ks T) X →
        changed_by (gone_changes ks R) (write_one (SetPipe k None) X) ≡ with_writes (pipe_removals ks T) (write_one (SetPipe k None) X) →
        (b : Bool) → changed_by (if b then gone_changes ks R else Pipe (record { 0 = k }) (Whole None) ∷ gone_changes ks R) X
        ≡ with_writes (if b then pipe_removals ks T else SetPipe k None ∷ pipe_removals ks T) X
    by stays goes true = stays
    by stays goes false = goes

-- what is held

pub told_same : (told : Notice) (parent : ℕ) (S R : State) → S.held ≡ R.held → notice_held told parent S ≡ notice_held told parent R
told_same NotTold parent S R same = refl
told_same AtOnce parent S R same = refl
told_same (AtCommit s) parent S R same = ap (λ (held : ℕ → List Sending). SetHeld s (held s ++ child_notice parent ∷ []) ∷ []) same
