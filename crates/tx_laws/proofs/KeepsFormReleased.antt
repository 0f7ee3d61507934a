-- What goes with names that were given up leaves a state well formed.
use Rattle.std.proofs.Common.{◌≡◌, ◌≢◌, ℕ, ◌<◌, ◌≤◌, ◌⊎◌, Bool, true, false, List, [], ◌∷◌, ◌++◌, length, Option, Some, None, is_some, if◌then◌else◌, refl, sym, ap, ◌∙◌, subst, inl, inr}
use Rattle.std.proofs.lemmas.Bool.{both_ways}
use Rattle.tx_model.specs.State.{Process, Description, State, Write, SetDesc, SetPipe, put_at, write_one, with_writes, names_at, is_between}
use Rattle.tx_model.specs.Descriptors.{is_named, has_description, pipe_of, pipes_of, description_removals, pipe_removals, removals}
use Rattle.tx_model.specs.Answer.{is_running}
use Rattle.tx_model.specs.StateLaws.{put_here, put_cases, put_there}
use Rattle.tx_laws.specs.WellFormed.{IsPlaced}
use Rattle.tx_laws.proofs.KeepsFormParts.{IsArranged, same_or_other, IsTabled, IsNamed, IsEnd, IsLinked, name_found, is_named_from, end_found, has_end_from, form_from}
use Rattle.tx_base.specs.declared.limits.TheConstants.{PIPE_BYTES}

-- the number is one of the list
abbrev pub IsAmong : ℕ → List ℕ → Type 0
IsAmong d [] = ⊥
IsAmong d (x ∷ xs) = (d ≡ x) ⊎ IsAmong d xs

-- a map without those of the numbers that fail the test
unfoldable removed : {A : Type 0} → (ℕ → Bool) → List ℕ → (ℕ → Option A) → ℕ → Option A
removed test [] f = f
removed test (d ∷ ds) f = removed test ds (if test d then f else put_at f d None)

module _ {A : Type 0} (test : ℕ → Bool) where
  step_kept : (d : ℕ) (f : ℕ → Option A) (e : ℕ) → test e ≡ true → (if test d then f else put_at f d None) e ≡ f e
  step_kept d f e h = by (test d) refl
    where
      by : (b : Bool) → test d ≡ b → (if b then f else put_at f d None) e ≡ f e
      by true k = refl
      by false k = put_there f d None e (λ z. both_ways (test d) k (subst (λ (i : ℕ). test i ≡ true) z h))

  step_other : (d : ℕ) (f : ℕ → Option A) (e : ℕ) → e ≢ d → (if test d then f else put_at f d None) e ≡ f e
  step_other d f e ne = by (test d)
    where
      by : (b : Bool) → (if b then f else put_at f d None) e ≡ f e
      by true = refl
      by false = put_there f d None e ne

  step_was : (d : ℕ) (f : ℕ → Option A) (e : ℕ) (x : A) → (if test d then f else put_at f d None) e ≡ Some x → f e ≡ Some x
  step_was d f e x h = by (test d) h
    where
      by : (b : Bool) → (if b then f else put_at f d None) e ≡ Some x → f e ≡ Some x
      by true k = k
      by false k = elim (put_cases f d None e) [ inl z ↦ let no : None ≡ Some x = sym z.1 ∙ k in cc | inr z ↦ sym z.1 ∙ k ]

  step_none : (d : ℕ) (f : ℕ → Option A) (e : ℕ) → f e ≡ None → (if test d then f else put_at f d None) e ≡ None
  step_none d f e h = by (test d)
    where
      by : (b : Bool) → (if b then f else put_at f d None) e ≡ None
      by true = h
      by false = elim (put_cases f d None e) [ inl z ↦ z.1 | inr z ↦ z.1 ∙ h ]

  step_gone : (d : ℕ) (f : ℕ → Option A) (e : ℕ) → e ≡ d → test e ≡ false → (if test d then f else put_at f d None) e ≡ None
  step_gone d f e z h = subst (λ (i : ℕ). (if test d then f else put_at f d None) i ≡ None) (sym z) (by (test d) refl)
    where
      by : (b : Bool) → test d ≡ b → (if b then f else put_at f d None) d ≡ None
      by true k = absurd (both_ways (test d) (subst (λ (i : ℕ). test i ≡ false) z h) k)
      by false k = put_here f d None

  -- what passes the test stays
  removed_kept : (ds : List ℕ) (f : ℕ → Option A) (e : ℕ) → test e ≡ true → removed test ds f e ≡ f e
  unfolding removed
  removed_kept [] f e h = refl
  removed_kept (d ∷ ds) f e h = removed_kept ds (if test d then f else put_at f d None) e h ∙ step_kept d f e h

  -- what fails it goes
  removed_gone : (ds : List ℕ) (f : ℕ → Option A) (e : ℕ) → test e ≡ false → IsAmong e ds ⊎ (f e ≡ None) → removed test ds f e ≡ None
  unfolding removed
  removed_gone [] f e h (inl z) = absurd z
  removed_gone [] f e h (inr z) = z
  removed_gone (d ∷ ds) f e h (inl (inl z)) = removed_gone ds (if test d then f else put_at f d None) e h (inr (step_gone d f e z h))
  removed_gone (d ∷ ds) f e h (inl (inr z)) = removed_gone ds (if test d then f else put_at f d None) e h (inl z)
  removed_gone (d ∷ ds) f e h (inr z) = removed_gone ds (if test d then f else put_at f d None) e h (inr (step_none d f e z))

  -- nothing comes to be there
  removed_was : (ds : List ℕ) (f : ℕ → Option A) (e : ℕ) (x : A) → removed test ds f e ≡ Some x → f e ≡ Some x
  unfolding removed
  removed_was [] f e x h = h
  removed_was (d ∷ ds) f e x h = step_was d f e x (removed_was ds (if test d then f else put_at f d None) e x h)

  -- what is none of the numbers stays
  removed_other : (ds : List ℕ) (f : ℕ → Option A) (e : ℕ) → IsAmong e ds ⊎ (removed test ds f e ≡ f e)
  unfolding removed
  removed_other [] f e = inr refl
  removed_other (d ∷ ds) f e = elim (same_or_other e d) [
    | inl z ↦ inl (inl z)
    | inr z ↦ elim (removed_other ds (if test d then f else put_at f d None) e) [ inl a ↦ inl (inr a) | inr a ↦ inr (a ∙ step_other d f e z) ]
  ]

-- what the writes do to each map
unnamed_descs : (ds : List ℕ) (T V : State) → (with_writes (description_removals ds T) V).descs ≡ removed (λ d. is_named d T) ds V.descs
unfolding with_writes description_removals removed
unnamed_descs [] T V = refl
unnamed_descs (d ∷ ds) T V = by (is_named d T) (λ W. unnamed_descs ds T W)
  where
    by : (b : Bool) → ((W : State) → (with_writes (description_removals ds T) W).descs ≡ removed (λ d. is_named d T) ds W.descs)
        → (with_writes (if b then description_removals ds T else SetDesc d None ∷ description_removals ds T) V).descs ≡ removed (λ d. is_named d T) ds (if b then V.descs else put_at V.descs d None)
    by true k = k V
    by false k = k (write_one (SetDesc d None) V)

unnamed_seen : {B : Type 0} (view : State → B) → ((d : ℕ) (W : State) → view (write_one (SetDesc d None) W) ≡ view W) → (ds : List ℕ) (T V : State)
    → view (with_writes (description_removals ds T) V) ≡ view V
unfolding with_writes description_removals
unnamed_seen {B} view h [] T V = refl
unnamed_seen {B} view h (d ∷ ds) T V = by (is_named d T) (λ W. unnamed_seen view h ds T W)
  where
    by : (b : Bool) → ((W : State) → view (with_writes (description_removals ds T) W) ≡ view W) → view (with_writes (if b then description_removals ds T else SetDesc d None ∷ description_removals ds T) V) ≡ view V
    by true k = k V
    by false k = k (write_one (SetDesc d None) V) ∙ h d V

endless_pipes : (ks : List ℕ) (T V : State) → (with_writes (pipe_removals ks T) V).pipes ≡ removed (λ k. has_description k T) ks V.pipes
unfolding with_writes pipe_removals removed
endless_pipes [] T V = refl
endless_pipes (k ∷ ks) T V = by (has_description k T) (λ W. endless_pipes ks T W)
  where
    by : (b : Bool) → ((W : State) → (with_writes (pipe_removals ks T) W).pipes ≡ removed (λ k. has_description k T) ks W.pipes)
        → (with_writes (if b then pipe_removals ks T else SetPipe k None ∷ pipe_removals ks T) V).pipes ≡ removed (λ k. has_description k T) ks (if b then V.pipes else put_at V.pipes k None)
    by true h = h V
    by false h = h (write_one (SetPipe k None) V)

endless_seen : {B : Type 0} (view : State → B) → ((k : ℕ) (W : State) → view (write_one (SetPipe k None) W) ≡ view W) → (ks : List ℕ) (T V : State)
    → view (with_writes (pipe_removals ks T) V) ≡ view V
unfolding with_writes pipe_removals
endless_seen {B} view h [] T V = refl
endless_seen {B} view h (k ∷ ks) T V = by (has_description k T) (λ W. endless_seen view h ks T W)
  where
    by : (b : Bool) → ((W : State) → view (with_writes (pipe_removals ks T) W) ≡ view W) → view (with_writes (if b then pipe_removals ks T else SetPipe k None ∷ pipe_removals ks T) V) ≡ view V
    by true g = g V
    by false g = g (write_one (SetPipe k None) V) ∙ h k V

pub written_append : (xs ys : List Write) (S : State) → with_writes (xs ++ ys) S ≡ with_writes ys (with_writes xs S)
unfolding with_writes
written_append [] ys S = refl
written_append (x ∷ xs) ys S = written_append xs ys (write_one x S)

-- the same processes
pub tabled_same : (S T : State) → T.width ≡ S.width → T.procs ≡ S.procs → IsTabled S → IsTabled T
tabled_same S T width procs t = record {
  first = (t.first.0, ap (λ (f : ℕ → Option Process). f 1) procs ∙ t.first.1, t.first.2);
  placed = λ n q h.
      let was : IsPlaced S n q = t.placed n q (sym (ap (λ (f : ℕ → Option Process). f n) procs) ∙ h) in
      record {
        number = subst (λ (w : ℕ). is_between w n ≡ true) (sym width) was.number;
        parent = λ ne. ap (λ (f : ℕ → Option Process). is_running (f q.parent)) procs ∙ was.parent ne;
        other = was.other;
        sizes = was.sizes;
      };
}

-- names of the listed descriptions were given up, and nothing has gone yet
pub record IsLoose (ds : List ℕ) (T : State) : Type 0 where
  pub names : (n f d : ℕ) → names_at d f (T.procs n) ≡ true → is_some (T.descs d) ≡ true
  pub named : (d : ℕ) (x : Description) → T.descs d ≡ Some x → (IsNamed d T ⊎ IsAmong d ds) × (d < 64) × (is_some (T.pipes x.pipe) ≡ true)
  pub pipes : (k : ℕ) (bytes : List ℕ) → T.pipes k ≡ Some bytes → IsEnd k T × (k < 32) × (length bytes ≤ PIPE_BYTES)

-- the same descriptions and pipes, with names of what is there
pub loosened : (ds : List ℕ) (S T : State) → T.descs ≡ S.descs → T.pipes ≡ S.pipes → ((n f d : ℕ) → names_at d f (T.procs n) ≡ true → is_some (S.descs d) ≡ true)
    → ((d : ℕ) → IsNamed d S → IsNamed d T ⊎ IsAmong d ds) → IsLinked S → IsLoose ds T
loosened ds S T descs pipes new old l = record {
  names = λ n f d h. ap (λ (g : ℕ → Option Description). is_some (g d)) descs ∙ new n f d h;
  named = λ d x h.
      let r = l.named d x (ap (λ (g : ℕ → Option Description). g d) (sym descs) ∙ h) in
      (old d r.0, r.1, ap (λ (g : ℕ → Option (List ℕ)). is_some (g x.pipe)) pipes ∙ r.2);
  pipes = λ k bytes h.
      let r = l.pipes k bytes (ap (λ (g : ℕ → Option (List ℕ)). g k) (sym pipes) ∙ h) in
      (record { number = r.0.number; description = r.0.description; there = ap (λ (g : ℕ → Option Description). g r.0.number) descs ∙ r.0.there; pipe = r.0.pipe }, r.1, r.2);
}

pipe_among : (d : ℕ) (x : Description) (ds : List ℕ) (T : State) → T.descs d ≡ Some x → IsAmong d ds → IsAmong x.pipe (pipes_of ds T)
unfolding pipes_of
pipe_among d x [] T e h = absurd h
pipe_among d x (c ∷ ds) T e (inl z) =
    let there : T.descs c ≡ Some x = subst (λ (i : ℕ). T.descs i ≡ Some x) z e in
    rw there (inl refl)
pipe_among d x (c ∷ ds) T e (inr z) = by (T.descs c) (pipe_among d x ds T e z)
  where
    by : (y : Option Description) → IsAmong x.pipe (pipes_of ds T) → IsAmong x.pipe (pipe_of y ++ pipes_of ds T)
    by None h = h
    by (Some y) h = inr h

-- what nothing names any more goes
module _ (ds : List ℕ) (T : State) (t : IsTabled T) (l : IsLoose ds T) where
  abbrev fewer : State
  fewer = with_writes (description_removals ds T) T

  abbrev rest : State
  rest = with_writes (pipe_removals (pipes_of ds T) fewer) fewer

  procs_stay : rest.procs ≡ T.procs
  procs_stay =
      endless_seen (λ (W : State). W.procs) (λ k W. refl) (pipes_of ds T) fewer fewer
      ∙ unnamed_seen (λ (W : State). W.procs) (λ d W. refl) ds T T

  width_stays : rest.width ≡ T.width
  width_stays =
      endless_seen (λ (W : State). W.width) (λ k W. refl) (pipes_of ds T) fewer fewer
      ∙ unnamed_seen (λ (W : State). W.width) (λ d W. refl) ds T T

  -- the descriptions that are left
  left_now : (d : ℕ) → rest.descs d ≡ fewer.descs d
  left_now d = endless_seen (λ (W : State). W.descs d) (λ k W. refl) (pipes_of ds T) fewer fewer

  left_then : (d : ℕ) → fewer.descs d ≡ removed (λ d. is_named d T) ds T.descs d
  left_then d = ap (λ (f : ℕ → Option Description). f d) (unnamed_descs ds T T)

  bytes_then : (k : ℕ) → fewer.pipes k ≡ T.pipes k
  bytes_then k = unnamed_seen (λ (W : State). W.pipes k) (λ d W. refl) ds T T

  bytes_now : (k : ℕ) → rest.pipes k ≡ removed (λ k. has_description k fewer) (pipes_of ds T) fewer.pipes k
  bytes_now k = ap (λ (f : ℕ → Option (List ℕ)). f k) (endless_pipes (pipes_of ds T) fewer fewer)

  -- a description that is left was there
  was_there : (d : ℕ) (x : Description) → rest.descs d ≡ Some x → T.descs d ≡ Some x
  was_there d x h = removed_was (λ d. is_named d T) ds T.descs d x (sym (left_then d) ∙ sym (left_now d) ∙ h)

  named_now : (d : ℕ) → IsNamed d T → IsNamed d rest
  named_now d n = record { process = n.process; place = n.place; names = ap (λ (f : ℕ → Option Process). names_at d n.place (f n.process)) procs_stay ∙ n.names }

  -- it is named
  left_named : (d : ℕ) (x : Description) → rest.descs d ≡ Some x → IsNamed d T ⊎ IsAmong d ds → IsNamed d T
  left_named d x h (inl n) = n
  left_named d x h (inr a) = by (is_named d T) refl
    where
      by : (b : Bool) → is_named d T ≡ b → IsNamed d T
      by true e = name_found d T e
      by false e =
          let no : None ≡ Some x = sym (left_now d ∙ left_then d ∙ removed_gone (λ d. is_named d T) ds T.descs d e (inl a)) ∙ h in
          cc

  -- a pipe that is left has an end that is left
  left_end : (k : ℕ) (bytes : List ℕ) → rest.pipes k ≡ Some bytes → IsEnd k T → IsEnd k fewer
  left_end k bytes h e = by (has_description k fewer) refl
    where
      less : e.number < 64
      less = (l.named e.number e.description e.there).1

      gone : has_description k fewer ≡ false → IsAmong e.number ds → IsEnd k fewer
      gone z a =
          let among : IsAmong k (pipes_of ds T) = subst (λ (i : ℕ). IsAmong i (pipes_of ds T)) e.pipe (pipe_among e.number e.description ds T e.there a) in
          let no : None ≡ Some bytes = sym (bytes_now k ∙ removed_gone (λ k. has_description k fewer) (pipes_of ds T) fewer.pipes k z (inl among)) ∙ h in
          cc

      by : (b : Bool) → has_description k fewer ≡ b → IsEnd k fewer
      by true z = end_found k fewer z
      by false z = elim (removed_other (λ d. is_named d T) ds T.descs e.number) [
        | inl a ↦ gone z a
        | inr a ↦ record { number = e.number; description = e.description; there = left_then e.number ∙ a ∙ e.there; pipe = e.pipe }
      ]

  rest_names : (n f d : ℕ) → names_at d f (rest.procs n) ≡ true → is_some (rest.descs d) ≡ true
  rest_names n f d h =
      let now : names_at d f (T.procs n) ≡ true = sym (ap (λ (g : ℕ → Option Process). names_at d f (g n)) procs_stay) ∙ h in
      let still : is_named d T ≡ true = is_named_from d T t (record { process = n; place = f; names = now }) in
      ap (λ (x : Option Description). is_some x) (left_now d ∙ left_then d ∙ removed_kept (λ d. is_named d T) ds T.descs d still) ∙ l.names n f d now

  rest_named : (d : ℕ) (x : Description) → rest.descs d ≡ Some x → IsNamed d rest × (d < 64) × (is_some (rest.pipes x.pipe) ≡ true)
  rest_named d x h =
      let r = l.named d x (was_there d x h) in
      let has : has_description x.pipe fewer ≡ true = has_end_from x.pipe fewer (record { number = d; description = x; there = sym (left_now d) ∙ h; pipe = refl }) r.1 in
      let same : rest.pipes x.pipe ≡ T.pipes x.pipe =
      bytes_now x.pipe ∙ removed_kept (λ k. has_description k fewer) (pipes_of ds T) fewer.pipes x.pipe has ∙ bytes_then x.pipe in
      (named_now d (left_named d x h r.0), r.1, ap (λ (y : Option (List ℕ)). is_some y) same ∙ r.2)

  rest_pipes : (k : ℕ) (bytes : List ℕ) → rest.pipes k ≡ Some bytes → IsEnd k rest × (k < 32) × (length bytes ≤ PIPE_BYTES)
  rest_pipes k bytes h =
      let was : fewer.pipes k ≡ Some bytes = removed_was (λ k. has_description k fewer) (pipes_of ds T) fewer.pipes k bytes (sym (bytes_now k) ∙ h) in
      let r = l.pipes k bytes (sym (bytes_then k) ∙ was) in
      let e = left_end k bytes h r.0 in
      (record { number = e.number; description = e.description; there = left_now e.number ∙ e.there; pipe = e.pipe }, r.1, r.2)

  rest_form : IsArranged rest
  rest_form = form_from rest (tabled_same T rest width_stays procs_stay t) (record { names = rest_names; named = rest_named; pipes = rest_pipes })

  pub released_form : IsArranged (with_writes (removals ds T) T)
  released_form =
      subst (λ (R : State). IsArranged R) (sym (written_append (description_removals ds T) (pipe_removals (pipes_of ds T) fewer) T)) rest_form
