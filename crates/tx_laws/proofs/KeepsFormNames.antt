-- The calls that concern their own process alone, and dup, dup2 and close, leave a state well formed.
use Rattle.std.proofs.Common.{◌≡◌, ℕ, zero, suc, ◌+◌, ◌<◌, ◌⊎◌, Bool, true, false, List, [], ◌∷◌, length, ℤ, pos, Option, Some, None, is_some, if◌then◌else◌, ◌==◌, slice_index_or, slice_set, refl, sym, ap, ◌∙◌, subst, inl, inr, eq-eqb, eqb-true, arith}
use Rattle.std.proofs.lemmas.List.{length-set}
use Rattle.tx_base.specs.declared.errors.Errno.{Errno}
use Rattle.tx_base.specs.declared.steps.Refusal.{Refusal}
use Rattle.tx_model.specs.Numbers.{error_answer}
use Rattle.tx_model.specs.State.{Process, State, SetProc, write_one, with_writes, is_number, names_at}
use Rattle.tx_model.specs.Effects.{Effect, Inside, idle, with_answer}
use Rattle.tx_model.specs.Words.{Own, own_effect, answer_effect}
use Rattle.tx_model.specs.Forms.{Caller, Outcome, fails, effect_of, caller}
use Rattle.tx_model.specs.Book.{release, dup, dup2, close}
use Rattle.tx_model.specs.Descriptors.{description_named, descriptor, with_descriptor, first_free, option_list, pipes_of, description_removals, pipe_removals}
use Rattle.tx_model.specs.StateLaws.{put_cases}
use Rattle.tx_laws.proofs.InPlace.{KeepsPlace}
use Rattle.tx_model.specs.BookLaws.{dup_lines, dup2_lines, close_lines}
use Rattle.tx_laws.proofs.KeepsFormParts.{IsArranged, IsTabled, IsNamed, IsLinked, names_at_of, tabled_of, linked_of, tabled_edit, form_edit}
use Rattle.tx_laws.proofs.KeepsFormOwn.{KeepsSizes, stays_from, plain}
use Rattle.tx_laws.proofs.KeepsFormReleased.{IsAmong, IsLoose, loosened, released_form}

-- the writes of the effect leave the state well formed
abbrev pub KeepsForm : State → Effect → Type 0
KeepsForm S f = IsArranged (with_writes f.writes S)

pub idle_form : (S : State) (why : Refusal) → IsArranged S → KeepsForm S (idle why)
unfolding with_writes
idle_form S why w = w

-- the process in its place, with its answer
module _ (S : State) (p : ℕ) (me : Process) (e : S.procs p ≡ Some me) (w : IsArranged S) where
  pub noted_form : (r : ℤ) → IsArranged (write_one (SetProc p (Some (with_answer r me))) S)
  noted_form r = form_edit S p me (with_answer r me) e (stays_from p me (with_answer r me) refl refl (plain me (with_answer r me) refl refl refl refl refl refl refl)) refl w

  pub done_form : (r : ℤ) → KeepsForm S (answer_effect p r me)
  unfolding with_writes
  done_form r = noted_form r

  pub own_form : (own : Own) → KeepsPlace me own.process → KeepsSizes me own.process → KeepsForm S (own_effect p own)
  unfolding with_writes
  own_form own k s = form_edit S p me own.process e (stays_from p me own.process k.parent k.status s) k.descriptors w

-- a name among the descriptors after one of them was replaced
pub new_slot : (xs : List (Option ℕ)) (g : ℕ) (v : Option ℕ) (i d : ℕ) → is_number d (slice_index_or (slice_set xs g v) i None) ≡ true
    → (is_number d v ≡ true) ⊎ (is_number d (slice_index_or xs i None) ≡ true)
new_slot [] g v i d h = inr h
new_slot (x ∷ xs) zero v zero d h = inl h
new_slot (x ∷ xs) zero v (suc i) d h = inr h
new_slot (x ∷ xs) (suc g) v zero d h = inr h
new_slot (x ∷ xs) (suc g) v (suc i) d h = new_slot xs g v i d h

pub old_slot : (xs : List (Option ℕ)) (g : ℕ) (v : Option ℕ) (i d : ℕ) → is_number d (slice_index_or xs i None) ≡ true
    → (is_number d (slice_index_or (slice_set xs g v) i None) ≡ true) ⊎ (is_number d (slice_index_or xs g None) ≡ true)
old_slot [] g v i d h = inl h
old_slot (x ∷ xs) zero v zero d h = inr h
old_slot (x ∷ xs) zero v (suc i) d h = inl h
old_slot (x ∷ xs) (suc g) v zero d h = inl h
old_slot (x ∷ xs) (suc g) v (suc i) d h = old_slot xs g v i d h

-- the first free place is one of the list, and names nothing
free_from : (n : ℕ) (xs : List (Option ℕ)) (f : ℕ) → first_free n xs ≡ Some f → (i : ℕ) × (f ≡ n + i) × (slice_index_or xs i None ≡ None) × (i < length xs)
unfolding first_free
free_from n [] f h = cc
free_from n (None ∷ xs) f h = let k : n ≡ f = cc in (0, omega arith, refl, omega arith)
free_from n (Some d ∷ xs) f h =
    let r = free_from (n + 1) xs f h in
    let k : f ≡ n + 1 + r.0 = r.1 in
    let less : r.0 < length xs = r.3 in
    (suc r.0, omega arith, r.2, omega arith)

pub free_place : (xs : List (Option ℕ)) (f : ℕ) → first_free 0 xs ≡ Some f → (slice_index_or xs f None ≡ None) × (f < length xs)
free_place xs f h =
    let r = free_from 0 xs f h in
    let k : f ≡ 0 + r.0 = r.1 in
    let e : r.0 ≡ f = omega arith in
    subst (λ (i : ℕ). (slice_index_or xs i None ≡ None) × (i < length xs)) e (r.2, r.3)

among_listed : (d : ℕ) (v : Option ℕ) → is_number d v ≡ true → IsAmong d (option_list v)
among_listed d None h = cc
among_listed d (Some x) h = inl (sym (eqb-true x d h))

pub number_of : (d f : ℕ) (q : Process) → names_at d f (Some q) ≡ true → is_number d (slice_index_or q.descriptors f None) ≡ true
number_of d f q h = by (is_some q.status) h
  where
    by : (b : Bool) → (if b then false else is_number d (slice_index_or q.descriptors f None)) ≡ true → is_number d (slice_index_or q.descriptors f None) ≡ true
    by true k = cc
    by false k = k

-- a running process is put in its own place with other descriptors
module _ (S : State) (p : ℕ) (me new : Process) (e : S.procs p ≡ Some me) (runs : me.status ≡ None) (l : IsLinked S) where
  abbrev edited : State
  edited = write_one (SetProc p (Some new)) S

  -- what it names is there
  pub own_name : (f d : ℕ) → is_number d (slice_index_or me.descriptors f None) ≡ true → is_some (S.descs d) ≡ true
  own_name f d h = l.names p f d (ap (names_at d f) e ∙ names_at_of d f me runs h)

  pub edit_names : ((f d : ℕ) → is_number d (slice_index_or new.descriptors f None) ≡ true → is_some (S.descs d) ≡ true)
      → (n f d : ℕ) → names_at d f (edited.procs n) ≡ true → is_some (S.descs d) ≡ true
  edit_names now n f d h = elim (put_cases S.procs p (Some new) n) [
    | inl z ↦ now f d (number_of d f new (sym (ap (names_at d f) z.1) ∙ h))
    | inr z ↦ l.names n f d (sym (ap (names_at d f) z.1) ∙ h)
  ]

  -- a description that was named still is, or the process gave it up
  pub edit_named : (P : ℕ → Type 0) → new.status ≡ None
      → ((f d : ℕ) → is_number d (slice_index_or me.descriptors f None) ≡ true → ((g : ℕ) × (is_number d (slice_index_or new.descriptors g None) ≡ true)) ⊎ P d)
      → (d : ℕ) → IsNamed d S → IsNamed d edited ⊎ P d
  edit_named P status given d h = elim (put_cases S.procs p (Some new) h.process) [
    | inl z ↦
        let was : names_at d h.place (Some me) ≡ true = ap (names_at d h.place) (sym (ap S.procs z.0 ∙ e)) ∙ h.names in
        elim (given h.place d (number_of d h.place me was)) [
          | inl a ↦ inl (record { process = h.process; place = a.0; names = ap (names_at d a.0) z.1 ∙ names_at_of d a.0 new status a.1 })
          | inr a ↦ inr a
        ]
    | inr z ↦ inl (record { process = h.process; place = h.place; names = ap (names_at d h.place) z.1 ∙ h.names })
  ]

-- where nothing was given up, nothing goes
loose_form : (T : State) → IsTabled T → IsLoose [] T → IsArranged T
unfolding with_writes description_removals pipe_removals pipes_of
loose_form T t l = released_form [] T t l

-- one descriptor is replaced
module _ (S : State) (p : ℕ) (me : Process) (e : S.procs p ≡ Some me) (runs : me.status ≡ None) (w : IsArranged S) (g : ℕ) (v : Option ℕ) (r : ℤ) where
  abbrev new : Process
  new = with_answer r (with_descriptor g v me)

  abbrev after : State
  after = write_one (SetProc p (Some new)) S

  sized : KeepsSizes me new
  sized = plain me new refl refl refl refl refl (length-set me.descriptors g v) refl

  renamed_tabled : IsTabled after
  renamed_tabled = tabled_edit S p me new e (stays_from p me new refl refl sized) (tabled_of S w)

  renamed_loose : (ds : List ℕ) → ((d : ℕ) → is_number d v ≡ true → is_some (S.descs d) ≡ true) → ((d : ℕ) → is_number d (slice_index_or me.descriptors g None) ≡ true → IsAmong d ds)
      → IsLoose ds after
  renamed_loose ds now given = loosened ds S after refl refl (edit_names S p me new e runs l names) (edit_named S p me new e runs l (λ d. IsAmong d ds) runs old) l
    where
      l : IsLinked S
      l = linked_of S w

      names : (f d : ℕ) → is_number d (slice_index_or new.descriptors f None) ≡ true → is_some (S.descs d) ≡ true
      names f d h = elim (new_slot me.descriptors g v f d h) [ inl z ↦ now d z | inr z ↦ own_name S p me me e runs l f d z ]

      old : (f d : ℕ) → is_number d (slice_index_or me.descriptors f None) ≡ true → ((i : ℕ) × (is_number d (slice_index_or new.descriptors i None) ≡ true)) ⊎ IsAmong d ds
      old f d h = elim (old_slot me.descriptors g v f d h) [ inl z ↦ inl (f, z) | inr z ↦ inr (given d z) ]

  renamed_form : (ds : List ℕ) (inside : Option Inside) → ((d : ℕ) → is_number d v ≡ true → is_some (S.descs d) ≡ true)
      → ((d : ℕ) → is_number d (slice_index_or me.descriptors g None) ≡ true → IsAmong d ds)
      → KeepsForm S (effect_of p me (release ds r (with_descriptor g v me) (caller inside p me S)))
  unfolding with_writes
  renamed_form ds inside now given = released_form ds after renamed_tabled (renamed_loose ds now given)

  -- the descriptor was free
  free_form : slice_index_or me.descriptors g None ≡ None → ((d : ℕ) → is_number d v ≡ true → is_some (S.descs d) ≡ true) → KeepsForm S (answer_effect p r (with_descriptor g v me))
  unfolding with_writes
  free_form free now = loose_form after renamed_tabled (renamed_loose [] now never)
    where
      never : (d : ℕ) → is_number d (slice_index_or me.descriptors g None) ≡ true → ⊥
      never d h = let no : false ≡ true = sym (ap (is_number d) free) ∙ h in cc

module _ (S : State) (p : ℕ) (me : Process) (inside : Option Inside) (e : S.procs p ≡ Some me) (runs : me.status ≡ None) (w : IsArranged S) where
  abbrev c : Caller
  c = caller inside p me S

  -- what holds of an outcome whose effect leaves the state well formed
  abbrev pub FormKept : Outcome → Type 0
  FormKept outcome = KeepsForm S (effect_of p me outcome)

  pub error_form : (errno : Errno) → FormKept (fails errno)
  error_form errno = done_form S p me e w (error_answer errno)

  -- what a descriptor names is there
  named_there : (v : Option ℕ) (d : ℕ) → description_named me v ≡ Some d → is_some (S.descs d) ≡ true
  named_there None d h = cc
  named_there (Some f) d h = own_name S p me me e runs (linked_of S w) f d (ap (is_number d) h ∙ eq-eqb d d refl)

  same_there : (v : Option ℕ) (d : ℕ) → description_named me v ≡ Some d → (x : ℕ) → (d == x) ≡ true → is_some (S.descs x) ≡ true
  same_there v d h x k = subst (λ (i : ℕ). is_some (S.descs i) ≡ true) (eqb-true d x k) (named_there v d h)

  pub dup_form : (f : ℤ) → FormKept (dup f c)
  dup_form f =
      dup_lines FormKept c error_form f
      λ d g h free. free_form S p me e runs w g (Some d) (pos g) (free_place me.descriptors g free).0 (same_there (descriptor f) d h)

  pub dup2_form : (a b : ℤ) → FormKept (dup2 a b c)
  dup2_form a b =
      dup2_lines FormKept c error_form a b (λ g. done_form S p me e w (pos g))
      λ f d g first h second other.
      renamed_form S p me e runs w g (Some d) (pos g) (option_list (description_named me (Some g))) inside (same_there (Some f) d h) (λ x k. among_listed x (description_named me (Some g)) k)

  pub close_form : (a : ℤ) → FormKept (close a c)
  close_form a =
      close_lines FormKept c error_form a
      λ f d first h. renamed_form S p me e runs w f None (pos 0) (d ∷ []) inside (λ x h. cc) (λ x k. among_listed x (Some d) (sym (ap (is_number x) h) ∙ k))
