-- Well-formed states by parts: the processes at their places, and what names what.
use Rattle.std.proofs.Common.{◌≡◌, ◌≢◌, ℕ, zero, suc, ◌+◌, ◌<◌, ◌≤◌, ◌⊎◌, Bool, true, false, List, [], ◌∷◌, length, Option, Some, None, is_some, is_none, if◌then◌else◌, ◌==◌, slice_index_or, refl, sym, ap, ap₂, ◌∙◌, subst, inl, inr, eq-eqb, eqb-true, arith}
use Rattle.std.proofs.lemmas.Bool.{both_ways, ltb-true}
use Rattle.tx_model.specs.State.{Process, Side, Description, State, SetProc, put_at, write_one, is_number, names_at, side_in, is_between}
use Rattle.tx_model.specs.Descriptors.{is_named, is_side, has_description, some_below}
use Rattle.tx_model.specs.Words.{names_below, is_named_below, has_side_below}
use Rattle.tx_model.specs.Answer.{is_running}
use Rattle.tx_model.specs.StateLaws.{put_cases}
use Rattle.tx_laws.specs.WellFormed.{HasSizes, IsPlaced, IsFirst}
use Rattle.tx_base.specs.declared.limits.TheConstants.{PIPE_BYTES}

-- a well-formed state, the limits of what its processes have apart
pub record IsArranged (S : State) : Type 0 where
  pub first : (q : Process) × (S.procs 1 ≡ Some q) × IsFirst q
  pub placed : (n : ℕ) (q : Process) → S.procs n ≡ Some q → IsPlaced S n q
  pub names : (n f d : ℕ) → names_at d f (S.procs n) ≡ true → is_some (S.descs d) ≡ true
  pub named : (d : ℕ) (x : Description) → S.descs d ≡ Some x → (is_named d S ≡ true) × (d < 64) × (is_some (S.pipes x.pipe) ≡ true)
  pub pipes : (k : ℕ) (bytes : List ℕ) → S.pipes k ≡ Some bytes → (has_description k S ≡ true) × (k < 32) × (length bytes ≤ PIPE_BYTES)

-- the part of the processes
pub record IsTabled (S : State) : Type 0 where
  pub first : (q : Process) × (S.procs 1 ≡ Some q) × IsFirst q
  pub placed : (n : ℕ) (q : Process) → S.procs n ≡ Some q → IsPlaced S n q

-- a descriptor that names the description
pub record IsNamed (d : ℕ) (S : State) : Type 0 where
  pub process : ℕ
  pub place : ℕ
  pub names : names_at d place (S.procs process) ≡ true

-- a description that is an end of the pipe
pub record IsEnd (k : ℕ) (S : State) : Type 0 where
  pub number : ℕ
  pub description : Description
  pub there : S.descs number ≡ Some description
  pub pipe : description.pipe ≡ k

-- the part of the names
pub record IsLinked (S : State) : Type 0 where
  pub names : (n f d : ℕ) → names_at d f (S.procs n) ≡ true → is_some (S.descs d) ≡ true
  pub named : (d : ℕ) (x : Description) → S.descs d ≡ Some x → IsNamed d S × (d < 64) × (is_some (S.pipes x.pipe) ≡ true)
  pub pipes : (k : ℕ) (bytes : List ℕ) → S.pipes k ≡ Some bytes → IsEnd k S × (k < 32) × (length bytes ≤ PIPE_BYTES)

either : (a b : Bool) → (if a then true else b) ≡ true → (a ≡ true) ⊎ (b ≡ true)
either true b h = inl refl
either false b h = inr h

either_left : (a b : Bool) → a ≡ true → (if a then true else b) ≡ true
either_left a b h = rw h refl

either_right : (a b : Bool) → b ≡ true → (if a then true else b) ≡ true
either_right true b h = refl
either_right false b h = h

pub some_of : {A : Type 0} (x : Option A) → is_some x ≡ true → (y : A) × (x ≡ Some y)
some_of {A} None h = cc
some_of {A} (Some y) h = (y, refl)

pub same_or_other : (n m : ℕ) → (n ≡ m) ⊎ (n ≢ m)
same_or_other n m = by (n == m) refl
  where
    by : (b : Bool) → (n == m) ≡ b → (n ≡ m) ⊎ (n ≢ m)
    by true e = inl (eqb-true n m e)
    by false e = inr (λ z. both_ways (n == m) e (eq-eqb n m z))

pub less_of : (n m : ℕ) → n < suc m → n ≢ m → n < m
less_of n m h ne = omega arith

-- the tests find a name that there is
names_from : (d n f : ℕ) (x : Option Process) → f < n → names_at d f x ≡ true → names_below d n x ≡ true
unfolding some_below
names_from d zero f x h e = absurd (omega arith)
names_from d (suc n) f x h e = elim (same_or_other f n) [
  | inl z ↦ either_right (names_below d n x) (names_at d n x) (subst (λ (i : ℕ). names_at d i x ≡ true) z e)
  | inr z ↦ either_left (names_below d n x) (names_at d n x) (names_from d n f x (less_of f n h z) e)
]

names_found : (d n : ℕ) (x : Option Process) → names_below d n x ≡ true → (f : ℕ) × (names_at d f x ≡ true)
unfolding some_below
names_found d zero x h = cc
names_found d (suc n) x h = elim (either (names_below d n x) (names_at d n x) h) [ inl e ↦ names_found d n x e | inr e ↦ (n, e) ]

named_from : (d m n : ℕ) (S : State) → n < m → names_below d 16 (S.procs n) ≡ true → is_named_below d m S ≡ true
unfolding some_below
named_from d zero n S h e = absurd (omega arith)
named_from d (suc m) n S h e = elim (same_or_other n m) [
  | inl z ↦ either_right (is_named_below d m S) (names_below d 16 (S.procs m)) (subst (λ (i : ℕ). names_below d 16 (S.procs i) ≡ true) z e)
  | inr z ↦ either_left (is_named_below d m S) (names_below d 16 (S.procs m)) (named_from d m n S (less_of n m h z) e)
]

named_found : (d m : ℕ) (S : State) → is_named_below d m S ≡ true → IsNamed d S
unfolding some_below
named_found d zero S h = cc
named_found d (suc m) S h = elim (either (is_named_below d m S) (names_below d 16 (S.procs m)) h) [
  | inl e ↦ named_found d m S e
  | inr e ↦ let r = names_found d 16 (S.procs m) e in record { process = m; place = r.0; names = r.1 }
]

pub name_found : (d : ℕ) (S : State) → is_named d S ≡ true → IsNamed d S
name_found d S h = named_found d (S.width + 1) S h

-- a name stands at a place of the list
place_in : (d f : ℕ) (xs : List (Option ℕ)) → is_number d (slice_index_or xs f None) ≡ true → f < length xs
place_in d f [] h = cc
place_in d zero (x ∷ xs) h = omega arith
place_in d (suc f) (x ∷ xs) h = let less : f < length xs = place_in d f xs h in omega arith

pub number_in : (width n : ℕ) → is_between width n ≡ true → n < width + 1
number_in width zero h = cc
number_in width (suc n) h = let less : n < width = ltb-true n width h in omega arith

-- who names something runs
pub names_of : (d f : ℕ) (x : Option Process) → names_at d f x ≡ true → (q : Process) × (x ≡ Some q) × (q.status ≡ None) × (is_number d (slice_index_or q.descriptors f None) ≡ true)
names_of d f None h = cc
names_of d f (Some q) h = by q.status refl h
  where
    by : (s : Option ℕ) → q.status ≡ s → (if is_some s then false else is_number d (slice_index_or q.descriptors f None)) ≡ true
        → (r : Process) × (Some q ≡ Some r) × (r.status ≡ None) × (is_number d (slice_index_or r.descriptors f None) ≡ true)
    by None e k = (q, refl, e, k)
    by (Some s) e k = cc

pub names_at_of : (d f : ℕ) (q : Process) → q.status ≡ None → is_number d (slice_index_or q.descriptors f None) ≡ true → names_at d f (Some q) ≡ true
names_at_of d f q e h = rw e h

-- the test finds each name of a state whose processes are at their places
pub is_named_from : (d : ℕ) (S : State) → IsTabled S → IsNamed d S → is_named d S ≡ true
is_named_from d S t h =
    let r = names_of d h.place (S.procs h.process) h.names in
    let q : IsPlaced S h.process r.0 = t.placed h.process r.0 r.1 in
    let size : length r.0.descriptors ≡ 16 = q.sizes.descriptors in
    let inner : h.place < length r.0.descriptors = place_in d h.place r.0.descriptors r.3 in
    let less : h.place < 16 = omega arith in
    named_from d (S.width + 1) h.process S (number_in S.width h.process q.number) (names_from d 16 h.place (S.procs h.process) less h.names)

-- the same of the ends of a pipe
abbrev any_side : Side → Bool
any_side side = true

end_from : (k m n : ℕ) (S : State) → n < m → is_side any_side (side_in k (S.descs n)) ≡ true → has_side_below any_side k m S ≡ true
unfolding some_below
end_from k zero n S h e = absurd (omega arith)
end_from k (suc m) n S h e = elim (same_or_other n m) [
  | inl z ↦
      either_right (has_side_below any_side k m S) (is_side any_side (side_in k (S.descs m)))
      (subst (λ (i : ℕ). is_side any_side (side_in k (S.descs i)) ≡ true) z e)
  | inr z ↦ either_left (has_side_below any_side k m S) (is_side any_side (side_in k (S.descs m))) (end_from k m n S (less_of n m h z) e)
]

side_found : (k : ℕ) (x : Option Description) → is_side any_side (side_in k x) ≡ true → (y : Description) × (x ≡ Some y) × (y.pipe ≡ k)
side_found k None h = cc
side_found k (Some y) h = by (y.pipe == k) refl h
  where
    by : (b : Bool) → (y.pipe == k) ≡ b → is_side any_side (if b then Some y.side else None) ≡ true → (z : Description) × (Some y ≡ Some z) × (z.pipe ≡ k)
    by true e l = (y, refl, eqb-true y.pipe k e)
    by false e l = cc

end_found_below : (k m : ℕ) (S : State) → has_side_below any_side k m S ≡ true → IsEnd k S
unfolding some_below
end_found_below k zero S h = cc
end_found_below k (suc m) S h = elim (either (has_side_below any_side k m S) (is_side any_side (side_in k (S.descs m))) h) [
  | inl e ↦ end_found_below k m S e
  | inr e ↦ let r = side_found k (S.descs m) e in record { number = m; description = r.0; there = r.1; pipe = r.2 }
]

pub end_found : (k : ℕ) (S : State) → has_description k S ≡ true → IsEnd k S
end_found k S h = end_found_below k 64 S h

pub has_end_from : (k : ℕ) (S : State) → (e : IsEnd k S) → e.number < 64 → has_description k S ≡ true
has_end_from k S e less = end_from k 64 e.number S less (rw (e.there, eq-eqb e.description.pipe k e.pipe) refl)

-- a state is well formed where both parts of it are
pub form_from : (S : State) → IsTabled S → IsLinked S → IsArranged S
form_from S t l = record {
  first = t.first;
  placed = t.placed;
  names = l.names;
  named = λ d x e. let r = l.named d x e in (is_named_from d S t r.0, r.1, r.2);
  pipes = λ k bytes e.
      let r = l.pipes k bytes e in
      (has_end_from k S r.0 (l.named r.0.number r.0.description r.0.there).1, r.1, r.2);
}

pub tabled_of : (S : State) → IsArranged S → IsTabled S
tabled_of S w = record { first = w.first; placed = w.placed }

pub linked_of : (S : State) → IsArranged S → IsLinked S
linked_of S w = record {
  names = w.names;
  named = λ d x e. let r = w.named d x e in (name_found d S r.0, r.1, r.2);
  pipes = λ k bytes e. let r = w.pipes k bytes e in (end_found k S r.0, r.1, r.2);
}

-- a process that stays where it is: nothing comes to be pending at process 1
pub record StaysPlaced (n : ℕ) (me new : Process) : Type 0 where
  pub parent : new.parent ≡ me.parent
  pub status : new.status ≡ me.status
  pub pending : n ≡ 1 → me.pending ≡ 0 → new.pending ≡ 0
  pub queued : n ≡ 1 → length me.queued ≡ 0 → length new.queued ≡ 0
  pub sizes : HasSizes me → HasSizes new

-- a process is put in the place where it was
module _ (S : State) (p : ℕ) (me new : Process) (e : S.procs p ≡ Some me) (k : StaysPlaced p me new) where
  abbrev edited : State
  edited = write_one (SetProc p (Some new)) S

  running : (m : ℕ) → is_running (edited.procs m) ≡ is_running (S.procs m)
  running m = elim (put_cases S.procs p (Some new) m) [
    | inl z ↦
        ap is_running z.1 ∙ ap (λ (s : Option ℕ). is_none s) k.status
        ∙ sym (ap is_running (ap S.procs z.0 ∙ e))
    | inr z ↦ ap is_running z.1
  ]

  stays_first : IsTabled S → (q : Process) × (edited.procs 1 ≡ Some q) × IsFirst q
  stays_first t = elim (put_cases S.procs p (Some new) 1) [
    | inl z ↦
        let one : p ≡ 1 = sym z.0 in
        let same : Some t.first.0 ≡ Some me = sym t.first.1 ∙ ap S.procs z.0 ∙ e in
        let was : t.first.0 ≡ me = cc in
        let f : IsFirst me = subst IsFirst was t.first.2 in
        (new, z.1, record { runs = k.status ∙ f.runs; parent = k.parent ∙ f.parent; pending = k.pending one f.pending; queued = k.queued one f.queued })
    | inr z ↦ (t.first.0, z.1 ∙ t.first.1, t.first.2)
  ]

  stays_here : IsTabled S → IsPlaced edited p new
  stays_here t =
      let was : IsPlaced S p me = t.placed p me e in
      record {
        number = was.number;
        parent = λ ne. running new.parent ∙ ap (λ (m : ℕ). is_running (S.procs m)) k.parent ∙ was.parent ne;
        other = λ z. was.other (sym k.parent ∙ z);
        sizes = k.sizes was.sizes;
      }

  stays_placed : IsTabled S → (n : ℕ) (q : Process) → edited.procs n ≡ Some q → IsPlaced edited n q
  stays_placed t n q h = elim (put_cases S.procs p (Some new) n) [
    | inl z ↦
        let both : Some new ≡ Some q = sym z.1 ∙ h in
        let same : new ≡ q = cc in
        subst (λ (m : ℕ). IsPlaced edited m q) (sym z.0) (subst (λ (r : Process). IsPlaced edited p r) same (stays_here t))
    | inr z ↦
        let was : IsPlaced S n q = t.placed n q (sym z.1 ∙ h) in
        record { number = was.number; parent = λ ne. running q.parent ∙ was.parent ne; other = was.other; sizes = was.sizes }
  ]

  pub tabled_edit : IsTabled S → IsTabled (write_one (SetProc p (Some new)) S)
  tabled_edit t = record { first = stays_first t; placed = stays_placed t }

-- the same descriptions and pipes, with names of what is there, and each description named as before
pub relinked : (S T : State) → T.descs ≡ S.descs → T.pipes ≡ S.pipes → ((n f d : ℕ) → names_at d f (T.procs n) ≡ true → is_some (S.descs d) ≡ true)
    → ((d : ℕ) → IsNamed d S → IsNamed d T) → IsLinked S → IsLinked T
relinked S T descs pipes new old l = record {
  names = λ n f d h. ap (λ (g : ℕ → Option Description). is_some (g d)) descs ∙ new n f d h;
  named = λ d x h.
      let r = l.named d x (ap (λ (g : ℕ → Option Description). g d) (sym descs) ∙ h) in
      (old d r.0, r.1, ap (λ (g : ℕ → Option (List ℕ)). is_some (g x.pipe)) pipes ∙ r.2);
  pipes = λ k bytes h.
      let r = l.pipes k bytes (ap (λ (g : ℕ → Option (List ℕ)). g k) (sym pipes) ∙ h) in
      (record { number = r.0.number; description = r.0.description; there = ap (λ (g : ℕ → Option Description). g r.0.number) descs ∙ r.0.there; pipe = r.0.pipe }, r.1, r.2);
}

-- the same names
pub linked_same : (S T : State) → T.descs ≡ S.descs → T.pipes ≡ S.pipes → ((n f d : ℕ) → names_at d f (T.procs n) ≡ names_at d f (S.procs n)) → IsLinked S → IsLinked T
linked_same S T descs pipes same l =
    relinked S T descs pipes (λ n f d h. l.names n f d (sym (same n f d) ∙ h))
    (λ d h. record { process = h.process; place = h.place; names = same h.process h.place d ∙ h.names }) l

-- a process that stays where it is, with the same descriptors
pub form_edit : (S : State) (p : ℕ) (me new : Process) → S.procs p ≡ Some me → StaysPlaced p me new → new.descriptors ≡ me.descriptors
    → IsArranged S → IsArranged (write_one (SetProc p (Some new)) S)
form_edit S p me new e k descriptors w = form_from T (tabled_edit S p me new e k (tabled_of S w)) (linked_same S T refl refl same (linked_of S w))
  where
    T : State
    T = write_one (SetProc p (Some new)) S

    mine : (f d : ℕ) → names_at d f (Some new) ≡ names_at d f (Some me)
    mine f d = ap₂ (λ (s : Option ℕ) (xs : List (Option ℕ)). if is_some s then false else is_number d (slice_index_or xs f None)) k.status descriptors

    same : (n f d : ℕ) → names_at d f (put_at S.procs p (Some new) n) ≡ names_at d f (S.procs n)
    same n f d = elim (put_cases S.procs p (Some new) n) [
      | inl z ↦ ap (names_at d f) z.1 ∙ mine f d ∙ sym (ap (names_at d f) (ap S.procs z.0 ∙ e))
      | inr z ↦ ap (names_at d f) z.1
    ]
