-- The descriptions that go with their last names.
use Rattle.std.proofs.Common.{◌≡◌, ◌≢◌, ℕ, ◌-◌, ◌<◌, ◌⊎◌, Bool, true, false, List, [], ◌∷◌, ◌++◌, ℤ, Option, Some, None, if◌then◌else◌, nat_lt, get_or, refl, sym, ap, ◌∙◌, subst, inl, inr, arith}
use Rattle.std.proofs.lemmas.Bool.{both_ways, ltb-true, ltb-false}
use Rattle.tx_model.specs.Book.{release}
use Rattle.tx_model.specs.Forms.{Caller}
use Rattle.tx_model.specs.State.{Process, State, Write, SetProc, SetDesc, SetPipe, put_at, write_one, with_writes}
use Rattle.tx_model.specs.Effects.{with_answer}
use Rattle.tx_model.specs.Descriptors.{is_named, has_description, pipes_of, description_removals, pipe_removals, removals}
use Rattle.tx_model.specs.StateLaws.{put_here, put_cases, put_there}
use Rattle.tx_desc.specs.declared.opened.Opened.{Opened}
use Rattle.tx_desc.specs.Places.{Descriptors}
use Rattle.tx_desc.specs.Descriptions.{HasDescs, described, description_at, changed_at, with_more, with_fewer}
use Rattle.tx_desc.specs.Outcomes.{state_after}
use Rattle.tx_desc.specs.Counts.{names_in, HasNames, Agrees, HasNamed}
use Rattle.tx_desc.proofs.Counting.{changed_each}

-- the number is one of these
abbrev pub IsIn : ℕ → List ℕ → Type 0
IsIn k [] = ⊥
IsIn k (d ∷ ds) = (k ≡ d) ⊎ IsIn k ds

-- each description is as it was, or is one of these and is gone
abbrev pub Sheds : List ℕ → List (Option Opened) → List (Option Opened) → Type 0
Sheds ds old new = (k : ℕ) → (description_at new k ≡ description_at old k) ⊎ (IsIn k ds × (get_or new k None ≡ None))

-- no description comes to be there or goes, but for its count
abbrev pub SameDescs : List (Option Opened) → List (Option Opened) → Type 0
SameDescs old new = (k : ℕ) → description_at new k ≡ description_at old k

pub described_more : (n : ℕ) (p : Option Opened) → described (with_more n p) ≡ described p
described_more n None = refl
described_more n (Some o) = refl

pub raise_same : (x : Option ℕ) (D : List (Option Opened)) → SameDescs D (changed_at (with_more 1) x D)
raise_same x D = changed_each (λ e p. described p ≡ description_at D e) (with_more 1) x D refl (λ e is. described_more 1 (get_or D e None)) (λ e other. refl)

pub fewer_cases : (n : ℕ) (p : Option Opened) → (described (with_fewer n p) ≡ described p) ⊎ (with_fewer n p ≡ None)
fewer_cases n None = inr refl
fewer_cases n (Some o) = by (nat_lt n o.names)
  where
    by : (b : Bool) → (described (if b then Some (record { desc = o.desc; names = o.names - n }) else None) ≡ described (Some o))
        ⊎ (◌≡◌ {A = Option Opened} (if b then Some (record { desc = o.desc; names = o.names - n }) else None) None)
    by true = inl refl
    by false = inr refl

-- one name fewer, of one of these descriptions
pub lower_sheds : (ds : List ℕ) (x : Option ℕ) (old mid : List (Option Opened)) → ((d : ℕ) → x ≡ Some d → IsIn d ds) →
    Sheds ds old mid → Sheds ds old (changed_at (with_fewer 1) x mid)
lower_sheds ds x old mid among sheds =
    changed_each (λ e p. (described p ≡ description_at old e) ⊎ (IsIn e ds × (p ≡ None))) (with_fewer 1) x mid refl
    (λ e is. elim (fewer_cases 1 (get_or mid e None)) [
      | inl same ↦ elim (sheds e) [ inl as_was ↦ inl (same ∙ as_was) | inr gone ↦ inr (gone.0, ap (with_fewer 1) gone.1) ]
      | inr none ↦ inr (among e is, none)
    ])
    (λ e other. sheds e)

pub same_descs : (S : State) (old new : List (Option Opened)) → SameDescs old new → HasDescs S old → HasDescs S new
same_descs S old new same has = λ d. has d ∙ sym (same d)

-- a description that is named stays
go_named : (ds : List ℕ) (S R : State) (k : ℕ) → is_named k S ≡ true → (with_writes (description_removals ds S) R).descs k ≡ R.descs k
unfolding with_writes description_removals
go_named [] S R k named = refl
go_named (d ∷ ds) S R k named = by (λ (Q : State). go_named ds S Q k named) (is_named d S) refl
  where
    by : ((Q : State) → (with_writes (description_removals ds S) Q).descs k ≡ Q.descs k) → (b : Bool) → is_named d S ≡ b → (with_writes (if b then description_removals ds S else SetDesc d None ∷ description_removals ds S) R).descs k ≡ R.descs k
    by again true is = again R
    by again false is =
        again (write_one (SetDesc d None) R)
        ∙ put_there R.descs d None k (λ z. both_ways (is_named d S) is (subst (λ (i : ℕ). is_named i S ≡ true) z named))

-- what was not there is not there
go_none : (ds : List ℕ) (S R : State) (k : ℕ) → R.descs k ≡ None → (with_writes (description_removals ds S) R).descs k ≡ None
unfolding with_writes description_removals
go_none [] S R k none = none
go_none (d ∷ ds) S R k none = by (λ (Q : State) (n : Q.descs k ≡ None). go_none ds S Q k n) (is_named d S)
  where
    by : ((Q : State) → Q.descs k ≡ None → (with_writes (description_removals ds S) Q).descs k ≡ None) → (b : Bool) → (with_writes (if b then description_removals ds S else SetDesc d None ∷ description_removals ds S) R).descs k ≡ None
    by again true = again R none
    by again false = again (write_one (SetDesc d None) R) (elim (put_cases R.descs d None k) [ inl z ↦ z.1 | inr z ↦ z.1 ∙ none ])

-- one that is not named goes, if it is among these
go_unnamed : (ds : List ℕ) (S R : State) (k : ℕ) → is_named k S ≡ false → IsIn k ds → (with_writes (description_removals ds S) R).descs k ≡ None
unfolding with_writes description_removals
go_unnamed [] S R k away among = absurd among
go_unnamed (d ∷ ds) S R k away (inl z) = by (is_named d S) refl
  where
    by : (b : Bool) → is_named d S ≡ b → (with_writes (if b then description_removals ds S else SetDesc d None ∷ description_removals ds S) R).descs k ≡ None
    by true is = absurd (both_ways (is_named d S) (subst (λ (i : ℕ). is_named i S ≡ false) z away) is)
    by false is = go_none ds S (write_one (SetDesc d None) R) k (subst (λ (i : ℕ). put_at R.descs d None i ≡ None) (sym z) (put_here R.descs d None))
go_unnamed (d ∷ ds) S R k away (inr among) = by (λ (Q : State). go_unnamed ds S Q k away among) (is_named d S)
  where
    by : ((Q : State) → (with_writes (description_removals ds S) Q).descs k ≡ None) → (b : Bool) → (with_writes (if b then description_removals ds S else SetDesc d None ∷ description_removals ds S) R).descs k ≡ None
    by again true = again R
    by again false = again (write_one (SetDesc d None) R)

not_there : (n : ℕ) (p : Option Opened) → n ≡ 0 → HasNames n p → p ≡ None
not_there n None zero_names h = refl
not_there n (Some o) zero_names h = let never : ⊥ = omega (arith, h.0) in absurd never

there_named : (n : ℕ) (p : Option Opened) → 0 < n → HasNames n p → p ≢ None
there_named n None some_names h = λ z. omega (arith, h)
there_named n (Some o) some_names h = λ z. cc

-- the descriptions that the counts leave are the old ones without those that nobody names any more
pub shed_descs : (ds : List ℕ) (ts : List Descriptors) (S : State) (old new : List (Option Opened)) →
    Agrees ts new → HasNamed S ts → HasDescs S old → Sheds ds old new → HasDescs (with_writes (description_removals ds S) S) new
shed_descs ds ts S old new a named has sheds k = by (is_named k S) refl
  where
    by : (b : Bool) → is_named k S ≡ b → (with_writes (description_removals ds S) S).descs k ≡ description_at new k
    by true is =
        let some_names : 0 < names_in k ts = ltb-true 0 (names_in k ts) (sym (named k) ∙ is) in
        go_named ds S S k is ∙ has k ∙ elim (sheds k) [
          | inl same ↦ sym same
          | inr gone ↦ absurd (there_named (names_in k ts) (get_or new k None) some_names (a.counted k) gone.1)
        ]
    by false is =
        let few = ltb-false 0 (names_in k ts) (sym (named k) ∙ is) in
        let none = not_there (names_in k ts) (get_or new k None) (omega arith) (a.counted k) in
        elim (sheds k) [
          | inl same ↦ go_none ds S S k (has k ∙ sym same ∙ ap described none) ∙ sym (ap described none)
          | inr gone ↦ go_unnamed ds S S k is gone.0 ∙ sym (ap described none)
        ]

-- pipes that go take no description with them
endless_descs : (ks : List ℕ) (S R : State) (k : ℕ) → (with_writes (pipe_removals ks S) R).descs k ≡ R.descs k
unfolding with_writes pipe_removals
endless_descs [] S R k = refl
endless_descs (x ∷ ks) S R k = by (λ (Q : State). endless_descs ks S Q k) (has_description x S)
  where
    by : ((Q : State) → (with_writes (pipe_removals ks S) Q).descs k ≡ Q.descs k) → (b : Bool) → (with_writes (if b then pipe_removals ks S else SetPipe x None ∷ pipe_removals ks S) R).descs k ≡ R.descs k
    by again true = again R
    by again false = again (write_one (SetPipe x None) R)

append_written : (xs ys : List Write) (S : State) → with_writes (xs ++ ys) S ≡ with_writes ys (with_writes xs S)
unfolding with_writes
append_written [] ys S = refl
append_written (w ∷ xs) ys S = append_written xs ys (write_one w S)

pub released_descs : (ds : List ℕ) (S : State) (new : List (Option Opened)) → HasDescs (with_writes (description_removals ds S) S) new → HasDescs (with_writes (removals ds S) S) new
released_descs ds S new has k =
    ap (λ (R : State). R.descs k) (append_written (description_removals ds S) (pipe_removals (pipes_of ds S) (with_writes (description_removals ds S) S)) S)
    ∙ endless_descs (pipes_of ds S) (with_writes (description_removals ds S) S) (with_writes (description_removals ds S) S) k ∙ has k

-- the state in which a process stands so, with its answer
abbrev pub answered_in : ℤ → Process → Caller → State
answered_in r q c = write_one (SetProc c.number (Some (with_answer r q))) c.state

pub gives_descs : (ds : List ℕ) (r : ℤ) (q : Process) (c : Caller) (new : List (Option Opened)) →
    HasDescs (with_writes (description_removals ds (answered_in r q c)) (answered_in r q c)) new → HasDescs (state_after (release ds r q) c) new
unfolding with_writes
gives_descs ds r q c new has = released_descs ds (answered_in r q c) new has
