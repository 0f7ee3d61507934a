-- The tables along the steps of one transaction, made one after another on what others left.
use Rattle.std.proofs.Common.{◌≡◌, inl, inr, ℕ, Bool, true, false, List, [], ◌∷◌, ◌++◌, Option, Some, None, is_some, if◌then◌else◌, ◌==◌, refl, sym, ap, ◌∙◌, subst, eq-eqb, eqb-true}
use Rattle.std.proofs.lemmas.Bool.{both_ways, cases_Bool}
use Rattle.tx_base.specs.declared.marks.Mark.{Mark}
use Rattle.tx_base.specs.declared.steps.Accepted.{Accepted}
use Rattle.tx_base.specs.declared.steps.Reply.{Reply}
use Rattle.tx_base.specs.declared.steps.Step.{Step}
use Rattle.tx_model.specs.State.{State, put_at}
use Rattle.tx_model.specs.StateLaws.{put_cases}
use Rattle.tx_model.specs.Events.{Event, process_of}
use Rattle.tx_model.specs.Membership.{Table, is_of, is_open_of, Progress, Continues, Parks, Forks, Begins, Role, Within, role, event, parked_mark, defers_in, new_mark, table_after}
use Rattle.tx_model.specs.History.{table_of, role_in, event_of}
use Rattle.tx_laws.proofs.Tables.{of_parked}
use Rattle.tx_moment.proofs.Alike.{AlikeFor, step_alike}
use Rattle.tx_moment.proofs.Marks.{ActorFits, actor_fits}

-- each step of the first list is one within the transaction of s, where the second list was before
unfoldable pub IsOwnRun : State → ℕ → List Accepted → List Accepted → Type 0
IsOwnRun S s [] B = Unit {0}
IsOwnRun S s (e ∷ L) B = ((part : Progress) × (role_in S e (L ++ B) ≡ Within s part)) × IsOwnRun S s L B

-- their events, the newest first
unfoldable pub events_over : State → List Accepted → List Accepted → List Event
events_over S [] B = []
events_over S (e ∷ L) B = event_of S e (L ++ B) ∷ events_over S L B

-- the table has no mark of the transaction of s, and s has none
pub record LacksMarks (s : ℕ) (t : Table) : Type 0 where
  pub none : (n : ℕ) → is_of s (t.marks n) ≡ false
  pub starter : t.marks s ≡ None

-- the two tables have the same marks of the transaction of s, and its starter the same mark
pub record SameOwn (s : ℕ) (t v : Table) : Type 0 where
  pub width : t.width ≡ v.width
  pub of : (n : ℕ) → is_of s (t.marks n) ≡ is_of s (v.marks n)
  pub mark : (n : ℕ) → is_of s (t.marks n) ≡ true → t.marks n ≡ v.marks n
  pub starter : t.marks s ≡ v.marks s

-- where a table has no mark of s it has the marks of the other
abbrev pub SameRest : ℕ → Table → Table → Type 0
SameRest s t v = (n : ℕ) → is_of s (t.marks n) ≡ false → t.marks n ≡ v.marks n

closed_by : (s : ℕ) (m : Mark) (ended : Bool) → (m.starter.0 == s) ≡ false → (if ended then false else m.starter.0 == s) ≡ false
closed_by s m true h = refl
closed_by s m false h = h

other_closed : (s : ℕ) (m : Option Mark) → is_of s m ≡ false → is_open_of s m ≡ false
other_closed s None h = refl
other_closed s (Some m) h = closed_by s m m.ended h

own_alike : (s : ℕ) (t v : Table) → SameOwn s t v → AlikeFor s t v
own_alike s t v same = record {
  width = same.width;
  of = same.of;
  unended = λ n.
      elim (cases_Bool (is_of s (t.marks n))) [
        | inl e ↦ ap (is_open_of s) (same.mark n e)
        | inr e ↦ other_closed s (t.marks n) e ∙ sym (other_closed s (v.marks n) (sym (same.of n) ∙ e))
      ];
}

pub none_there : (m : Option Mark) → is_some m ≡ false → m ≡ None
none_there None h = refl
none_there (Some m) h = cc

module _ (s : ℕ) (t v : Table) (same : SameOwn s t v) where
  same_actor : (p : ℕ) (part : Progress) → ActorFits s p (t.marks p) part → t.marks p ≡ v.marks p
  same_actor p Continues fits = same.mark p fits
  same_actor p Parks fits = same.mark p fits
  same_actor p (Forks c) fits = same.mark p fits
  same_actor p (Begins defers) fits = subst (λ (n : ℕ). t.marks n ≡ v.marks n) (sym fits.0) same.starter

  own_starter : (p : ℕ) (part : Progress) → ActorFits s p (t.marks p) part → (x : Mark) → t.marks p ≡ Some x → x.starter.0 ≡ s
  own_starter p Continues fits x e = eqb-true x.starter.0 s (subst (λ (m : Option Mark). is_of s m ≡ true) e fits)
  own_starter p Parks fits x e = eqb-true x.starter.0 s (subst (λ (m : Option Mark). is_of s m ≡ true) e fits)
  own_starter p (Forks c) fits x e = eqb-true x.starter.0 s (subst (λ (m : Option Mark). is_of s m ≡ true) e fits)
  own_starter p (Begins defers) fits x e = let no : false ≡ true = sym fits.1 ∙ ap (λ (m : Option Mark). is_some m) e in cc

  -- a step within the transaction of s is the same on both tables
  pub own_step : (step : Step) (r : Reply) (part : Progress) → role t step r ≡ Within s part → (role t step r ≡ role v step r) × (event t step r ≡ event v step r)
  own_step step r part h =
      let fits : ActorFits s (process_of step) (t.marks (process_of step)) part = actor_fits t step r s part h in
      step_alike t v step r (same_actor (process_of step) part fits)
      (λ x e. subst (λ (u : ℕ). AlikeFor u t v) (sym (own_starter (process_of step) part fits x e)) (own_alike s t v same))

  -- the same mark put at a place of both, which is of s
  put_same : (k : ℕ) (m : Option Mark) → SameOwn s (record { width = t.width; marks = put_at t.marks k m }) (record { width = v.width; marks = put_at v.marks k m })
  put_same k m = record {
    width = same.width;
    of = λ n. at n (n == k);
    mark = λ n. at_mark n (n == k);
    starter = at_starter (s == k);
  }
    where
      at : (n : ℕ) (b : Bool) → is_of s (if b then m else t.marks n) ≡ is_of s (if b then m else v.marks n)
      at n true = refl
      at n false = same.of n

      at_mark : (n : ℕ) (b : Bool) → is_of s (if b then m else t.marks n) ≡ true → (if b then m else t.marks n) ≡ (if b then m else v.marks n)
      at_mark n true h = refl
      at_mark n false h = same.mark n h

      at_starter : (b : Bool) → (if b then m else t.marks s) ≡ (if b then m else v.marks s)
      at_starter true = refl
      at_starter false = same.starter

  -- and leaves them the same
  pub own_after : (p : ℕ) (part : Progress) → ActorFits s p (t.marks p) part → SameOwn s (table_after (Within s part) p t) (table_after (Within s part) p v)
  own_after p Continues fits = same
  own_after p Parks fits =
      subst (λ (m : Option Mark). SameOwn s (table_after (Within s Parks) p t) (record { width = v.width; marks = put_at v.marks p (parked_mark m) }))
      (same.mark p fits) (put_same p (parked_mark (t.marks p)))
  own_after p (Forks c) fits =
      subst (λ (m : Option Mark). SameOwn s (table_after (Within s (Forks c)) p t) (record { width = v.width; marks = put_at v.marks c (Some (new_mark s (defers_in m))) }))
      same.starter (put_same c (Some (new_mark s (defers_in (t.marks s)))))
  own_after p (Begins defers) fits = put_same s (Some (new_mark s defers))

-- a mark of s put at a place leaves the rest the same
rest_put : (s : ℕ) (t v : Table) (k : ℕ) (m : Option Mark) → is_of s m ≡ true → SameRest s t v → SameRest s (record { width = t.width; marks = put_at t.marks k m }) v
rest_put s t v k m own rest n h = elim (put_cases t.marks k m n) [
  | inl e ↦ absurd (both_ways (is_of s (put_at t.marks k m n)) h (ap (is_of s) e.1 ∙ own))
  | inr e ↦ e.1 ∙ rest n (sym (ap (is_of s) e.1) ∙ h)
]

pub self : (s : ℕ) → (s == s) ≡ true
self s = eq-eqb s s refl

pub rest_after : (s : ℕ) (t v : Table) (p : ℕ) (part : Progress) → ActorFits s p (t.marks p) part → SameRest s t v → SameRest s (table_after (Within s part) p t) v
rest_after s t v p Continues fits rest = rest
rest_after s t v p Parks fits rest = rest_put s t v p (parked_mark (t.marks p)) (of_parked s (t.marks p) ∙ fits) rest
rest_after s t v p (Forks c) fits rest = rest_put s t v c (Some (new_mark s (defers_in (t.marks s)))) (self s) rest
rest_after s t v p (Begins defers) fits rest = rest_put s t v s (Some (new_mark s defers)) (self s) rest

-- the steps of the transaction of s, made on other histories that lack its marks
pub record SameRun (S : State) (s : ℕ) (L B C : List Accepted) : Type 0 where
  pub own : SameOwn s (table_of S (L ++ B)) (table_of S (L ++ C))
  pub run : IsOwnRun S s L C
  pub events : events_over S L B ≡ events_over S L C

module _ (S : State) (s : ℕ) (B C : List Accepted) (width : (table_of S B).width ≡ (table_of S C).width) (b : LacksMarks s (table_of S B)) (c : LacksMarks s (table_of S C)) where
  start_same : SameOwn s (table_of S B) (table_of S C)
  start_same = record {
    width = width;
    of = λ n. b.none n ∙ sym (c.none n);
    mark = λ n h. absurd (both_ways (is_of s ((table_of S B).marks n)) (b.none n) h);
    starter = b.starter ∙ sym c.starter;
  }

  -- they are its steps there too, with the same events
  pub same_run : (L : List Accepted) → IsOwnRun S s L B → SameRun S s L B C
  unfolding IsOwnRun events_over table_of
  same_run [] run = record { own = start_same; run = tt; events = refl }
  same_run (e ∷ L) run =
      let t : Table = table_of S (L ++ B) in
      let v : Table = table_of S (L ++ C) in
      let p : ℕ = process_of e.step in
      let part : Progress = run.0.0 in
      let before : SameRun S s L B C = same_run L run.1 in
      let step = own_step s t v before.own e.step e.reply part run.0.1 in
      let there : role_in S e (L ++ C) ≡ Within s part = sym step.0 ∙ run.0.1 in
      let after : SameOwn s (table_after (Within s part) p t) (table_after (Within s part) p v) = own_after s t v before.own p part (actor_fits t e.step e.reply s part run.0.1) in
      record {
        own = subst (λ (r : Role). SameOwn s (table_after r p t) (table_after (role v e.step e.reply) p v)) (sym run.0.1)
            (subst (λ (r : Role). SameOwn s (table_after (Within s part) p t) (table_after r p v)) (sym there) after);
        run = ((part, there), before.run);
        events = λ i. step.1 i ∷ before.events i;
      }

-- they leave the marks of others
pub own_rest : (S : State) (s : ℕ) (L B : List Accepted) → IsOwnRun S s L B → SameRest s (table_of S (L ++ B)) (table_of S B)
unfolding IsOwnRun table_of
own_rest S s [] B run = λ n h. refl
own_rest S s (e ∷ L) B run =
    let t : Table = table_of S (L ++ B) in
    let p : ℕ = process_of e.step in
    subst (λ (r : Role). SameRest s (table_after r p t) (table_of S B)) (sym run.0.1)
    (rest_after s t (table_of S B) p run.0.0 (actor_fits t e.step e.reply s run.0.0 run.0.1) (own_rest S s L B run.1))
