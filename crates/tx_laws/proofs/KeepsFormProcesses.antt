-- fork and waitpid leave a state well formed.
use Rattle.std.proofs.Common.{[], ◌∷◌, ◌≡◌, ◌≢◌, ℕ, Bool, true, false, ℤ, pos, Option, Some, None, is_some, is_none, slice_index_or, refl, sym, ap, ◌∙◌, subst, inl, inr, eqb-true, arith}
use Rattle.std.proofs.lemmas.List.{length-set}
use Rattle.tx_base.specs.declared.steps.Refusal.TheVariants.{NumberTaken, Wait}
use Rattle.tx_model.specs.Numbers.{error_answer}
use Rattle.tx_model.specs.State.{Process, State, SetProc, write_one, with_writes, is_number, names_at, is_between}
use Rattle.tx_model.specs.Effects.{Inside, with_answer}
use Rattle.tx_model.specs.Forms.{Caller, Outcome, changes, effect_of, caller}
use Rattle.tx_model.specs.Book.{fork, waitpid}
use Rattle.tx_model.specs.Processes.{child_of}
use Rattle.tx_model.specs.Words.{with_status}
use Rattle.tx_model.specs.Answer.{is_running}
use Rattle.tx_model.specs.StateLaws.{put_here, put_cases, put_there}
use Rattle.tx_laws.specs.WellFormed.{HasSizes, IsPlaced, IsFirst}
use Rattle.tx_laws.proofs.KeepsFormParts.{IsArranged, IsNamed, names_of, form_from, linked_of, form_edit, relinked}
use Rattle.tx_laws.proofs.KeepsFormOwn.{stays_from, plain}
use Rattle.tx_model.specs.BookLaws.{fork_lines, waitpid_lines}
use Rattle.tx_laws.proofs.KeepsFormNames.{KeepsForm, idle_form, noted_form, done_form, number_of, own_name}

none_of : {A : Type 0} (x : Option A) → is_some x ≡ false → x ≡ None
none_of None h = refl
none_of (Some y) h = cc

-- one more process
module _ (T : State) (c : ℕ) (child : Process) (free : T.procs c ≡ None) (w : IsArranged T) where
  abbrev grown : State
  grown = write_one (SetProc c (Some child)) T

  taken : (n : ℕ) (q : Process) → T.procs n ≡ Some q → n ≢ c
  taken n q h z = let no : None ≡ Some q = sym (ap T.procs z ∙ free) ∙ h in cc

  still_runs : (m : ℕ) → is_running (T.procs m) ≡ true → is_running (grown.procs m) ≡ true
  still_runs m h = elim (put_cases T.procs c (Some child) m) [
    | inl z ↦ let no : false ≡ true = sym (ap is_running (ap T.procs z.0 ∙ free)) ∙ h in cc
    | inr z ↦ ap is_running z.1 ∙ h
  ]

  grown_placed : is_between T.width c ≡ true → is_running (T.procs child.parent) ≡ true → child.parent ≢ c → HasSizes child
      → (n : ℕ) (q : Process) → grown.procs n ≡ Some q → IsPlaced grown n q
  grown_placed number parent other sizes n q h = elim (put_cases T.procs c (Some child) n) [
    | inl z ↦
        let both : Some child ≡ Some q = sym z.1 ∙ h in
        let same : child ≡ q = cc in
        let here : IsPlaced grown c child = record { number = number; parent = λ ne. still_runs child.parent parent; other = other; sizes = sizes } in
        subst (λ (m : ℕ). IsPlaced grown m q) (sym z.0) (subst (λ (r : Process). IsPlaced grown c r) same here)
    | inr z ↦
        let was : IsPlaced T n q = w.placed n q (sym z.1 ∙ h) in
        record { number = was.number; parent = λ ne. still_runs q.parent (was.parent ne); other = was.other; sizes = was.sizes }
  ]

  pub add_form : is_between T.width c ≡ true → is_running (T.procs child.parent) ≡ true → child.parent ≢ c → HasSizes child
      → ((f d : ℕ) → is_number d (slice_index_or child.descriptors f None) ≡ true → is_some (T.descs d) ≡ true) → IsArranged (write_one (SetProc c (Some child)) T)
  add_form number parent other sizes names = form_from grown (record { first = first; placed = grown_placed number parent other sizes })
      (relinked T grown refl refl new old (linked_of T w))
    where
      first : (q : Process) × (grown.procs 1 ≡ Some q) × IsFirst q
      first = (w.first.0, put_there T.procs c (Some child) 1 (taken 1 w.first.0 w.first.1) ∙ w.first.1, w.first.2)

      new : (n f d : ℕ) → names_at d f (grown.procs n) ≡ true → is_some (T.descs d) ≡ true
      new n f d h = elim (put_cases T.procs c (Some child) n) [
        | inl z ↦ names f d (number_of d f child (sym (ap (names_at d f) z.1) ∙ h))
        | inr z ↦ w.names n f d (sym (ap (names_at d f) z.1) ∙ h)
      ]

      old : (d : ℕ) → IsNamed d T → IsNamed d grown
      old d h =
          let who = names_of d h.place (T.procs h.process) h.names in
          record {
            process = h.process;
            place = h.place;
            names = ap (names_at d h.place) (put_there T.procs c (Some child) h.process (taken h.process who.0 who.1)) ∙ h.names;
          }

-- an ended process is removed
module _ (T : State) (t s : ℕ) (q : Process) (e : T.procs t ≡ Some q) (status : q.status ≡ Some s) (w : IsArranged T) where
  abbrev shrunk : State
  shrunk = write_one (SetProc t None) T

  -- who runs is another one
  not_ended : (n : ℕ) (r : Process) → T.procs n ≡ Some r → r.status ≡ None → n ≢ t
  not_ended n r h runs z =
      let both : Some q ≡ Some r = sym (ap T.procs z ∙ e) ∙ h in
      let same : q ≡ r = cc in
      let no : Some s ≡ None = sym status ∙ ap (λ (x : Process). x.status) same ∙ runs in
      cc

  runs_on : (m : ℕ) → is_running (T.procs m) ≡ true → is_running (shrunk.procs m) ≡ true
  runs_on m h = elim (put_cases T.procs t None m) [
    | inl z ↦ let no : false ≡ true = sym (ap is_running (ap T.procs z.0 ∙ e) ∙ ap (λ (x : Option ℕ). is_none x) status) ∙ h in cc
    | inr z ↦ ap is_running z.1 ∙ h
  ]

  pub remove_form : IsArranged (write_one (SetProc t None) T)
  remove_form = form_from shrunk (record { first = first; placed = placed }) (relinked T shrunk refl refl new old (linked_of T w))
    where
      first : (r : Process) × (shrunk.procs 1 ≡ Some r) × IsFirst r
      first = (w.first.0, put_there T.procs t None 1 (not_ended 1 w.first.0 w.first.1 w.first.2.runs) ∙ w.first.1, w.first.2)

      placed : (n : ℕ) (r : Process) → shrunk.procs n ≡ Some r → IsPlaced shrunk n r
      placed n r h = elim (put_cases T.procs t None n) [
        | inl z ↦ let no : None ≡ Some r = sym z.1 ∙ h in cc
        | inr z ↦
            let was : IsPlaced T n r = w.placed n r (sym z.1 ∙ h) in
            record { number = was.number; parent = λ ne. runs_on r.parent (was.parent ne); other = was.other; sizes = was.sizes }
      ]

      new : (n f d : ℕ) → names_at d f (shrunk.procs n) ≡ true → is_some (T.descs d) ≡ true
      new n f d h = elim (put_cases T.procs t None n) [
        | inl z ↦ let no : false ≡ true = sym (ap (names_at d f) z.1) ∙ h in cc
        | inr z ↦ w.names n f d (sym (ap (names_at d f) z.1) ∙ h)
      ]

      old : (d : ℕ) → IsNamed d T → IsNamed d shrunk
      old d h =
          let who = names_of d h.place (T.procs h.process) h.names in
          record {
            process = h.process;
            place = h.place;
            names = ap (names_at d h.place) (put_there T.procs t None h.process (not_ended h.process who.0 who.1 who.2)) ∙ h.names;
          }

module _ (S : State) (p : ℕ) (me : Process) (inside : Option Inside) (e : S.procs p ≡ Some me) (runs : me.status ≡ None) (w : IsArranged S) where
  abbrev c : Caller
  c = caller inside p me S

  abbrev FormKept : Outcome → Type 0
  FormKept outcome = KeepsForm S (effect_of p me outcome)

  -- fork
  child_sizes : HasSizes me → HasSizes (child_of p me)
  child_sizes h = record {
    slots = h.slots;
    pages = h.pages;
    descriptors = h.descriptors;
    actions = h.actions;
    frames = h.frames;
    saved = h.saved;
    queued = omega arith;
  }

  grown_form : (child : ℕ) → is_between S.width child ≡ true → S.procs child ≡ None → FormKept (changes (pos child) me (SetProc child (Some (child_of p me)) ∷ []))
  unfolding with_writes
  grown_form child number free =
      add_form parent_now child (child_of p me) (put_there S.procs p (Some (with_answer (pos child) me)) child (λ z. apart (sym z)) ∙ free) (noted_form S p me e w (pos child)) number
      (ap is_running (put_here S.procs p (Some (with_answer (pos child) me))) ∙ ap (λ (x : Option ℕ). is_none x) runs) apart (child_sizes (w.placed p me e).sizes)
      (own_name S p me me e runs (linked_of S w))
    where
      parent_now : State
      parent_now = write_one (SetProc p (Some (with_answer (pos child) me))) S

      apart : p ≢ child
      apart z = let no : None ≡ Some me = sym (ap S.procs z ∙ free) ∙ e in cc

  pub fork_form : (child : ℕ) → is_between S.width child ≡ true → FormKept (fork child c)
  fork_form child number =
      fork_lines FormKept c (λ errno. done_form S p me e w (error_answer errno)) child (λ taken. idle_form S NumberTaken w) λ free. grown_form child number (none_of (S.procs child) free)

  -- waitpid
  pub waitpid_form : (t : ℤ) (nohang : Bool) → FormKept (waitpid t nohang c)
  unfolding with_writes
  waitpid_form t nohang =
      waitpid_lines FormKept c (λ errno. done_form S p me e w (error_answer errno)) t nohang (done_form S p me e w (pos 0)) (idle_form S Wait w)
      λ child status q number there mine over.
      let now : Process = with_answer (pos child) (with_status status me) in
      let sized = plain me now refl refl refl (length-set me.registers.slots 0 (pos status)) refl refl refl in
      let apart : child ≢ p = λ z. (w.placed child q there).other (eqb-true q.parent p mine ∙ sym z) in
      remove_form (write_one (SetProc p (Some now)) S) child status q (put_there S.procs p (Some now) child apart ∙ there) over
      (form_edit S p me now e (stays_from p me now refl refl sized) refl w)
