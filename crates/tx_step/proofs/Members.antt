-- A member's transaction is live, and its steps are made inside of that.
use Rattle.std.proofs.Common.{◌≡◌, ℕ, ◌≤◌, zero, suc, arith, Bool, true, false, not, Option, Some, None, IsSome, is_some, option_map, refl, sym, ap, ap₂, ◌∙◌, eq-eqb, ltb-true}
use Rattle.tx_base.specs.Slots.{slot_at}
use Rattle.tx_base.specs.declared.marks.Mark.{Mark}
use Rattle.tx_base.specs.declared.names.Pid.{Pid}
use Rattle.tx_base.specs.declared.steps.Call.{Call as TheCall}
use Rattle.tx_base.specs.declared.steps.Call.TheVariants as call
use Rattle.tx_base.specs.declared.steps.Reply.{Reply}
use Rattle.tx_step.specs.Contents.{IsContent}
use Rattle.tx_laws.specs.TwoStates.{states_view}
use Rattle.tx_content.specs.Content.{txn_of, view_of, IsTxn}
use Rattle.tx_content.specs.Insides.{inside_in}
use Rattle.tx_content.specs.Progresses.{part_of, HasChild}
use Rattle.tx_content.specs.declared.content.BoxedTxn.{BoxedTxn}
use Rattle.tx_content.specs.declared.content.Content.{Content}
use Rattle.tx_content.specs.declared.marking.Progress.{Progress as TheProgress}
use Rattle.tx_content.specs.declared.marking.Progress.TheVariants as the
use Rattle.tx_model.specs.Answer.{Choice, ChoosesProcess, is_bad_choice}
use Rattle.tx_model.specs.Words.{chosen_in, has_bad_number, kind_of, kind_role, member_end_role, ordinary_role}
use Rattle.tx_model.specs.Membership.{Table, Within, Forks, Kind, Ordinary, Forking, Beginning, Leaving, Aborting, inside_by, is_live, is_of, others_open, says_ended}
use Rattle.tx_model.specs.State.{is_between}
use Rattle.tx_step.proofs.Told.{OfMember}
use Rattle.tx_step.specs.Requests.{kind_requested, step_of}
use Rattle.tx_step.specs.declared.request.Request.{Request}
use Rattle.tx_step.specs.declared.request.Request.TheVariants.{Call, Delivery}
use Rattle.tx_txn.specs.Marks.{table_at}

-- the live transaction of the starter, which the process's steps are made inside of
pub record LiveAt (k : Content) (pid starter : Pid) : Type 0 where
  pub boxed : BoxedTxn
  pub there : slot_at k.txns starter.0 ≡ Some boxed
  pub inside : inside_in k starter ≡ inside_by (table_at k.marks) (slot_at k.marks pid.0)

pub live_at : (k : Content) → IsContent k → (pid starter : Pid) → OfMember (slot_at k.marks pid.0) starter.0 → LiveAt k pid starter
unfolding view_of states_view
live_at k is pid starter member = by (slot_at k.txns starter.0) refl
  where
    live : is_live (table_at k.marks) starter.0 ≡ true
    live = is.view.formed.members starter.0 pid.0 (ap (is_of starter.0) member.is ∙ eq-eqb member.m.starter.0 starter.0 member.starter)

    by : (slot : Option BoxedTxn) → slot_at k.txns starter.0 ≡ slot → LiveAt k pid starter
    by None e =
        let no : false ≡ true = ap (λ (slot : Option BoxedTxn). is_some (option_map txn_of slot)) (sym e) ∙ is.kept.live starter.0 ∙ live in
        cc
    by (Some boxed) e =
        let was : IsTxn k starter.0 boxed.txn.value = is.shaped.each starter.0 boxed e in
        record {
          boxed = boxed;
          there = e;
          inside =
              ap (option_map (λ (b : BoxedTxn). record { starter = b.txn.value.starter.0; members = λ n. is_of b.txn.value.starter.0 (slot_at k.marks n); defers = b.txn.value.defers })) e
              ∙ ap₂ (λ (s : ℕ) (defers : Bool). Some (record { starter = s; members = λ n. is_of s (slot_at k.marks n); defers = defers }))
              (was.starter ∙ sym member.starter) (sym (was.defers pid.0 member.m member.is member.starter))
              ∙ ap (inside_by (table_at k.marks)) (sym member.is);
        }

-- it is there
pub live_there : (k : Content) (pid starter : Pid) → LiveAt k pid starter → IsSome (slot_at k.txns starter.0)
live_there k pid starter live = ap is_some live.there

-- a call that forks chooses the child's number
fork_chooses : (called : TheCall) (child : ℕ) → kind_of called ≡ Forking child → chosen_in called ≡ ChoosesProcess child
fork_chooses (call.Fork c) child e = let same : c.0 ≡ child = cc in ap ChoosesProcess same
fork_chooses called child e = cc

-- a step that brings a child in is a fork of it
forks_kind : (t : Table) (p s child : ℕ) (kind : Kind) (r : Reply) (m : Mark) → kind_role t p kind r (Some m) ≡ Within s (Forks child) → kind ≡ Forking child
forks_kind t p s child Ordinary r m e = absurd (by (says_ended r) e)
  where
    end : (b : Bool) → member_end_role b m.starter.0 ≡ Within s (Forks child) → ⊥
    end true h = cc
    end false h = cc

    by : (b : Bool) → ordinary_role b t m.starter.0 p ≡ Within s (Forks child) → ⊥
    by true h = end (others_open t m.starter.0 p t.width) h
    by false h = cc
forks_kind t p s child (Forking c) r m e = let same : c ≡ child = cc in ap Forking same
forks_kind t p s child (Beginning d) r m e = cc
forks_kind t p s child Leaving r m e = absurd (end (others_open t m.starter.0 p t.width) e)
  where
    end : (b : Bool) → member_end_role b m.starter.0 ≡ Within s (Forks child) → ⊥
    end true h = cc
    end false h = cc
forks_kind t p s child Aborting r m e = cc

-- a number of a table is 1 to its width
between_bounds : (width n : ℕ) → is_between width n ≡ true → (1 ≤ n) × (n ≤ width)
between_bounds width zero h = cc
between_bounds width (suc n) h = let low = ltb-true n width h in (omega arith, omega (arith, low))

not_false : (b : Bool) → not b ≡ false → b ≡ true
not_false true e = refl
not_false false e = cc

-- the child that a fork brings in has a number that there is
pub has_child : (t : Table) (pid : Pid) (s width : ℕ) (request : Request) (r : Reply) (mark : Option Mark) (progress : TheProgress) → OfMember mark s →
    kind_role t pid.0 (kind_requested request) r mark ≡ Within s (part_of progress) → has_bad_number width (step_of pid request) ≡ false → HasChild width progress
has_child t pid s width request r mark the.Continues member told good = tt
has_child t pid s width request r mark the.Parks member told good = tt
has_child t pid s width request r mark (the.Forks child) member told good = by request told good
  where
    kind_is : (kind : Kind) → kind_role t pid.0 kind r mark ≡ Within s (Forks child.0) → kind ≡ Forking child.0
    kind_is kind h = forks_kind t pid.0 s child.0 kind r member.m (ap (kind_role t pid.0 kind r) (sym member.is) ∙ h)

    chosen : (choice : Choice) → choice ≡ ChoosesProcess child.0 → is_bad_choice width choice ≡ false → (1 ≤ child.0) × (child.0 ≤ width)
    chosen choice e h = between_bounds width child.0 (not_false (is_between width child.0) (sym (ap (is_bad_choice width) e) ∙ h))

    by : (request : Request) → kind_role t pid.0 (kind_requested request) r mark ≡ Within s (Forks child.0) → has_bad_number width (step_of pid request) ≡ false → (1 ≤ child.0) × (child.0 ≤ width)
    by (Call called) h bad = chosen (chosen_in called.now) (fork_chooses called.now child.0 (kind_is (kind_of called.now) h)) bad
    by (Delivery signo) h bad = let no : Ordinary ≡ Forking child.0 = kind_is Ordinary h in cc
