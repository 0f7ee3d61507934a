-- A history in which the steps of a committed transaction stand together, and what follows it.
use Rattle.std.proofs.Common.{◌≡◌, ◌≤◌, ℕ, true, false, not, List, [], ◌∷◌, ◌++◌, refl, sym, ap, ap₂, ◌∙◌, subst}
use Rattle.tx_base.specs.declared.steps.Accepted.{Accepted}
use Rattle.tx_base.specs.declared.steps.Step.{Step}
use Rattle.tx_base.specs.declared.steps.Step.TheVariants.{Call as Calls, Deliver, KernelAbort}
use Rattle.tx_model.specs.State.{State, Proc, boot_state}
use Rattle.tx_model.specs.Events.{Event, process_of, actor, after, reply_of, run}
use Rattle.tx_model.specs.Membership.{Table, Role, Commits, is_live, is_member_of, role, event, table_after}
use Rattle.tx_model.specs.History.{Starters, nobody, just, table_of, role_in, event_of, left_out_before, is_left_in, without}
use Rattle.tx_model.specs.View.{view, abort_status}
use Rattle.tx_model.specs.Words.{after_if, starters_without}
use Rattle.tx_model.specs.Answer.{plain_reply, Lawful, AgreesWithout}
use Rattle.tx_laws.specs.Fits.{Fits}
use Rattle.tx_laws.specs.OneMoment.{parted, moved_to, is_silent, is_one_moment, tells_moment}
use Rattle.tx_laws.specs.Sound.{IsSound}
use Rattle.tx_laws.specs.WellFormed.{IsWellFormed}
use Rattle.tx_laws.specs.WellFormedTable.{HoldsNothing}
use Rattle.tx_laws.proofs.Coherence.{less_self}
use Rattle.tx_moment.specs.Laws.{MomentLaws}
use Rattle.tx_moment.proofs.OwnTables.{IsOwnRun, events_over}
use Rattle.tx_moment.proofs.Putting.{IsPut, OwnReplies, without_more, own_made, same_kernel}
use Rattle.tx_moment.proofs.Starting.{both, put_last}
use Rattle.tx_moment.specs.Moments.{CommitsAreMoments, HasMoments, BootedHistoriesHaveMoments}

-- two histories leave the same: the same table, and the same state without any transactions; and the replies of the first are those of its plain runs
pub record LeavesSame (S : State) (one other : List Accepted) : Type 0 where
  pub table : table_of S one ≡ table_of S other
  pub states : (X : Starters) → without S X one ≡ without S X other
  pub agree : (X : Starters) → AgreesWithout S X one

-- the events of a transaction, made on what others left
own_left : (S : State) (s : ℕ) (L B : List Accepted) → IsOwnRun S s L B → (X : Starters) → X s ≡ false → without S X (L ++ B) ≡ run (without S X B) (events_over S L B)
unfolding IsOwnRun events_over run
own_left S s [] B own X kept = refl
own_left S s (e ∷ L) B own X kept = own_made S s e (L ++ B) own.0.0 own.0.1 X kept ∙ ap (after (event_of S e (L ++ B))) (own_left S s L B own.1 X kept)

-- their replies are those of the plain runs
own_agree : (S : State) (s : ℕ) (L B : List Accepted) → IsOwnRun S s L B → (X : Starters) → X s ≡ false → OwnReplies L (events_over S L B) (without S X B) → AgreesWithout S X B → AgreesWithout S X (L ++ B)
unfolding IsOwnRun events_over OwnReplies AgreesWithout
own_agree S s [] B own X kept replies others = others
own_agree S s (e ∷ L) B own X kept replies others =
    let k : ℕ = abort_status (view S (L ++ B)) e.step in
    let ev : Event = event_of S e (L ++ B) in (
      subst (λ (r : Role). is_left_in r X ≡ true → e.reply ≡ plain_reply k r ev (without S (left_out_before r X) (L ++ B))) (sym own.0.1)
          (λ stay. replies.0 ∙ ap (reply_of ev) (sym (own_left S s L B own.1 X kept))),
      subst (λ (r : Role). AgreesWithout S (left_out_before r X) (L ++ B)) (sym own.0.1) (own_agree S s L B own.1 X kept replies.1 others),
    )

module _ (laws : MomentLaws) (S : State) (form : IsWellFormed S) (nothing : HoldsNothing S) (s : ℕ) (e : Accepted) (h : List Accepted) (lawful : Lawful S (e ∷ h))
    (commits : role_in S e h ≡ Commits s) (one : is_one_moment S s e h ≡ true) where
  abbrev own : List Accepted
  own = (parted S s h).own

  abbrev others : List Accepted
  others = (parted S s h).others

  live : is_live (table_of S h) s ≡ true
  unfolding view Lawful
  live =
      let sound : IsSound (view S h) = laws.sound S h lawful.0 in
      let mine : is_member_of (table_of S h) s (actor (event_of S e h)) ≡ true = subst (λ (r : Role). Fits r (event_of S e h) (process_of e.step) (view S h)) commits (laws.fit S e h lawful).1 in
      sound.owned_live s (Proc (actor (event_of S e h))) (sound.own_procs s (actor (event_of S e h)) mine)

  put : IsPut S s own others h
  unfolding Lawful
  put = put_last laws S form nothing s h lawful.0 live (both (not (tells_moment S s e h)) (is_silent S s h) one).1

  -- put together, the steps leave the same, where the transaction is not left out
  together : (X : Starters) → X s ≡ false → without S X (own ++ others) ≡ without S X h
  together X kept = own_left S s own others put.own_run X kept ∙ ap (λ (Q : State). run Q (events_over S own others)) (put.others_left X kept) ∙ put.left X kept

  together_agree : (X : Starters) → X s ≡ false → AgreesWithout S X (own ++ others)
  together_agree X kept =
      own_agree S s own others put.own_run X kept (subst (λ (Q : State). OwnReplies own (events_over S own others) Q) (sym (put.others_left X kept)) (put.replies X kept)) (put.others_agree X kept)

  same_role : role_in S e (own ++ others) ≡ Commits s
  same_role = ap (λ (t : Table). role t e.step e.reply) put.table ∙ commits

  same_event : event_of S e (own ++ others) ≡ event_of S e h
  same_event = ap (λ (t : Table). event t e.step e.reply) put.table

  committed : (k : List Accepted) → role_in S e k ≡ Commits s → (X : Starters) → without S X (e ∷ k) ≡ after (event_of S e k) (without S (starters_without s X) k)
  committed k is X =
      without_more S e k X ∙ ap (λ (r : Role). after_if (is_left_in r X) (event_of S e k) (without S (left_out_before r X) k)) is

  commit_same : LeavesSame S (moved_to S s e h) (e ∷ h)
  unfolding table_of AgreesWithout
  commit_same = record {
    table = ap (λ (t : Table). table_after (role t e.step e.reply) (process_of e.step) t) put.table;
    states = λ X.
        committed (own ++ others) same_role X
        ∙ ap₂ (λ (ev : Event) (Q : State). after ev Q) same_event (together (starters_without s X) (less_self s X))
        ∙ sym (committed h commits X);
    agree = λ X. (
      subst (λ (r : Role). is_left_in r X ≡ true → e.reply ≡ plain_reply (abort_status (view S (own ++ others)) e.step) r (event_of S e (own ++ others)) (without S (left_out_before r X) (own ++ others))) (sym same_role)
          (λ stay.
          subst (λ (r : Role). is_left_in r X ≡ true → e.reply ≡ plain_reply (abort_status (view S h) e.step) r (event_of S e h) (without S (left_out_before r X) h)) commits (laws.agree S (e ∷ h) lawful X).0 refl
          ∙ ap₂ (λ (ev : Event) (Q : State). reply_of ev Q) (sym same_event) (sym (together (starters_without s X) (less_self s X)))),
      subst (λ (r : Role). AgreesWithout S (left_out_before r X) (own ++ others)) (sym same_role) (together_agree (starters_without s X) (less_self s X)),
    );
  }

-- the status of an abort is the same where the states are
same_status : (S : State) (one other : List Accepted) → ((X : Starters) → without S X one ≡ without S X other) → (step : Step) → abort_status (view S one) step ≡ abort_status (view S other) step
same_status S one other states (Calls p call) = refl
same_status S one other states (Deliver p signo) = refl
same_status S one other states (KernelAbort u) = same_kernel S one other u.0 (ap (λ (Q : State). Q.procs u.0) (states (just u.0)))

-- what follows both leaves the same again
follow : (laws : MomentLaws) (S : State) (later one other : List Accepted) → Lawful S (later ++ other) → LeavesSame S one other → LeavesSame S (later ++ one) (later ++ other)
unfolding Lawful table_of AgreesWithout
follow laws S [] one other lawful same = same
follow laws S (e ∷ later) one other lawful same =
    let before : LeavesSame S (later ++ one) (later ++ other) = follow laws S later one other lawful.0 same in
    let role_is : role_in S e (later ++ one) ≡ role_in S e (later ++ other) = ap (λ (t : Table). role t e.step e.reply) before.table in
    let event_is : event_of S e (later ++ one) ≡ event_of S e (later ++ other) = ap (λ (t : Table). event t e.step e.reply) before.table in
    record {
      table = ap (λ (t : Table). table_after (role t e.step e.reply) (process_of e.step) t) before.table;
      states = λ X.
          without_more S e (later ++ one) X
          ∙ (λ i. after_if (is_left_in (role_is i) X) (event_is i) (before.states (left_out_before (role_is i) X) i))
          ∙ sym (without_more S e (later ++ other) X);
      agree = λ X. (
        subst (λ (r : Role). is_left_in r X ≡ true → e.reply ≡ plain_reply (abort_status (view S (later ++ one)) e.step) r (event_of S e (later ++ one)) (without S (left_out_before r X) (later ++ one))) (sym role_is)
            (λ stay.
            (laws.agree S (e ∷ later ++ other) lawful X).0 stay
            ∙ sym (λ i. plain_reply (same_status S (later ++ one) (later ++ other) before.states e.step i) (role_in S e (later ++ other)) (event_is i)
            (before.states (left_out_before (role_in S e (later ++ other)) X) i))),
        before.agree (left_out_before (role_in S e (later ++ one)) X),
      );
    }

suffix_lawful : (S : State) (later h : List Accepted) → Lawful S (later ++ h) → Lawful S h
unfolding Lawful
suffix_lawful S [] h lawful = lawful
suffix_lawful S (e ∷ later) h lawful = suffix_lawful S later h lawful.0

pub moments : MomentLaws → CommitsAreMoments
moments laws start later last earlier s form nothing lawful commits one =
    let same = follow laws start later (moved_to start s last earlier) (last ∷ earlier) lawful
    (commit_same laws start form nothing s last earlier (suffix_lawful start later (last ∷ earlier) lawful) commits one) in
    record { state = same.states; table = same.table; replies = same.agree nobody }

-- the booted state is well formed and holds nothing, so its histories have moments
pub booted_moments : MomentLaws → ((width count : ℕ) → 1 ≤ count → count ≤ width → IsWellFormed (boot_state width count)) → ((width count : ℕ) → HoldsNothing (boot_state width count)) → BootedHistoriesHaveMoments
unfolding HasMoments
booted_moments laws formed nothing width count low high history lawful later last earlier s split commits one =
    moments laws (boot_state width count) later last earlier s (formed width count low high) (nothing width count)
    (subst (λ (h : List Accepted). Lawful (boot_state width count) h) split lawful) commits one
