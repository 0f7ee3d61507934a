-- The content at the start.
use Rattle.std.proofs.Common.{◌≡◌, ℕ, zero, suc, ◌≤◌, List, [], length, Option, Some, None, option_map, refl, sym, ap, subst, ◌∙◌, get_or}
use Rattle.std.specs.Prelude.{replicate}
use Rattle.std.proofs.lemmas.List.{length-replicate}
use Rattle.tx_base.specs.Slots.{slot_at}
use Rattle.tx_change.specs.Counts.{CountsAgree}
use Rattle.tx_change.specs.Laws.{HaveAllPlaces}
use Rattle.tx_change.specs.States.{state_of}
use Rattle.tx_laws.specs.TwoStates.{is_owner, states_view}
use Rattle.tx_content.specs.Begins.{IsAlone}
use Rattle.tx_model.specs.Membership.{is_of}
use Rattle.tx_content.proofs.Outsides.{same_content}
use Rattle.tx_content.specs.Content.{content_of, held_in, now_of, owner_at, own_held, txn_of, view_of, IsShaped}
use Rattle.tx_content.specs.declared.content.BoxedTxn.{BoxedTxn}
use Rattle.tx_content.specs.declared.content.Content.{Content}
use Rattle.tx_model.specs.State.{Object, Proc, Desc, Pipe, Held, State, boot_state}
use Rattle.tx_model.specs.View.{view}
use Rattle.tx_reserve.specs.Reservations.{owner_of}
use Rattle.tx_txn.specs.Content.{start_content, two_states_of, IsKept, LogKernel}
use Rattle.tx_txn.specs.Laws.{StartContentHasItsView, StartContentIsKept}

same_in : {B : Type 0} (w n : ℕ) (x : B) → get_or (replicate w x) n x ≡ x
same_in zero n x = refl
same_in (suc w) zero x = refl
same_in (suc w) (suc n) x = same_in w n x

none_at : {A : Type 0} (slots : List (Option A)) (w n : ℕ) → slots ≡ replicate w None → slot_at slots n ≡ None
none_at slots w zero h = refl
none_at {A} slots w (suc n) h = ap (λ (xs : List (Option A)). get_or xs n None) h ∙ same_in w n None

module _ (k : Content) (width count : ℕ) (state : state_of (λ starter. []) k.parts ≡ boot_state width count)
    (marks : k.marks ≡ replicate width None) (txns : k.txns ≡ replicate width None) (owners : (o : Object) → owner_of k.owners o ≡ None) where
  no_txn : (n : ℕ) → slot_at k.txns n ≡ None
  no_txn n = none_at k.txns width n txns

  sized : length k.parts.procs ≡ width
  sized = ap (λ (S : State). S.width) state

  now_is : now_of k ≡ boot_state width count
  now_is = (λ j. state_of (λ n. ap held_in (no_txn n) j) k.parts) ∙ state

  pub owner_none : (o : Object) → owner_at k o ≡ None
  owner_none (Proc n) = owners (Proc n)
  owner_none (Desc n) = owners (Desc n)
  owner_none (Pipe n) = owners (Pipe n)
  owner_none (Held n) = ap (own_held n) (no_txn n)

  content_is : content_of k ≡ start_content (boot_state width count)
  content_is = same_content (content_of k) (start_content (boot_state width count)) now_is (λ n. ap (option_map txn_of) (no_txn n)) owner_none
      (λ j. record { width = (ap length marks ∙ length-replicate width None) j; marks = λ n. none_at k.marks width n marks j })

  pub booted_kept : StartContentIsKept → IsKept (content_of k)
  booted_kept start = subst IsKept (sym content_is) (start (boot_state width count) (λ s. refl))

  pub booted_view : StartContentHasItsView → view_of k ≡ view (boot_state width count) []
  unfolding view_of
  booted_view start = ap (λ (c : LogKernel). states_view (two_states_of c)) content_is ∙ start (boot_state width count)

  pub booted_shaped : width ≤ 256 → HaveAllPlaces k.parts → CountsAgree k.parts → length k.owners ≡ 352 → IsShaped k
  booted_shaped few places counts long = record {
    counts = counts;
    places = places;
    few = subst (λ (w : ℕ). w ≤ 256) (sym sized) few;
    marks = ap length marks ∙ length-replicate width None ∙ sym sized;
    txns = ap length txns ∙ length-replicate width None ∙ sym sized;
    owners = long;
    each = λ n boxed at. absurd (apart (sym (no_txn n) ∙ at));
  }
    where
      apart : {boxed : BoxedTxn} → None ≡ Some boxed → ⊥
      apart e = cc

  pub booted_alone : (s : ℕ) → IsAlone k s
  booted_alone s = record {
    mark = none_at k.marks width s marks;
    members = λ n. ap (is_of s) (none_at k.marks width n marks);
    owner = owners (Proc s);
    owns = λ o. ap (is_owner s) (owners o);
  }
