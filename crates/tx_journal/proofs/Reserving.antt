-- Which step first reserved an object, by what takes the steps back.
use Rattle.std.proofs.Common.{◌≡◌, ℕ, suc, Bool, true, false, not, ◌==◌, List, [], ◌∷◌, Option, Some, None, length, reverse, if◌then◌else◌, refl, sym, ap, subst, ◌∙◌, eq-eqb, eqb-true, arith}
use Rattle.std.specs.Cmp.{both_ways}
use Rattle.std.proofs.lemmas.List.{ext_get_or}
use Rattle.std.proofs.lemmas.Option.{same_Some}
use Rattle.tx_base.specs.declared.steps.Accepted.{Accepted}
use Rattle.tx_core.specs.Machines.{IsMachine}
use Rattle.tx_core.specs.Undo.{LeadsBack}
use Rattle.tx_journal.proofs.Extended.{walks_view}
use Rattle.tx_journal.specs.Entries.{history_of}
use Rattle.tx_journal.specs.Sessions.{IsJournal, SessionState, made_of, start_of}
use Rattle.tx_journal.specs.Since.{comes_first, first_touch, newest_first}
use Rattle.tx_journal.specs.Walks.{WalksBack}
use Rattle.tx_laws.specs.TwoStates.{is_owner}
use Rattle.tx_content.specs.Content.{view_of, IsShaped}
use Rattle.tx_content.specs.Inverses.{Undoes, UndoesBegun, UndoesInside, Revives}
use Rattle.tx_content.specs.Redone.{EndsWhole, IsGone}
use Rattle.tx_content.specs.declared.content.Content.{Content}
use Rattle.tx_content.specs.declared.inverse.Inverse.{Inverse}
use Rattle.tx_content.specs.declared.inverse.Inverse.TheVariants.{Outside, Inside, Begun, Committed, Aborted}
use Rattle.tx_model.specs.History.{reserved_of}
use Rattle.tx_model.specs.State.{Object, State}
use Rattle.tx_model.specs.View.{View, view}
use Rattle.tx_core.specs.OwnerFacts.{reserved_read}
use Rattle.tx_reserve.specs.Laws.{OwnersAreExtensional}
use Rattle.tx_reserve.specs.Objects.{is_in, object_of}
use Rattle.tx_reserve.specs.Reservations.{owner_of}
use Rattle.tx_reserve.specs.declared.objects.Object.{Object as TheObject}
use Rattle.tx_txn.specs.declared.members.Members.{Members}
use Rattle.tx_txn.specs.declared.txn.Txn.{Txn}

-- the content before a step is one alone
module _ (told : OwnersAreExtensional) where
  revived_one : (k a b : Content) (txn : Txn) (ms ns : Members) → Revives k txn ms a → Revives k txn ns b → (a.marks ≡ b.marks) × (a.owners ≡ b.owners)
  revived_one k a b txn ms ns one other =
      let members : ms ≡ ns = same_Some ms ns (sym one.ended ∙ other.ended) in
      let moved : Revives k txn ns a = subst (λ (m : Members). Revives k txn m a) members one in (
        ext_get_or None a.marks b.marks (moved.width ∙ sym other.width) (λ i few. moved.marks (suc i) ∙ sym (other.marks (suc i))),
        told a.owners b.owners moved.sized other.sized (λ o. moved.owners o ∙ sym (other.owners o)),
      )

  before_one : (k : Content) (inverse : Inverse) (a b : Content) → Undoes k inverse a → Undoes k inverse b → a ≡ b
  before_one k (Outside log post) a b one other = sym one ∙ other
  before_one k (Inside step held) a b one other =
      let same : one.0 ≡ other.0 = same_Some one.0 other.0 (sym one.1.there ∙ other.1.there) in
      let moved : UndoesInside k step held a other.0 = subst (UndoesInside k step held a) same one.1 in
      λ j. record {
        parts = (sym moved.parts ∙ other.1.parts) j;
        marks = (sym moved.marks ∙ other.1.marks) j;
        owners = told a.owners b.owners moved.sized other.1.sized (λ o. moved.owners o ∙ sym (other.1.owners o)) j;
        txns = (sym moved.txns ∙ other.1.txns) j;
      }
  before_one k (Begun starter) a b one other =
      let same : one.0 ≡ other.0 = same_Some one.0 other.0 (sym one.1.there ∙ other.1.there) in
      let moved : UndoesBegun k starter a other.0 = subst (UndoesBegun k starter a) same one.1 in
      λ j. record {
        parts = (sym moved.parts ∙ other.1.parts) j;
        marks = (sym moved.marks ∙ other.1.marks) j;
        owners = told a.owners b.owners moved.sized other.1.sized (λ o. moved.owners o ∙ sym (other.1.owners o)) j;
        txns = (sym moved.txns ∙ other.1.txns) j;
      }
  before_one k (Committed boxed count held) a b one other =
      let same = revived_one k a b boxed.txn.value one.0 other.0 one.1.revives other.1.revives in
      λ j. record { parts = (sym one.1.parts ∙ other.1.parts) j; marks = same.0 j; owners = same.1 j; txns = (sym one.1.txns ∙ other.1.txns) j }
  before_one k (Aborted boxed stood) a b one other =
      let same = revived_one k a b boxed.txn.value one.0 other.0 one.1.revives other.1.revives in
      λ j. record { parts = (sym one.1.parts ∙ other.1.parts) j; marks = same.0 j; owners = same.1 j; txns = (sym one.1.txns ∙ other.1.txns) j }

  -- so it is what a machine may keep
  pub machine_before : (k : Content) (inverse : Inverse) (before : Content) → LeadsBack k inverse → Undoes k inverse before → IsMachine before
  machine_before k inverse before leads undoes = subst IsMachine (before_one k inverse leads.before before leads.back undoes) leads.machine

own : (s : ℕ) → is_owner s (Some s) ≡ true
own s = eq-eqb s s refl

same_either : (a b : ℕ) → (a == b) ≡ (b == a)
same_either a b = both_ways (a == b) (b == a) (λ same. eq-eqb b a (sym (eqb-true a b same))) (λ same. eq-eqb a b (sym (eqb-true b a same)))

-- the owner, or nobody
owner_or_none : (s : ℕ) (gone : Bool) → is_owner s (if gone then None else Some s) ≡ not gone
owner_or_none s gone = grind arith

-- what somebody owns is in no transaction that is gone
not_in : (k : Content) (txn : Txn) (members : Members) (o : Object) (s : ℕ) → IsGone k txn members → owner_of k.owners o ≡ Some s → is_in txn.objects o ≡ false
not_in k txn members o s gone owned = grind arith

-- the object that the transaction of s has was its own before the step too, but where the step was the first to reserve it
owner_before : (k : Content) (inverse : Inverse) (before : Content) (o : Object) (s : ℕ) → IsShaped k → EndsWhole k inverse → Undoes k inverse before → owner_of k.owners o ≡ Some s →
    is_owner s (owner_of before.owners o) ≡ not (comes_first s o inverse)
owner_before k (Outside log post) before o s shaped whole undoes owned = ap (λ (c : Content). is_owner s (owner_of c.owners o)) (sym undoes) ∙ ap (is_owner s) owned ∙ own s
owner_before k (Inside step held) before o s shaped whole undoes owned =
    let has = (shaped.each step.starter.0 undoes.0 undoes.1.there).objects o in grind (arith, has, undoes.1.owners o, owner_or_none, same_either)
owner_before k (Begun starter) before o s shaped whole undoes owned =
    let has = (shaped.each starter.0 undoes.0 undoes.1.there).objects o in grind (arith, has, undoes.1.owners o, owner_or_none, same_either)
owner_before k (Committed boxed count held) before o s shaped whole undoes owned = grind (arith, own, not_in, undoes.1.revives.owners o)
owner_before k (Aborted boxed stood) before o s shaped whole undoes owned = grind (arith, own, not_in, undoes.1.revives.owners o)

is_its : (s : ℕ) (owner : Option ℕ) → is_owner s owner ≡ true → owner ≡ Some s
is_its s owner bad = grind arith

-- what is reserved in the view of a history
reserved_there : (start : State) (k : Content) (h : List Accepted) (s : ℕ) (object : TheObject) → view_of k ≡ view start h → reserved_of start h s (object_of object) ≡ is_owner s (owner_of k.owners (object_of object))
unfolding view
reserved_there start k h s object seen = ap (λ (V : View). V.reserved s (object_of object)) (sym seen) ∙ reserved_read k s object (owner_of k.owners (object_of object)) refl

-- by whether the newest step was the first to reserve it
touch_then : {A : Type 0} (now before first : Bool) (newest earlier found : A) (none : A) → now ≡ true → before ≡ not first → (first ≡ false → earlier ≡ found) →
    (if now then (if before then earlier else newest) else none) ≡ (if first then newest else found)
touch_then now before first newest earlier found none is so rest = grind arith

-- the first step since which the transaction of s has the object is the newest one of its own before which it had not
pub touch_found : OwnersAreExtensional → (start : State) (s : ℕ) (object : TheObject) (k : Content) (inverses : List Inverse) (h : List Accepted) → WalksBack start k inverses h → IsMachine k → owner_of k.owners (object_of object) ≡ Some s →
    first_touch start h s (object_of object) ≡ newest_first s (object_of object) inverses h
unfolding WalksBack first_touch newest_first
touch_found told start s object k [] [] walks is owned = refl
touch_found told start s object k [] (e ∷ h) walks is owned = absurd walks
touch_found told start s object k (inverse ∷ inverses) [] walks is owned = absurd walks
touch_found told start s object k (inverse ∷ inverses) (e ∷ h) walks is owned =
    let o : Object = object_of object in
    let before : Content = walks.2.0 in
    let own_before : is_owner s (owner_of before.owners o) ≡ not (comes_first s o inverse) = owner_before k inverse before o s is.content.shaped walks.3 walks.2.1 owned in
    touch_then (reserved_of start (e ∷ h) s o) (reserved_of start h s o) (comes_first s o inverse) (Some (record { number = suc (length h); step = e.step })) (first_touch start h s o) (newest_first s o inverses h) None
    (reserved_there start k (e ∷ h) s object walks.0 ∙ ap (is_owner s) owned ∙ own s)
    (reserved_there start before h s object (walks_view start before inverses h walks.2.2) ∙ own_before)
    (λ later. touch_found told start s object before inverses h walks.2.2 (machine_before told k inverse before walks.1 walks.2.1) (is_its s (owner_of before.owners o) (own_before ∙ ap not later)))

-- what is not reserved now is so since no step
pub touch_none : (start : State) (h : List Accepted) (s : ℕ) (o : Object) → reserved_of start h s o ≡ false → None ≡ first_touch start h s o
unfolding first_touch
touch_none start [] s o none = refl
touch_none start (e ∷ h) s o none = rw none refl

-- the same, of a session
module _ (told : OwnersAreExtensional) (k : SessionState) (is : IsJournal k) (machine : IsMachine k.machine) (s : ℕ) (object : TheObject) where
  abbrev made : List Accepted
  made = history_of (made_of k)

  pub none_now : (view_of k.machine).reserved s (object_of object) ≡ false → None ≡ first_touch (start_of k) made s (object_of object)
  unfolding view
  none_now none = grind (arith, touch_none, walks_view)

  pub found_now : (view_of k.machine).reserved s (object_of object) ≡ true → newest_first s (object_of object) (reverse k.inverses) made ≡ first_touch (start_of k) made s (object_of object)
  found_now reserved =
      let owner : Option ℕ = owner_of k.machine.owners (object_of object) in
      sym (touch_found told (start_of k) s object k.machine (reverse k.inverses) made is.walks machine (is_its s owner (sym (reserved_read k.machine s object owner refl) ∙ reserved)))
