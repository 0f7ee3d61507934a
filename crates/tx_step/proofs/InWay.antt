-- Who is in the way of an event, by the owners and by the answers of its sends.
use Rattle.std.proofs.Common.{◌≡◌, ℕ, zero, suc, ◌≤◌, arith, ltb-true, Bool, true, false, List, length, Option, Some, None, is_some, if◌then◌else◌, ◌==◌, option_map, refl, sym, ap, ◌∙◌, subst, inl, inr, eq-eqb, eqb-true}
use Rattle.std.proofs.lemmas.Bool.{both_ways, cases_Bool}
use Rattle.tx_base.specs.Slots.{slot_at}
use Rattle.tx_base.specs.declared.marks.Mark.{Mark}
use Rattle.tx_base.specs.declared.names.Pid.{Pid}
use Rattle.tx_step.proofs.Leasts.{IsLeastThat, among, either, least_found, least_same, lesser_least, targets_least}
use Rattle.tx_step.proofs.MetObjects.{held_named, meets_some, some_meets}
use Rattle.tx_step.proofs.TwoFaces.{difference_target, difference_told}
use Rattle.tx_step.specs.Faces.{is_target, starter_differs}
use Rattle.tx_step.specs.InWay.{IsOfMember, gives_two_answers, two_answers_in, least_target, starter_in}
use Rattle.tx_laws.specs.Footprints.{is_shared}
use Rattle.tx_laws.specs.TwoStates.{is_owner, states_view}
use Rattle.tx_content.specs.Content.{content_of, now_of, owner_at, own_held, txn_of, view_of}
use Rattle.tx_content.specs.Insides.{IsFootprint}
use Rattle.tx_content.specs.declared.content.BoxedTxn.{BoxedTxn}
use Rattle.tx_content.specs.declared.content.Content.{Content}
use Rattle.tx_model.specs.Events.{Event, actor, effect}
use Rattle.tx_model.specs.History.{event_footprint}
use Rattle.tx_model.specs.Membership.{is_live, is_of}
use Rattle.tx_model.specs.State.{Object, Proc, Desc, Pipe, Held, Sending, has_object, is_between}
use Rattle.tx_model.specs.View.{starter_in_way, some_object}
use Rattle.tx_proc.specs.Parts.{process_in}
use Rattle.tx_reserve.specs.Objects.{has_place, is_in, is_small, place_of}
use Rattle.tx_reserve.specs.Reservations.{IsLeast, lesser_of, owner_of, unless}
use Rattle.tx_reserve.specs.declared.objects.Objects.{Objects}
use Rattle.tx_txn.specs.Content.{IsKept, stands_in_way, starter_differs as starter_differs_in}
use Rattle.tx_txn.specs.Laws.{StarterInWayIsOfFaces}
use Rattle.tx_txn.specs.Marks.{table_at}

owner_is : (s : ℕ) (x : Option ℕ) → is_owner s x ≡ true → x ≡ Some s
owner_is s None h = cc
owner_is s (Some t) h = ap Some (eqb-true t s h)

owner_self : (s : ℕ) (x : Option ℕ) → x ≡ Some s → is_owner s x ≡ true
owner_self s x h = rw h (eq-eqb s s refl)

-- an owner that is not the own one is left
unless_other : (own : Option ℕ) (s : ℕ) → is_owner s own ≡ false → unless own (Some s) ≡ Some s
unless_other None s h = refl
unless_other (Some p) s h = rw (other p h) refl
  where
    other : (p : ℕ) → (p == s) ≡ false → (s == p) ≡ false
    other p h = elim (cases_Bool (s == p)) [
      | inl z ↦ absurd (both_ways (p == s) h (eq-eqb p s (sym (eqb-true s p z))))
      | inr z ↦ z
    ]

unless_some : (own x : Option ℕ) (s : ℕ) → unless own x ≡ Some s → (x ≡ Some s) × (is_owner s own ≡ false)
unless_some own None s h = cc
unless_some None (Some t) s h = (h, refl)
unless_some (Some p) (Some t) s h = by (t == p) refl h
  where
    by : (b : Bool) → (t == p) ≡ b → (if b then None else Some t) ≡ Some s → (Some t ≡ Some s) × ((p == s) ≡ false)
    by true e k = cc
    by false e k = (
      k,
      elim (cases_Bool (p == s)) [
        | inl z ↦ let w : t ≡ s = cc in absurd (both_ways (t == p) e (eq-eqb t p (w ∙ sym (eqb-true p s z))))
        | inr z ↦ z
      ],
    )

-- own is what the actor is a member of
member_same : (own : Option ℕ) (s : ℕ) (mark : Option Mark) → own ≡ starter_in mark → is_of s mark ≡ is_owner s own
member_same own s None h = rw h refl
member_same own s (Some m) h = rw h refl

shared_small : (o : Object) → is_small o ≡ true → is_shared o ≡ true
shared_small (Proc n) h = refl
shared_small (Desc n) h = refl
shared_small (Pipe n) h = refl
shared_small (Held n) h = h

pub in_small : (set : Objects) (o : Object) → is_in set o ≡ true → is_small o ≡ true
unfolding is_in
in_small set o h = by (is_small o) h
  where
    by : (b : Bool) → (if b then has_place set.words (place_of o) else false) ≡ true → b ≡ true
    by true k = refl
    by false k = k

shared_owner : (k : Content) (o : Object) → is_shared o ≡ true → owner_at k o ≡ owner_of k.owners o
shared_owner k (Proc n) h = refl
shared_owner k (Desc n) h = refl
shared_owner k (Pipe n) h = refl
shared_owner k (Held n) h = cc

held_owner : (n s : ℕ) (slot : Option BoxedTxn) → own_held n slot ≡ Some s → n ≡ s
held_owner n s None h = cc
held_owner n s (Some boxed) h = cc

other_first : (x y : Bool) → (if x then false else y) ≡ true → (x ≡ false) × (y ≡ true)
other_first true y h = cc
other_first false y h = (refl, h)

-- an object of the footprint whose owner is s, and not the own one
pub record OwnsOne (own : Option ℕ) (owners : List (Option Pid)) (footprint : Objects) (s : ℕ) : Type 0 where
  pub at : Object
  pub there : is_in footprint at ≡ true
  pub owned : unless own (owner_of owners at) ≡ Some s

-- a number between 1 and a limit is no greater
within : (limit n : ℕ) → is_between limit n ≡ true → n ≤ limit
within limit zero h = omega arith
within limit (suc n) h = let low = ltb-true n limit h in omega (arith, low)

bounded : (k : Content) → IsKept (content_of k) → (s : ℕ) → is_live (table_at k.marks) s ≡ true → is_between (length k.marks) s ≡ true
unfolding states_view
bounded k kept s live = kept.sound.bounded s s live

-- a transaction that is live stands in the way as its parts say
chosen : (a m d e t : Bool) → d ≡ e → (e ≡ true → t ≡ true) →
    (if a then false else (if m then true else d)) ≡ (if (if a then false else m) then true else (if t then (if a then false else e) else false))
chosen true m d e true same told = refl
chosen true m d e false same told = refl
chosen false true d e t same told = refl
chosen false false d e true same told = same
chosen false false d true false same told = absurd (both_ways false refl (told refl))
chosen false false d false false same told = same

module _ (k : Content) (kept : IsKept (content_of k)) (own : Option ℕ) (footprint : Objects) (ms : List Sending)
    (event : Event) (is_footprint : IsFootprint k event footprint) (sends : (effect event (now_of k)).sends ≡ ms) (mine : IsOfMember k own event) where
  -- what the event names
  abbrev named : List Object
  named = event_footprint (table_at k.marks) event (now_of k)

  abbrev owned_by : ℕ → Object → Bool
  owned_by s o = is_owner s (owner_at k o)

  -- whether s, which is not the own one, owns something that the event names
  abbrev owns : ℕ → Bool
  owns s = if is_owner s own then false else some_object named (owned_by s)

  shared_one : (s : ℕ) (o : Object) → is_shared o ≡ true → has_object o named ≡ true →
      is_owner s (owner_at k o) ≡ true → is_owner s own ≡ false → OwnsOne own k.owners footprint s
  shared_one s o shared there owned other = record {
    at = o;
    there = is_footprint o shared ∙ there;
    owned = ap (unless own) (sym (shared_owner k o shared) ∙ owner_is s (owner_at k o) owned) ∙ unless_other own s other;
  }

  one_of : (s : ℕ) (o : Object) → has_object o named ≡ true →
      is_owner s (owner_at k o) ≡ true → is_owner s own ≡ false → OwnsOne own k.owners footprint s
  one_of s (Proc n) there owned other = shared_one s (Proc n) refl there owned other
  one_of s (Desc n) there owned other = shared_one s (Desc n) refl there owned other
  one_of s (Pipe n) there owned other = shared_one s (Pipe n) refl there owned other
  one_of s (Held n) there owned other =
      let same : n ≡ s = held_owner n s (slot_at k.txns n) (owner_is s (owner_at k (Held n)) owned) in
      absurd (both_ways (is_owner s own) other
      (owner_self s own (mine.holds n (held_named (table_at k.marks) event (now_of k) n there) ∙ ap Some same)))

  owned_one : (s : ℕ) → owns s ≡ true → OwnsOne own k.owners footprint s
  owned_one s h =
      let both = other_first (is_owner s own) (some_object named (owned_by s)) h in
      let one = meets_some named (owned_by s) both.1 in
      one_of s one.at one.named one.passes both.0

  owner_of_one : (s : ℕ) (one : OwnsOne own k.owners footprint s) → owner_at k one.at ≡ Some s
  owner_of_one s one =
      shared_owner k one.at (shared_small one.at (in_small footprint one.at one.there)) ∙ (unless_some own (owner_of k.owners one.at) s one.owned).0

  one_owned : (s : ℕ) → OwnsOne own k.owners footprint s → owns s ≡ true
  one_owned s one =
      let other : is_owner s own ≡ false = (unless_some own (owner_of k.owners one.at) s one.owned).1 in
      rw other (some_meets named (owned_by s) one.at
      (sym (is_footprint one.at (shared_small one.at (in_small footprint one.at one.there))) ∙ one.there)
      (owner_self s (owner_at k one.at) (owner_of_one s one)))

  -- the least owner
  owners_least : (x : Option ℕ) → IsLeast (is_in footprint) (λ o. unless own (owner_of k.owners o)) x → IsLeastThat owns x
  owners_least None none = λ n. elim (cases_Bool (owns n)) [
    | inl e ↦ let one = owned_one n e in let clash : None ≡ Some n = sym (none one.at one.there) ∙ one.owned in cc
    | inr e ↦ e
  ]
  owners_least (Some s) one = (
    one_owned s (record { at = one.at; there = one.among; owned = one.has }),
    λ n e. let other = owned_one n e in one.least other.at n other.there other.owned,
  )

  -- who owns something is live
  owner_lives : (s : ℕ) (o : Object) → owner_at k o ≡ Some s → is_live (table_at k.marks) s ≡ true
  unfolding states_view
  owner_lives s o h = kept.sound.owned_live s o (owner_self s (owner_at k o) h)

  dead_owns_none : (s : ℕ) → slot_at k.txns s ≡ None → owns s ≡ false
  dead_owns_none s empty = elim (cases_Bool (owns s)) [
    | inl e ↦
        let one = owned_one s e in
        let clash : false ≡ true = ap (λ (slot : Option BoxedTxn). is_some (option_map txn_of slot)) (sym empty) ∙ kept.live s ∙ owner_lives s one.at (owner_of_one s one) in
        cc
    | inr e ↦ e
  ]

  -- who is in the way owns something that the event names, or a send to it has two answers
  way_is : (s : ℕ) → stands_in_way (content_of k) event s ((content_of k).txns s) ≡ either owns (among (gives_two_answers k own ms) ms) s
  way_is s = by (slot_at k.txns s) refl
    where
      nothing : (b : Bool) → false ≡ (if b then false else false)
      nothing true = refl
      nothing false = refl

      by : (slot : Option BoxedTxn) → slot_at k.txns s ≡ slot →
          stands_in_way (content_of k) event s (option_map txn_of slot)
          ≡ (if owns s then true else (if is_target s ms then two_answers_in own ms s (process_in (slot_at k.parts.procs s)) slot else false))
      by None e = let none : owns s ≡ false = dead_owns_none s e in rw none (nothing (is_target s ms))
      by (Some boxed) e =
          let member = member_same own s (slot_at k.marks (actor event)) mine.member in
          ap (λ (b : Bool). if b then false else (if some_object named (owned_by s) then true else starter_differs_in (content_of k) event s (txn_of boxed))) member
          ∙ chosen (is_owner s own) (some_object named (owned_by s)) (starter_differs_in (content_of k) event s (txn_of boxed))
          (starter_differs s ms (process_in (slot_at k.parts.procs s)) boxed.txn.value.kept) (is_target s ms)
          (sym (difference_told s (effect event (now_of k)).sends _ _ _ _)
          ∙ ap (λ (all : List Sending). starter_differs s all (process_in (slot_at k.parts.procs s)) boxed.txn.value.kept) sends)
          (difference_target s ms _ _ _ _)

  -- it has a number of the table
  way_within : (s : ℕ) → stands_in_way (content_of k) event s ((content_of k).txns s) ≡ true → s ≤ length k.marks
  way_within s h = by (slot_at k.txns s) refl h
    where
      by : (slot : Option BoxedTxn) → slot_at k.txns s ≡ slot → stands_in_way (content_of k) event s (option_map txn_of slot) ≡ true → s ≤ length k.marks
      by None e z = cc
      by (Some boxed) e z =
          let live : is_live (table_at k.marks) s ≡ true = sym (kept.live s) ∙ ap (λ (slot : Option BoxedTxn). is_some (option_map txn_of slot)) e in
          within (length k.marks) s (bounded k kept s live)

  -- the starter in the way is the lesser of the least owner and the least target at which a send has two answers
  pub starter_in_way_is : StarterInWayIsOfFaces → (a b : Option ℕ) → IsLeast (is_in footprint) (λ o. unless own (owner_of k.owners o)) a → b ≡ least_target (gives_two_answers k own ms) ms →
      lesser_of a b ≡ starter_in_way (view_of k) event
  unfolding view_of
  starter_in_way_is law a b owner target =
      least_found (λ s. stands_in_way (content_of k) event s ((content_of k).txns s)) (length k.marks) (lesser_of a b)
      (least_same (either owns (among (gives_two_answers k own ms) ms)) (λ s. stands_in_way (content_of k) event s ((content_of k).txns s)) (lesser_of a b) (λ n. sym (way_is n))
      (lesser_least owns (among (gives_two_answers k own ms) ms) a b (owners_least a owner) (subst (IsLeastThat (among (gives_two_answers k own ms) ms)) (sym target) (targets_least (gives_two_answers k own ms) ms))))
      way_within
      ∙ sym (law (content_of k) event kept)

-- the lesser of a number and none
pub lesser_none : (x : Option ℕ) → lesser_of x None ≡ x
lesser_none None = refl
lesser_none (Some a) = refl
