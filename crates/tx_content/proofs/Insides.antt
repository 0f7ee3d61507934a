-- A step inside of a transaction.
use Rattle.std.proofs.Common.{◌≡◌, ◌≢◌, ◌⊎◌, ℕ, ◌+◌, ◌-◌, ◌≤◌, Bool, true, false, not, ◌&&◌, ◌||◌, ◌==◌, if◌then◌else◌, List, [], ◌∷◌, ◌++◌, length, length-append, drop, take, map, Option, Some, None, option_map, refl, sym, ap, subst, ◌∙◌, inl, inr, eq-eqb, eqb-true, append_assoc, arith}
use Rattle.std.proofs.lemmas.Bool.{both_ways, cases_Bool}
use Rattle.std.proofs.lemmas.List.{drop_at, take_at}
use Rattle.tx_base.specs.SlotFacts.{length-with_slot, slot_at-with_slot, slot_same, slot_there, slot_twice}
use Rattle.tx_base.specs.Slots.{slot_at, with_slot}
use Rattle.tx_base.specs.declared.marks.Mark.{Mark}
use Rattle.tx_base.specs.declared.names.Pid.{Pid}
use Rattle.tx_base.specs.declared.names.Sending.{Sending as TheSending}
use Rattle.tx_change.specs.Counts.{CountsAgree}
use Rattle.tx_change.specs.Exchange.{sizes_of, undone, Sizes, AreNamed, AreWithin}
use Rattle.tx_change.specs.Laws.{BringPlaces}
use Rattle.tx_change.specs.States.{state_of}
use Rattle.tx_change.specs.declared.change.Change.{Change}
use Rattle.tx_change.specs.declared.parts.Parts.{Parts}
use Rattle.tx_kernel.specs.Actors.{transaction_of, CountsHeld}
use Rattle.tx_kernel.specs.Acts.{event_of, Makes}
use Rattle.tx_kernel.specs.Plans.{held_after, sending_of, AreAmong}
use Rattle.tx_kernel.specs.declared.events.Act.{Act}
use Rattle.tx_kernel.specs.declared.planned.Planned.{Planned}
use Rattle.tx_kernel.specs.declared.planned.Sends.{Sends}
use Rattle.tx_kernel.specs.declared.planned.Sends.TheVariants.{Nothing, AtOnce, AtCommit}
use Rattle.tx_laws.specs.Commuting.{named_by}
use Rattle.tx_laws.specs.Fits.{FitsWithin}
use Rattle.tx_laws.specs.Footprints.{is_shared}
use Rattle.tx_laws.specs.TwoStates.{is_owner, made, states_view}
use Rattle.tx_content.proofs.KeptPosted.{slot_kept}
use Rattle.tx_content.proofs.Others.{counts_stay, txn_stays, DefersSo, Stays}
use Rattle.tx_content.proofs.Outsides.{same_content, targets_are}
use Rattle.tx_content.specs.Content.{content_of, held_in, held_of, now_of, owner_at, own_held, txn_of, view_of, IsShaped, IsTxn}
use Rattle.tx_content.specs.Insides.{handed_out, inside_in, is_handed_out, unmade_of, IsFootprint, IsFree, MakesIn}
use Rattle.tx_content.specs.Inverses.{first_of, last_of, last_in, less_last, remarked, step_back, with_txn, HasLog, HasMark, UndoesInside}
use Rattle.tx_content.specs.Laws.{LiveLaws}
use Rattle.tx_content.specs.Made.{Answers, IsMade}
use Rattle.tx_content.specs.Progresses.{part_of}
use Rattle.tx_content.specs.declared.content.BoxedTxn.{BoxedTxn}
use Rattle.tx_content.specs.declared.content.Content.{Content}
use Rattle.tx_content.specs.declared.inverse.Inverse.TheVariants.{Inside}
use Rattle.tx_content.specs.declared.marking.Marked.{Marked}
use Rattle.tx_content.specs.declared.marking.Progress.{Progress}
use Rattle.tx_content.specs.declared.marking.Progress.TheVariants.{Continues, Parks, Forks}
use Rattle.tx_content.specs.declared.member_step.MemberStep.{MemberStep}
use Rattle.tx_model.specs.Effects.{Inside as InsideOf}
use Rattle.tx_model.specs.Events.{Event, actor, effect, objects, reply_of}
use Rattle.tx_model.specs.History.{event_footprint, objects_reserved, targets}
use Rattle.tx_model.specs.ObjectFacts.{has_left, targets_lack}
use Rattle.tx_model.specs.Words.{processes_of}
use Rattle.tx_model.specs.Membership.{Within, is_of, marks_after, new_mark, parked_mark, defers_in}
use Rattle.tx_model.specs.Book.{member_sends}
use Rattle.tx_model.specs.State.{Object, Proc, Desc, Pipe, Held, Sending, State, has_object, same_object}
use Rattle.tx_reserve.specs.Objects.{is_in}
use Rattle.tx_reserve.specs.Reservations.{owner_of, unless}
use Rattle.tx_reserve.specs.declared.objects.Objects.{Objects}
use Rattle.tx_txn.specs.Content.{two_states_of, IsKept}
use Rattle.tx_txn.specs.Logs.{newest_first}
use Rattle.tx_txn.specs.Marks.{table_at}
use Rattle.tx_txn.specs.Outboxes.{unmade, Held as HeldSends}
use Rattle.tx_txn.specs.Steps.{logged, next_content, Logs}
use Rattle.tx_txn.specs.Txns.{inside_at}
use Rattle.tx_txn.specs.declared.outbox.HeldPost.{HeldPost}
use Rattle.tx_txn.specs.declared.txn.Txn.{Txn}

newest_append : (front behind : List Change) → newest_first (front ++ behind) ≡ newest_first behind ++ newest_first front
newest_append [] behind = sym (append_nil (newest_first behind))
  where
    append_nil : (xs : List Change) → xs ++ [] ≡ xs
    append_nil [] = refl
    append_nil (x ∷ xs) = ap (λ (ys : List Change). x ∷ ys) (append_nil xs)
newest_append (change ∷ front) behind = ap (λ (xs : List Change). xs ++ change ∷ []) (newest_append front behind) ∙ append_assoc (newest_first behind) (newest_first front) (change ∷ [])

brings_both : (front behind : List Change) → BringPlaces front → BringPlaces behind → BringPlaces (front ++ behind)
brings_both [] behind first last = last
brings_both (change ∷ front) behind first last = (first.0, brings_both front behind first.1 last)

pub map_append : {A B : Type 0} (f : A → B) (xs ys : List A) → map f (xs ++ ys) ≡ map f xs ++ map f ys
map_append f [] ys = refl
map_append f (x ∷ xs) ys = ap (λ zs. f x ∷ zs) (map_append f xs ys)

unmade_all : List TheSending → List HeldPost
unmade_all xs = map (λ m. unmade) xs

pub unmade_handed : (sends : Sends) → unmade_of sends ≡ map (λ m. unmade) (handed_out sends)
unmade_handed Nothing = refl
unmade_handed (AtOnce m) = refl
unmade_handed (AtCommit m) = refl

-- without its last one
pub but_last : {A : Type 0} (xs : List A) (x : A) → take (length (xs ++ x ∷ []) - 1) (xs ++ x ∷ []) ≡ xs
but_last xs x = take_at xs (x ∷ []) (length (xs ++ x ∷ []) - 1) (sym (long (length-append xs (x ∷ []))))
  where
    long : length (xs ++ x ∷ []) ≡ length xs + 1 → length (xs ++ x ∷ []) - 1 ≡ length xs
    long e = omega (arith, e)

pub no_more : {A : Type 0} (xs : List A) → xs ++ [] ≡ xs
no_more [] = refl
no_more (x ∷ xs) = ap (λ ys. x ∷ ys) (no_more xs)

-- what is held but for what a step handed out
pub held_back : (sends : Sends) (held after : HeldSends) → after ≡ record { sendings = held.sendings ++ handed_out sends; posts = held.posts ++ unmade_of sends } → less_last (is_handed_out sends) after ≡ held
held_back Nothing held after is = is ∙ (λ j. record { sendings = no_more held.sendings j; posts = no_more held.posts j })
held_back (AtOnce m) held after is = is ∙ (λ j. record { sendings = no_more held.sendings j; posts = no_more held.posts j })
held_back (AtCommit m) held after is = ap (less_last true) is ∙ (λ j. record { sendings = but_last held.sendings m j; posts = but_last held.posts unmade j })

-- what the transaction of s holds after a step that sends this
pub held_now : (inside : InsideOf) (sends : Sends) (held : ℕ → List Sending) (s n : ℕ) (before : List TheSending) → inside.starter ≡ s → held s ≡ map sending_of before →
    held_after (Some inside) sends held n ≡ (if n == s then map sending_of (before ++ handed_out sends) else held n)
held_now inside Nothing held s n before is was = elim (cases_Bool (n == s)) [
  | inl e ↦ rw e (ap held (eqb-true n s e) ∙ was ∙ ap (map sending_of) (sym (no_more before)))
  | inr e ↦ rw e refl
]
held_now inside (AtOnce m) held s n before is was = elim (cases_Bool (n == s)) [
  | inl e ↦ rw e (ap held (eqb-true n s e) ∙ was ∙ ap (map sending_of) (sym (no_more before)))
  | inr e ↦ rw e refl
]
held_now inside (AtCommit m) held s n before is was =
    subst (λ (t : ℕ). (if n == t then held t ++ sending_of m ∷ [] else held n) ≡ (if n == s then map sending_of (before ++ m ∷ []) else held n)) (sym is)
    (ap (λ (xs : List Sending). if n == s then xs else held n) (ap (λ (xs : List Sending). xs ++ sending_of m ∷ []) was ∙ sym (map_append sending_of before (m ∷ []))))

has_left_alone : (o : Object) (xs ys : List Object) → has_object o ys ≡ false → has_object o (xs ++ ys) ≡ has_object o xs
unfolding has_object
has_left_alone o [] ys none = none
has_left_alone o (x ∷ xs) ys none = by (same_object o x) (has_left_alone o xs ys none)
  where
    by : (b : Bool) → has_object o (xs ++ ys) ≡ has_object o xs → (if b then true else has_object o (xs ++ ys)) ≡ (if b then true else has_object o xs)
    by true rest = refl
    by false rest = rest

-- an object that the footprint leaves alone, or takes
pub owned_after : (s : ℕ) (was : Option ℕ) (mine fresh : Bool) → mine ≡ is_owner s was → (fresh ≡ true → unless (Some s) was ≡ None) →
    ((mine || fresh) ≡ is_owner s (if fresh then Some s else was)) × (was ≡ (if (mine || fresh) && not mine then None else (if fresh then Some s else was)))
owned_after s was true false own free = (own, refl)
owned_after s was false false own free = (own, refl)
owned_after s None true true own free = cc
owned_after s (Some t) true true own free = (sym (eq-eqb s s refl), ap Some (eqb-true t s (sym own)))
owned_after s None false true own free = (sym (eq-eqb s s refl), refl)
owned_after s (Some t) false true own free = absurd (both_ways (s == t) other (eq-eqb s t (sym (from free))))
  where
    other : (s == t) ≡ false
    other = elim (cases_Bool (s == t)) [
      | inl e ↦ absurd (both_ways (t == s) (sym own) (eq-eqb t s (sym (eqb-true s t e))))
      | inr e ↦ e
    ]

    from : (true ≡ true → unless (Some s) (Some t) ≡ None) → t ≡ s
    from h = by (t == s) refl (h refl)
      where
        by : (b : Bool) → (t == s) ≡ b → (if b then None else Some t) ≡ None → t ≡ s
        by true e z = eqb-true t s e
        by false e z = cc

-- what another transaction owns stays its own
others_after : (s n : ℕ) (was : Option ℕ) (fresh : Bool) → n ≢ s → (fresh ≡ true → unless (Some s) was ≡ None) → is_owner n (if fresh then Some s else was) ≡ is_owner n was
others_after s n was false apart free = refl
others_after s n None true apart free = by (s == n) refl
  where
    by : (b : Bool) → (s == n) ≡ b → b ≡ false
    by true e = absurd (apart (sym (eqb-true s n e)))
    by false e = refl
others_after s n (Some t) true apart free = by (s == n) (t == n) refl refl
  where
    from : (b : Bool) → (t == s) ≡ b → (if b then None else Some t) ≡ None → t ≡ s
    from true e z = eqb-true t s e
    from false e z = cc

    by : (b c : Bool) → (s == n) ≡ b → (t == n) ≡ c → b ≡ c
    by true c e f = absurd (apart (sym (eqb-true s n e)))
    by false true e f = absurd (apart (sym (eqb-true t n f) ∙ from (t == s) refl (free refl)))
    by false false e f = refl

-- whether marks stay those of their transactions
abbrev KeepsOf : ℕ → Option Mark → Option Mark → Type 0
KeepsOf n old new = is_of n new ≡ is_of n old

parked_of : (n : ℕ) (x : Option Mark) → is_of n (parked_mark x) ≡ is_of n x
parked_of n None = refl
parked_of n (Some m) = refl

parked_defers : (n : ℕ) (defers : Bool) (x : Option Mark) → DefersSo n defers x → DefersSo n defers (parked_mark x)
parked_defers n defers None so m e is = cc
parked_defers n defers (Some was) so m e is = told (so was refl) m e is
  where
    marked : Option Mark → Mark
    marked None = was
    marked (Some x) = x

    told : (was.starter.0 ≡ n → was.defers ≡ defers) → (m : Mark) → Some (record was { ended = true }) ≡ Some m → m.starter.0 ≡ n → m.defers ≡ defers
    told so m e is =
        let same : record was { ended = true } ≡ m = ap marked e in
        sym (ap (λ (x : Mark). x.defers) same) ∙ so (ap (λ (x : Mark). x.starter.0) same ∙ is)

new_defers : (s : ℕ) (defers : Bool) → DefersSo s defers (Some (new_mark s defers))
new_defers s defers m e is = sym (ap of e)
  where
    of : Option Mark → Bool
    of None = defers
    of (Some x) = x.defers

defers_live : (s : ℕ) (defers : Bool) (x : Option Mark) → is_of s x ≡ true → DefersSo s defers x → defers_in x ≡ defers
defers_live s defers None live so = cc
defers_live s defers (Some m) live so = so m refl (eqb-true m.starter.0 s live)

-- what one transaction owns is not free for another one
not_free : (s n : ℕ) (was : Option ℕ) → was ≡ Some n → unless (Some s) was ≡ None → n ≡ s
not_free s n was own free = by (n == s) refl (sym (ap (unless (Some s)) own) ∙ free)
  where
    by : (b : Bool) → (n == s) ≡ b → (if b then None else Some n) ≡ None → n ≡ s
    by true e z = eqb-true n s e
    by false e z = cc

-- a box that is put back as it was
pub put_back : (old new : List (Option BoxedTxn)) (n : ℕ) (boxed : BoxedTxn) (txn : Txn) → slot_at old n ≡ Some boxed → txn ≡ boxed.txn.value →
    new ≡ with_slot old n (Some (with_txn boxed txn)) → new ≡ old
put_back old new n boxed txn there same now = slot_kept old new n boxed (with_txn boxed txn) there (ap (with_txn boxed) same) now

-- the event was made, and the transaction has reserved the footprint
pub record StepsIn (before after : Parts) (marks : List (Option Mark)) (owners others : List (Option Pid)) (pid : Pid) (act : Act) (footprint : Objects) (old new : Txn)
    (planned : Planned) (count : ℕ) (reserved : Objects) : Type 0 where
  pub middle : Txn
  pub makes : MakesIn before after marks pid act old middle planned
  pub counted : count ≡ length middle.log - length old.log
  pub had : reserved ≡ middle.objects
  pub owns : (o : Object) → owner_of others o ≡ (if is_in footprint o then Some middle.starter.0 else owner_of owners o)
  pub sized : length others ≡ 352
  pub objects : (o : Object) → is_in new.objects o ≡ (is_in middle.objects o || is_in footprint o)
  pub rest : new ≡ record middle { objects = new.objects }

module _ (laws : LiveLaws) (old new : Content) (pid starter : Pid) (act : Act) (progress : Progress) (footprint : Objects) (boxed : BoxedTxn) (after : Txn) (planned : Planned) (count : ℕ) (reserved : Objects) (marked : Option Marked)
    (shaped : IsShaped old) (kept_old : IsKept (content_of old)) (there : slot_at old.txns starter.0 ≡ Some boxed)
    (steps : StepsIn old.parts new.parts old.marks old.owners new.owners pid act footprint boxed.txn.value after planned count reserved)
    (marks : (n : ℕ) → slot_at new.marks n ≡ marks_after (Within starter.0 (part_of progress)) pid.0 (slot_at old.marks) n)
    (marks_long : length new.marks ≡ length old.marks) (remarks : remarked marked new.marks ≡ old.marks) (has_mark : HasMark new.marks marked)
    (txns : new.txns ≡ with_slot old.txns starter.0 (Some (with_txn boxed after)))
    (is_footprint : IsFootprint old (event_of (inside_in old starter) pid act) footprint) (free : IsFree old starter.0 footprint) where
  abbrev s : ℕ
  s = starter.0

  abbrev t0 : Txn
  t0 = boxed.txn.value

  abbrev box1 : BoxedTxn
  box1 = with_txn boxed after

  -- the step, as its inverse has it
  abbrev step : MemberStep
  step = record { starter = starter; count = count; objects = reserved; marked = marked }

  abbrev S : State
  S = now_of old

  abbrev event : Event
  event = event_of (Some (inside_at t0 old.marks)) pid act

  inside_is : inside_in old starter ≡ Some (inside_at t0 old.marks)
  inside_is = ap (option_map (λ (b : BoxedTxn). inside_at b.txn.value old.marks)) there

  event_is : event_of (inside_in old starter) pid act ≡ event
  event_is = ap (λ (i : Option InsideOf). event_of i pid act) inside_is

  was : IsTxn old s t0
  was = shaped.each s boxed there

  made_in : MakesIn old.parts new.parts old.marks pid act t0 steps.middle planned
  made_in = steps.makes

  makes : Makes old.parts pid (Some made_in.inside) event t0.log steps.middle.log new.parts planned
  makes = made_in.makes

  abbrev kept : List Change
  kept = makes.kept

  inside_s : made_in.inside.starter.0 ≡ s
  inside_s = ap (λ (i : InsideOf). i.starter) made_in.is ∙ was.starter

  holds : held_of old s ≡ map sending_of t0.outbox.sendings
  holds = ap held_in there

  counts : CountsHeld (Some made_in.inside) (held_of old)
  counts = ap (λ (n : ℕ). member_sends (held_of old n)) inside_s ∙ ap member_sends holds ∙ sym made_in.held

  bounds : (1 ≤ s) × (s ≤ length old.txns)
  bounds = slot_there old.txns s boxed there

  slots : (n : ℕ) → slot_at new.txns n ≡ (if n == s then Some box1 else slot_at old.txns n)
  slots n = ap (λ (ts : List (Option BoxedTxn)). slot_at ts n) txns ∙ slot_at-with_slot old.txns s (Some box1) n bounds.0 bounds.1

  slot_s : slot_at new.txns s ≡ Some box1
  slot_s = slots s ∙ rw (eq-eqb s s refl) refl

  log_is : after.log ≡ t0.log ++ kept
  log_is = ap (λ (t : Txn). t.log) steps.rest ∙ makes.added

  kept_is : after.kept ≡ t0.kept
  kept_is = ap (λ (t : Txn). t.kept) steps.rest ∙ ap (λ (t : Txn). t.kept) made_in.rest

  outbox_is : after.outbox ≡ record { sendings = t0.outbox.sendings ++ handed_out planned.sends; posts = t0.outbox.posts ++ unmade_of planned.sends }
  outbox_is = ap (λ (t : Txn). t.outbox) steps.rest ∙ made_in.outbox

  middle_objects : steps.middle.objects ≡ t0.objects
  middle_objects = ap (λ (t : Txn). t.objects) made_in.rest

  starter_is : after.starter ≡ t0.starter
  starter_is = ap (λ (t : Txn). t.starter) steps.rest ∙ ap (λ (t : Txn). t.starter) made_in.rest

  now_same : now_of new ≡ made event S S
  now_same = (λ j. state_of (λ n. hold n j) new.parts)
      ∙ sym (laws.made (held_of old) old.parts new.parts pid (Some made_in.inside) event t0.log steps.middle.log planned makes counts)
    where
      by : (n : ℕ) → held_in (if n == s then Some box1 else slot_at old.txns n) ≡ (if n == s then map sending_of (t0.outbox.sendings ++ handed_out planned.sends) else held_of old n)
      by n = elim (cases_Bool (n == s)) [
        | inl e ↦ rw e (ap (λ (o : HeldSends). map sending_of o.sendings) outbox_is)
        | inr e ↦ rw e refl
      ]

      hold : (n : ℕ) → held_of new n ≡ held_after (Some (transaction_of made_in.inside)) planned.sends (held_of old) n
      hold n = ap held_in (slots n) ∙ by n ∙ sym (held_now (transaction_of made_in.inside) planned.sends (held_of old) s n t0.outbox.sendings inside_s holds)

  txn_is : txn_of box1 ≡ record (txn_of boxed) { log = newest_first kept ++ newest_first t0.log }
  txn_is = λ j. record (txn_of (with_txn boxed (record after { kept = kept_is j }))) { log = (ap newest_first log_is ∙ newest_append t0.log kept) j }

  txns_same : (n : ℕ) → option_map txn_of (slot_at new.txns n) ≡ (next_content (Within s (part_of progress)) event pid.0 (newest_first kept) (content_of old)).txns n
  unfolding next_content
  txns_same n = ap (option_map txn_of) (slots n) ∙ elim (cases_Bool (n == s)) [
    | inl e ↦ rw e (ap Some txn_is ∙ ap (λ (x : Option BoxedTxn). logged (newest_first kept) (S.procs s) (option_map txn_of x)) (sym there))
    | inr e ↦ rw e refl
  ]

  owner_part : (o : Object) → is_in footprint o ≡ has_object o (event_footprint (table_at old.marks) event S) → owner_of new.owners o ≡ (if has_object o (event_footprint (table_at old.marks) event S) then Some s else owner_of old.owners o)
  owner_part o same = steps.owns o ∙ (λ j. if same j then Some (middle_starter j) else owner_of old.owners o)
    where
      middle_starter : steps.middle.starter.0 ≡ s
      middle_starter = ap (λ (t : Txn). t.starter.0) made_in.rest ∙ was.starter

  footprint_at : (o : Object) → is_shared o ≡ true → is_in footprint o ≡ has_object o (event_footprint (table_at old.marks) event S)
  footprint_at o shared = is_footprint o shared ∙ ap (λ (ev : Event). has_object o (event_footprint (table_at old.marks) ev S)) event_is

  reserved_same : (o : Object) → has_object o (objects_reserved (part_of progress) s (event_footprint (table_at old.marks) event S)) ≡ has_object o (event_footprint (table_at old.marks) event S)
  reserved_same o = by progress
    where
      by : (p : Progress) → has_object o (objects_reserved (part_of p) s (event_footprint (table_at old.marks) event S)) ≡ has_object o (event_footprint (table_at old.marks) event S)
      by Continues = refl
      by Parks = refl
      by (Forks c) = refl

  -- the owners after it
  owner_next : (o : Object) → is_shared o ≡ true → owner_of new.owners o ≡ (if has_object o (objects_reserved (part_of progress) s (event_footprint (table_at old.marks) event S)) then Some s else owner_of old.owners o)
  owner_next o shared = owner_part o (footprint_at o shared) ∙ ap (λ (b : Bool). if b then Some s else owner_of old.owners o) (sym (reserved_same o))

  module _ (fits : FitsWithin s (part_of progress) event pid.0 (view_of old)) where
    held_own : (n : ℕ) → own_held n (slot_at new.txns n) ≡ (if has_object (Held n) (objects_reserved (part_of progress) s (event_footprint (table_at old.marks) event S)) then Some s else own_held n (slot_at old.txns n))
    unfolding event_footprint
    held_own n = ap (own_held n) (slots n) ∙ elim (cases_Bool (n == s)) [
      | inl e ↦ rw e (same_starter n (eqb-true n s e)
          (has_object (Held n) (objects_reserved (part_of progress) s (event_footprint (table_at old.marks) event S))) (slot_at old.txns n) (ap (slot_at old.txns) (eqb-true n s e) ∙ there))
      | inr e ↦ rw e (sym (ap (λ (b : Bool). if b then Some s else own_held n (slot_at old.txns n))
          (reserved_same (Held n) ∙ has_left_alone (Held n) (objects event S) (targets (table_at old.marks) (actor event) (effect event S).sends) (targets_lack (Held n) (λ m. refl) (table_at old.marks) (actor event) (effect event S).sends)
          ∙ apart n e)))
    ]
      where
        same_starter : (n : ℕ) → n ≡ s → (b : Bool) (x : Option BoxedTxn) → x ≡ Some boxed → Some n ≡ (if b then Some s else own_held n x)
        same_starter n is true x at = ap Some is
        same_starter n is false x at = sym (ap (own_held n) at)

        apart : (n : ℕ) → (n == s) ≡ false → has_object (Held n) (objects event S) ≡ false
        apart n e = elim (cases_Bool (has_object (Held n) (objects event S))) [
          | inl h ↦ absurd (both_ways (n == s) e (eq-eqb n s (fits.holds S n h)))
          | inr h ↦ h
        ]

    owners_same : (o : Object) → owner_at new o ≡ (next_content (Within s (part_of progress)) event pid.0 (newest_first kept) (content_of old)).owner o
    unfolding next_content
    owners_same (Proc n) = owner_next (Proc n) refl
    owners_same (Desc n) = owner_next (Desc n) refl
    owners_same (Pipe n) = owner_next (Pipe n) refl
    owners_same (Held n) = held_own n

    next_same : content_of new ≡ next_content (Within s (part_of progress)) event pid.0 (newest_first kept) (content_of old)
    unfolding next_content
    next_same = same_content (content_of new) (next_content (Within s (part_of progress)) event pid.0 (newest_first kept) (content_of old)) now_same txns_same owners_same
        (λ j. record { width = marks_long j; marks = λ n. marks n j })

    sizes_new : sizes_of new.parts ≡ sizes_of old.parts
    sizes_new = sym (laws.sizes_back new.parts kept) ∙ ap sizes_of makes.back

    long_new : length new.parts.procs ≡ length old.parts.procs
    long_new = ap (λ (z : Sizes). z.procs) sizes_new

    owns : (o : Object) → owner_of new.owners o ≡ (if is_in footprint o then Some s else owner_of old.owners o)
    owns o = steps.owns o ∙ ap (λ (n : ℕ). if is_in footprint o then Some n else owner_of old.owners o) (ap (λ (t : Txn). t.starter.0) made_in.rest ∙ was.starter)

    objects_after : (o : Object) → is_in after.objects o ≡ (is_in t0.objects o || is_in footprint o)
    objects_after o = steps.objects o ∙ ap (λ (os : Objects). is_in os o || is_in footprint o) middle_objects

    named_log : AreNamed new.parts after.log
    named_log = subst (AreNamed new.parts) (sym log_is) (laws.named new.parts t0.log kept (subst (λ (z : Sizes). AreWithin z t0.log) (sym sizes_new) was.named) makes.named)

    live_after : is_of s (marks_after (Within s (part_of progress)) pid.0 (slot_at old.marks) s) ≡ true
    live_after = by progress
      where
        by : (p : Progress) → is_of s (marks_after (Within s (part_of p)) pid.0 (slot_at old.marks) s) ≡ true
        by Continues = was.live
        by Parks = elim (cases_Bool (s == pid.0)) [
          | inl e ↦ rw e (parked_of s (slot_at old.marks pid.0) ∙ ap (λ (n : ℕ). is_of s (slot_at old.marks n)) (sym (eqb-true s pid.0 e)) ∙ was.live)
          | inr e ↦ rw e was.live
        ]
        by (Forks c) = elim (cases_Bool (s == c.0)) [
          | inl e ↦ rw e (eq-eqb s s refl)
          | inr e ↦ rw e was.live
        ]

    posts_after : after.outbox.posts ≡ map (λ sending. unmade) after.outbox.sendings
    posts_after =
        ap (λ (h : HeldSends). h.posts) outbox_is
        ∙ (λ j. was.posts j ++ unmade_handed planned.sends j)
        ∙ sym (map_append (λ sending. unmade) t0.outbox.sendings (handed_out planned.sends))
        ∙ sym (ap (λ (h : HeldSends). map (λ sending. unmade) h.sendings) outbox_is)

    defers_is : after.defers ≡ t0.defers
    defers_is = ap (λ (t : Txn). t.defers) steps.rest ∙ ap (λ (t : Txn). t.defers) made_in.rest

    marks_defer : (n : ℕ) (d : Bool) → ((p : ℕ) → DefersSo n d (slot_at old.marks p)) → ((c : Pid) → progress ≡ Forks c → DefersSo n d (Some (new_mark s (defers_in (slot_at old.marks s))))) →
        (p : ℕ) → DefersSo n d (marks_after (Within s (part_of progress)) pid.0 (slot_at old.marks) p)
    marks_defer n d so new_one p = by progress new_one
      where
        by : (g : Progress) → ((c : Pid) → g ≡ Forks c → DefersSo n d (Some (new_mark s (defers_in (slot_at old.marks s))))) →
            DefersSo n d (marks_after (Within s (part_of g)) pid.0 (slot_at old.marks) p)
        by Continues joins = so p
        by Parks joins = elim (cases_Bool (p == pid.0)) [
          | inl e ↦ rw e (parked_defers n d (slot_at old.marks pid.0) (so pid.0))
          | inr e ↦ rw e (so p)
        ]
        by (Forks c) joins = elim (cases_Bool (p == c.0)) [
          | inl e ↦ rw e (joins c refl)
          | inr e ↦ rw e (so p)
        ]

    -- a child that joins is in the footprint
    joins_fresh : (c : Pid) → progress ≡ Forks c → is_in footprint (Proc c.0) ≡ true
    unfolding view_of event_footprint
    joins_fresh c forks = by progress forks fits
      where
        by : (g : Progress) → g ≡ Forks c → FitsWithin s (part_of g) event pid.0 (view_of old) → is_in footprint (Proc c.0) ≡ true
        by Continues e f = cc
        by Parks e f = cc
        by (Forks d) e f =
            let named : has_object (Proc d.0) (objects event S) ≡ true = subst (λ (z : State). has_object (Proc d.0) (objects event z) ≡ true) (laws.present _) f.progress_fits.1 in
            subst (λ (p : Pid). is_in footprint (Proc p.0) ≡ true) (ap child_in e)
            (footprint_at (Proc d.0) refl ∙ has_left (Proc d.0) (objects event S) (targets (table_at old.marks) (actor event) (effect event S).sends) named)
          where
            child_in : Progress → Pid
            child_in Continues = d
            child_in Parks = d
            child_in (Forks x) = x

    -- a member was one before, or its number is in the footprint
    member_before : (g : Progress) → progress ≡ g → (p : ℕ) → is_of s (marks_after (Within s (part_of g)) pid.0 (slot_at old.marks) p) ≡ true →
        (is_of s (slot_at old.marks p) ≡ true) ⊎ (is_in footprint (Proc p) ≡ true)
    member_before Continues e p of = inl of
    member_before Parks e p of = inl (elim (cases_Bool (p == pid.0)) [
      | inl z ↦ ap (λ (k : ℕ). is_of s (slot_at old.marks k)) (eqb-true p pid.0 z) ∙ sym (parked_of s (slot_at old.marks pid.0)) ∙ sym (ap (λ (b : Bool). is_of s (if b then parked_mark (slot_at old.marks pid.0) else slot_at old.marks p)) z) ∙ of
      | inr z ↦ sym (ap (λ (b : Bool). is_of s (if b then parked_mark (slot_at old.marks pid.0) else slot_at old.marks p)) z) ∙ of
    ])
    member_before (Forks c) e p of = elim (cases_Bool (p == c.0)) [
      | inl z ↦ inr (subst (λ (k : ℕ). is_in footprint (Proc k) ≡ true) (sym (eqb-true p c.0 z)) (joins_fresh c e))
      | inr z ↦ inl (sym (ap (λ (b : Bool). is_of s (if b then Some (new_mark s (defers_in (slot_at old.marks s))) else slot_at old.marks p)) z) ∙ of)
    ]

    mine : IsTxn new s after
    mine = record {
      starter = ap (λ (p : Pid). p.0) starter_is ∙ was.starter;
      live = ap (is_of s) (marks s) ∙ live_after;
      own = λ p of. owns (Proc p) ∙ member_owned p (is_in footprint (Proc p)) refl (member_before progress refl p (sym (ap (is_of s) (marks p)) ∙ of));
      named = named_log;
      brings = subst BringPlaces (sym log_is) (brings_both t0.log kept was.brings makes.brings);
      counts = subst CountsAgree (sym ((λ j. undone new.parts (log_is j)) ∙ laws.undone new.parts t0.log kept ∙ ap (λ (P : Parts). undone P t0.log) makes.back)) was.counts;
      objects = λ o. objects_after o ∙ (owned_after s (owner_of old.owners o) (is_in t0.objects o) (is_in footprint o) (was.objects o) (free o)).0 ∙ ap (is_owner s) (sym (owns o));
      posts = posts_after;
      members = ap (λ (t : Txn). t.members) steps.rest ∙ ap (λ (t : Txn). t.members) made_in.rest ∙ was.members;
      defers = λ p m at is.
          marks_defer s t0.defers was.defers
          (λ c forks. subst (λ (d : Bool). DefersSo s d (Some (new_mark s (defers_in (slot_at old.marks s))))) (defers_live s t0.defers (slot_at old.marks s) was.live (was.defers s)) (new_defers s (defers_in (slot_at old.marks s))))
          p m (sym (marks p) ∙ at) is ∙ sym defers_is;
    }
      where
        member_owned : (p : ℕ) (f : Bool) → is_in footprint (Proc p) ≡ f → (is_of s (slot_at old.marks p) ≡ true) ⊎ (is_in footprint (Proc p) ≡ true) →
            (if f then Some s else owner_of old.owners (Proc p)) ≡ Some s
        member_owned p true e h = refl
        member_owned p false e (inl of) = was.own p of
        member_owned p false e (inr fresh) = absurd (both_ways (is_in footprint (Proc p)) e fresh)

    among : AreAmong (objects event S ++ processes_of (effect event S).sends) kept
    among = subst (λ (os : List Object). AreAmong (objects event S ++ os) kept) (sym (ap processes_of (makes.gives (held_of old) counts).sent ∙ targets_are planned.sends)) (makes.among (held_of old))

    stays : (n : ℕ) (b : BoxedTxn) → (n == s) ≡ false → slot_at old.txns n ≡ Some b → Stays old new n b.txn.value
    unfolding event_footprint named_by
    stays n b apart at = record {
      sizes = sizes_new;
      members = λ p. ap (is_of n) (marks p) ∙ members_same progress refl p;
      defers = λ d so p m e is. marks_defer n d so (λ c forks m e z. absurd (differs (sym z ∙ sym (ap (starter_in m) e)))) p m (sym (marks p) ∙ e) is;
      owns = λ o. ap (is_owner n) (owns o) ∙ others_after s n (owner_of old.owners o) (is_in footprint o) differs (free o);
      counts = counts_stay laws old new shaped kept_old event kept makes.named makes.back among now_same makes.counts n b at (λ o shared own. unnamed o shared own (has_object o (objects event S)) refl);
    }
      where
        other : IsTxn old n b.txn.value
        other = shaped.each n b at

        differs : n ≢ s
        differs e = both_ways (n == s) apart (eq-eqb n s e)

        starter_in : Mark → Option Mark → ℕ
        starter_in m None = m.starter.0
        starter_in m (Some x) = x.starter.0

        -- a child that joins was no member of it
        stranger : (c : Pid) → progress ≡ Forks c → (x : Bool) → is_of n (slot_at old.marks c.0) ≡ x → x ≡ false
        stranger c e true of = absurd (differs (not_free s n (owner_of old.owners (Proc c.0)) (other.own c.0 of) (free (Proc c.0) (joins_fresh c e))))
        stranger c e false of = refl

        members_same : (g : Progress) → progress ≡ g → (p : ℕ) → is_of n (marks_after (Within s (part_of g)) pid.0 (slot_at old.marks) p) ≡ is_of n (slot_at old.marks p)
        members_same Continues e p = refl
        members_same Parks e p = elim (cases_Bool (p == pid.0)) [
          | inl z ↦ rw z (parked_of n (slot_at old.marks pid.0) ∙ ap (λ (k : ℕ). is_of n (slot_at old.marks k)) (sym (eqb-true p pid.0 z)))
          | inr z ↦ rw z refl
        ]
        members_same (Forks c) e p = elim (cases_Bool (p == c.0)) [
          | inl z ↦ rw z (no_starter (s == n) refl ∙ sym (ap (λ (k : ℕ). is_of n (slot_at old.marks k)) (eqb-true p c.0 z) ∙ stranger c e (is_of n (slot_at old.marks c.0)) refl))
          | inr z ↦ rw z refl
        ]
          where
            no_starter : (x : Bool) → (s == n) ≡ x → x ≡ false
            no_starter true z = absurd (differs (sym (eqb-true s n z)))
            no_starter false z = refl

        owned : (o : Object) → is_shared o ≡ true → owner_at old o ≡ Some n → owner_of old.owners o ≡ Some n
        owned (Proc p) shared own = own
        owned (Desc p) shared own = own
        owned (Pipe p) shared own = own
        owned (Held p) shared own = cc

        unnamed : (o : Object) → is_shared o ≡ true → owner_at old o ≡ Some n → (x : Bool) → has_object o (objects event S) ≡ x → x ≡ false
        unnamed o shared own true e = absurd (differs (not_free s n (owner_of old.owners o) (owned o shared own)
            (free o (footprint_at o shared ∙ has_left o (objects event S) (targets (table_at old.marks) (actor event) (effect event S).sends) e))))
        unnamed o shared own false e = refl

    each_after : (n : ℕ) (b : BoxedTxn) → slot_at new.txns n ≡ Some b → IsTxn new n b.txn.value
    each_after n b at = elim (cases_Bool (n == s)) [
      | inl e ↦ subst (λ (k : ℕ). IsTxn new k b.txn.value) (sym (eqb-true n s e)) (subst IsMine (sym (slot_now e) ∙ at) mine)
      | inr e ↦ other n b e (sym (slots n ∙ ap (λ (z : Bool). if z then Some box1 else slot_at old.txns n) e) ∙ at)
    ]
      where
        IsMine : Option BoxedTxn → Type 0
        IsMine None = ⊥
        IsMine (Some x) = IsTxn new s x.txn.value

        other : (n : ℕ) (b : BoxedTxn) → (n == s) ≡ false → slot_at old.txns n ≡ Some b → IsTxn new n b.txn.value
        other n b apart there = txn_stays old new n b.txn.value (shaped.each n b there) (stays n b apart there)

        slot_now : (n == s) ≡ true → slot_at new.txns n ≡ Some box1
        slot_now e = slots n ∙ ap (λ (z : Bool). if z then Some box1 else slot_at old.txns n) e

    shaped_after : IsShaped new
    shaped_after = record {
      counts = makes.counts;
      places = makes.places;
      few = subst (λ (k : ℕ). k ≤ 256) (sym long_new) shaped.few;
      marks = marks_long ∙ shaped.marks ∙ sym long_new;
      txns = ap length txns ∙ length-with_slot old.txns s (Some box1) ∙ shaped.txns ∙ sym long_new;
      owners = steps.sized;
      each = each_after;
    }

    -- how much of the log is the step's own
    front_long : length after.log - count ≡ length t0.log
    front_long = by (length after.log) (length kept) (ap length log_is ∙ length-append t0.log kept) (steps.counted ∙ ap (λ (xs : List Change). length xs - length t0.log) makes.added ∙ ap (λ (k : ℕ). k - length t0.log) (length-append t0.log kept))
      where
        by : (whole mine : ℕ) → whole ≡ length t0.log + mine → count ≡ length t0.log + mine - length t0.log → whole - count ≡ length t0.log
        by whole mine e f = omega (arith, e, f)

    count_few : count ≤ length after.log
    count_few = by (length after.log) (length kept) (ap length log_is ∙ length-append t0.log kept) (steps.counted ∙ ap (λ (xs : List Change). length xs - length t0.log) makes.added ∙ ap (λ (k : ℕ). k - length t0.log) (length-append t0.log kept))
      where
        by : (whole mine : ℕ) → whole ≡ length t0.log + mine → count ≡ length t0.log + mine - length t0.log → count ≤ whole
        by whole mine e f = omega (arith, e, f)

    last_is : last_of count after.log ≡ kept
    last_is = (λ j. drop (front_long j) (log_is j)) ∙ drop_at t0.log kept (length t0.log) refl

    first_is : first_of count after.log ≡ t0.log
    first_is = (λ j. take (front_long j) (log_is j)) ∙ take_at t0.log kept (length t0.log) refl

    back_is : step_back step (is_handed_out planned.sends) after ≡ t0
    back_is = λ j. record {
      starter = starter_is j;
      defers = defers_is j;
      kept = kept_is j;
      log = first_is j;
      outbox = held_back planned.sends t0.outbox after.outbox outbox_is j;
      objects = (steps.had ∙ middle_objects) j;
      members = (ap (λ (t : Txn). t.members) steps.rest ∙ ap (λ (t : Txn). t.members) made_in.rest) j;
    }

    undoes : UndoesInside new step (is_handed_out planned.sends) old box1
    undoes = record {
      there = slot_s;
      parts = ap (undone new.parts) last_is ∙ makes.back;
      marks = remarks;
      owners = λ o. (owned_after s (owner_of old.owners o) (is_in t0.objects o) (is_in footprint o) (was.objects o) (free o)).1
          ∙ sym (λ j. if objects_after o j && not (is_in ((steps.had ∙ middle_objects) j) o) then None else owns o j);
      sized = shaped.owners;
      txns = ap (λ (ts : List (Option BoxedTxn)). with_slot ts s (Some (with_txn box1 (step_back step (is_handed_out planned.sends) after)))) txns
          ∙ slot_twice old.txns s (Some box1) (Some (with_txn box1 (step_back step (is_handed_out planned.sends) after)))
          ∙ ap (λ (t : Txn). with_slot old.txns s (Some (with_txn boxed t))) back_is ∙ ap (with_slot old.txns s) (sym there) ∙ slot_same old.txns s bounds.0;
    }

    has_log : HasLog new starter count box1
    has_log = record { there = slot_s; named = named_log; few = count_few; same = starter_is ∙ (λ j. record { 0 = was.starter j }) }

    inside_made : IsMade old (Within s (part_of progress)) event pid.0 new (Inside step (is_handed_out planned.sends))
    unfolding named_by view_of
    inside_made = record {
      records = newest_first kept;
      logs = subst (λ (n : ℕ). Logs (Within n (part_of progress)) event (newest_first kept) (content_of old)) inside_s
          (laws.logged (content_of old) (held_of old) old.parts new.parts pid made_in.inside event t0.log steps.middle.log planned (part_of progress) pid.0 makes refl counts
          (subst (λ (n : ℕ). FitsWithin n (part_of progress) event pid.0 (states_view (two_states_of (content_of old)))) (sym inside_s) fits));
      next = next_same;
      shaped = shaped_after;
      goes = ((box1, has_log), has_mark);
      back = (box1, undoes);
      local = subst (AreAmong (objects event S ++ processes_of (effect event S).sends)) (sym (ap (last_in count) slot_s ∙ last_is)) among;
      whole = tt;
    }

  inside_answers : Answers old event pid new planned.outcome
  unfolding reply_of
  inside_answers = (makes.gives (held_of old) counts).reply

  -- the same of the event as the content tells it
  pub made_inside : FitsWithin s (part_of progress) (event_of (inside_in old starter) pid act) pid.0 (view_of old) →
      IsMade old (Within s (part_of progress)) (event_of (inside_in old starter) pid act) pid.0 new (Inside step (is_handed_out planned.sends))
  made_inside fits =
      subst (λ (ev : Event). IsMade old (Within s (part_of progress)) ev pid.0 new (Inside step (is_handed_out planned.sends))) (sym event_is)
      (inside_made (subst (λ (ev : Event). FitsWithin s (part_of progress) ev pid.0 (view_of old)) event_is fits))

  pub answers_inside : Answers old (event_of (inside_in old starter) pid act) pid new planned.outcome
  answers_inside = subst (λ (ev : Event). Answers old ev pid new planned.outcome) (sym event_is) inside_answers
