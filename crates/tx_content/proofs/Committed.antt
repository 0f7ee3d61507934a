-- The step that commits a transaction.
use Rattle.std.proofs.Common.{◌≡◌, ℕ, suc, ◌+◌, ◌-◌, ◌≤◌, Bool, true, false, ◌==◌, if◌then◌else◌, List, [], ◌∷◌, ◌++◌, length, length-append, append_assoc, map, drop, take, Option, Some, None, option_map, arith, refl, sym, ap, subst, ◌∙◌, inl, inr, eq-eqb, eqb-true}
use Rattle.std.proofs.lemmas.Bool.{both_ways, cases_Bool}
use Rattle.std.proofs.lemmas.List.{drop_at, take_at}
use Rattle.std.specs.Prelude.{IsSomeAnd}
use Rattle.tx_base.specs.SlotFacts.{length-with_slot, slot_at-with_slot, slot_same, slot_there, slot_twice}
use Rattle.tx_base.specs.Slots.{slot_at, with_slot}
use Rattle.tx_base.specs.declared.marks.Mark.{Mark}
use Rattle.tx_base.specs.declared.names.Missed.{Missed}
use Rattle.tx_base.specs.declared.names.Pid.{Pid}
use Rattle.tx_base.specs.declared.names.Sending.{Sending as TheSending}
use Rattle.tx_base.specs.declared.steps.Reply.TheVariants.{Committed as Says}
use Rattle.tx_base.specs.declared.steps.Step.TheVariants.{Call as Calls, Deliver}
use Rattle.tx_change.specs.Counts.{CountsAgree}
use Rattle.tx_change.specs.Exchange.{sizes_of, undone, Sizes, AreNamed, AreWithin}
use Rattle.tx_change.specs.States.{state_of}
use Rattle.tx_change.specs.declared.change.Change.{Change}
use Rattle.tx_change.specs.declared.parts.Parts.{Parts}
use Rattle.tx_kernel.specs.Actors.{transaction_of, CountsHeld}
use Rattle.tx_kernel.specs.Acts.{event_of, Makes}
use Rattle.tx_kernel.specs.Plans.{held_after, sending_of, sent_at_once, AreAmong}
use Rattle.tx_kernel.specs.Steps.{target_objects}
use Rattle.tx_kernel.specs.declared.events.Act.{Act}
use Rattle.tx_kernel.specs.declared.events.Act.TheVariants as act
use Rattle.tx_kernel.specs.declared.planned.Sends.{Sends}
use Rattle.tx_kernel.specs.declared.planned.Sends.TheVariants.{Nothing, AtOnce, AtCommit}
use Rattle.tx_laws.specs.Commuting.{named_by}
use Rattle.tx_laws.specs.Fits.{Fits, IsIn}
use Rattle.tx_laws.specs.Footprints.{is_shared}
use Rattle.tx_laws.specs.TwoStates.{made, states_view}
use Rattle.tx_content.proofs.Ended.{is_gone, joined_few, other_stays, owner_freed, revives, unmarks}
use Rattle.tx_content.proofs.Ends.{commit_lists, commit_made, commit_sends}
use Rattle.tx_content.proofs.Insides.{held_back, held_now, map_append, unmade_handed}
use Rattle.tx_content.proofs.Others.{counts_stay, slot_stays, txn_stays}
use Rattle.tx_content.proofs.Outsides.{held_posted, own_same, same_content, targets_are, txns_posted}
use Rattle.tx_content.proofs.PostedAll.{among_behind, among_both, among_front, posts_as}
use Rattle.tx_content.proofs.Undelivered.{missed_are}
use Rattle.tx_content.specs.Commits.{AreAnswered, MakesLast}
use Rattle.tx_content.specs.Content.{content_of, held_in, held_of, now_of, owner_at, own_held, txn_of, view_of, IsShaped, IsTxn}
use Rattle.tx_content.specs.HeldPosts.{HaveSignals, IsEnd, PostsAll}
use Rattle.tx_content.specs.Insides.{handed_out, inside_in, is_handed_out, MakesIn}
use Rattle.tx_content.specs.Inverses.{first_of, last_of, post_changes, uncommitted, unposted_all, with_txn, HasNumbers, HasPosts, UndoesCommitted}
use Rattle.tx_content.specs.Laws.{LiveLaws}
use Rattle.tx_content.specs.KeptPosts.{posted_at}
use Rattle.tx_content.specs.Made.{IsMade, IsUnowned}
use Rattle.tx_content.specs.Redone.{WasPosted}
use Rattle.tx_content.specs.declared.commits.Last.{Last}
use Rattle.tx_content.specs.declared.content.BoxedTxn.{BoxedTxn}
use Rattle.tx_content.specs.declared.content.Content.{Content}
use Rattle.tx_content.specs.declared.inverse.Inverse.TheVariants.{Committed}
use Rattle.tx_model.specs.Effects.{Inside as InsideOf, failed_sends}
use Rattle.tx_model.specs.Events.{Commit, Event, actor, effect, objects, reply_of}
use Rattle.tx_model.specs.Words.{processes_of}
use Rattle.tx_model.specs.Membership.{Commits, is_of, mark_unless_of}
use Rattle.tx_model.specs.Posts.{post_answers}
use Rattle.tx_model.specs.Book.{member_sends}
use Rattle.tx_model.specs.State.{Object, Proc, Desc, Pipe, Held, Sending, SetHeld, State, has_object, same_object, write_one}
use Rattle.tx_reserve.specs.Objects.{is_in}
use Rattle.tx_reserve.specs.Reservations.{owner_of, unless}
use Rattle.tx_txn.specs.Content.{IsKept, Txn as TheTxn}
use Rattle.tx_txn.specs.Faces.{pending_by}
use Rattle.tx_txn.specs.Marks.{ended_of}
use Rattle.tx_txn.specs.Outboxes.{missed_in, unmade, Held as HeldSends}
use Rattle.tx_txn.specs.Steps.{next_content, posted}
use Rattle.tx_txn.specs.Txns.{inside_at}
use Rattle.tx_txn.specs.declared.members.Members.{Members}
use Rattle.tx_txn.specs.declared.txn.Txn.{Txn}

processes_both : (ms ns : List Sending) → processes_of (ms ++ ns) ≡ processes_of ms ++ processes_of ns
processes_both [] ns = refl
processes_both (m ∷ ms) ns = ap (λ (os : List Object). Proc m.target ∷ os) (processes_both ms ns)

-- a send to someone else leaves what is kept of this one
posted_elsewhere : (n : ℕ) (sends : Sends) (ms : List Sending) (x : Option TheTxn) → ((m : TheSending) → sends ≡ AtOnce m → (m.target.0 == n) ≡ false) → posted n (sent_at_once sends ++ ms) x ≡ posted n ms x
unfolding pending_by
posted_elsewhere n Nothing ms x apart = refl
posted_elsewhere n (AtOnce m) ms None apart = refl
posted_elsewhere n (AtOnce m) ms (Some t) apart = rw (apart m refl) refl
posted_elsewhere n (AtCommit m) ms x apart = refl

-- a mark is of one transaction
one_starter : (s n : ℕ) (x : Option Mark) → is_of s x ≡ true → is_of n x ≡ true → n ≡ s
one_starter s n None one other = cc
one_starter s n (Some m) one other = sym (eqb-true m.starter.0 n other) ∙ eqb-true m.starter.0 s one

actor_is : (inside : Option InsideOf) (pid : Pid) (a : Act) → actor (event_of inside pid a) ≡ pid.0
actor_is inside pid (act.Call call) = refl
actor_is inside pid (act.Delivery signo) = refl
actor_is inside pid (act.Answer ret) = refl

-- what a member sends at once goes to a member
sent_to_member : LiveLaws → (inside : InsideOf) (pid : Pid) (a : Act) (S : State) (m : Sending) → inside.members pid.0 ≡ true → IsIn m (effect (event_of (Some inside) pid a) S).sends → inside.members m.target ≡ true
unfolding effect
sent_to_member laws inside pid (act.Call call) S m member sent = laws.to_members (Calls pid call.now) inside S m member sent
sent_to_member laws inside pid (act.Delivery signo) S m member sent = laws.to_members (Deliver pid signo) inside S m member sent
sent_to_member laws inside pid (act.Answer ret) S m member sent = absurd sent

module _ (laws : LiveLaws) (old new : Content) (middle : Parts) (between : List (Option BoxedTxn)) (pid starter : Pid) (a : Act) (boxed : BoxedTxn) (stepped led after : Txn) (last : Last)
    (shaped : IsShaped old) (kept_old : IsKept (content_of old)) (there : slot_at old.txns starter.0 ≡ Some boxed)
    (steps : MakesLast old.parts middle old.marks pid a boxed.txn.value stepped last) where
  abbrev s : ℕ
  s = starter.0

  abbrev t0 : Txn
  t0 = boxed.txn.value

  abbrev S : State
  S = now_of old

  abbrev event : Event
  event = event_of (Some (inside_at t0 old.marks)) pid a

  event_is : event_of (inside_in old starter) pid a ≡ event
  event_is = ap (λ (i : Option InsideOf). event_of i pid a) (ap (option_map (λ (b : BoxedTxn). inside_at b.txn.value old.marks)) there)

  was : IsTxn old s t0
  was = shaped.each s boxed there

  made_in : MakesIn old.parts middle old.marks pid a t0 stepped last.planned
  made_in = steps.makes

  makes : Makes old.parts pid (Some made_in.inside) event t0.log stepped.log middle last.planned
  makes = made_in.makes

  abbrev kept : List Change
  kept = makes.kept

  inside_s : made_in.inside.starter.0 ≡ s
  inside_s = ap (λ (i : InsideOf). i.starter) made_in.is ∙ was.starter

  holds : held_of old s ≡ map sending_of t0.outbox.sendings
  holds = ap held_in there

  counts : CountsHeld (Some made_in.inside) (held_of old)
  counts = ap (λ (n : ℕ). member_sends (held_of old n)) inside_s ∙ ap member_sends holds ∙ sym made_in.held

  sendings_are : stepped.outbox.sendings ≡ t0.outbox.sendings ++ handed_out last.planned.sends
  sendings_are = ap (λ (h : HeldSends). h.sendings) made_in.outbox

  abbrev held_then : ℕ → List Sending
  held_then n = if n == s then map sending_of stepped.outbox.sendings else held_of old n

  -- the event, before what is held is posted
  made_then : made event S S ≡ state_of held_then middle
  made_then = laws.made (held_of old) old.parts middle pid (Some made_in.inside) event t0.log stepped.log last.planned makes counts
      ∙ (λ j. state_of (λ n. by n j) middle)
    where
      by : (n : ℕ) → held_after (Some (transaction_of made_in.inside)) last.planned.sends (held_of old) n ≡ held_then n
      by n = held_now (transaction_of made_in.inside) last.planned.sends (held_of old) s n t0.outbox.sendings inside_s holds
          ∙ ap (λ (ms : List TheSending). if n == s then map sending_of ms else held_of old n) (sym sendings_are)

  held_is : (made event S S).held s ≡ map sending_of stepped.outbox.sendings
  held_is = ap (λ (R : State). R.held s) made_then ∙ rw (eq-eqb s s refl) refl

  -- the numbers of what is posted are those of what is held after the event
  pub signals_are : HaveSignals ((made (event_of (inside_in old starter) pid a) S S).held s) → HaveSignals (map sending_of stepped.outbox.sendings)
  signals_are signals = subst HaveSignals held_is (subst (λ (ev : Event). HaveSignals ((made ev S S).held s)) event_is signals)

  -- each held send has a place for its post
  unmade_all : stepped.outbox.posts ≡ map (λ sending. unmade) stepped.outbox.sendings
  unmade_all =
      ap (λ (h : HeldSends). h.posts) made_in.outbox
      ∙ (λ j. was.posts j ++ unmade_handed last.planned.sends j)
      ∙ sym (map_append (λ sending. unmade) t0.outbox.sendings (handed_out last.planned.sends))
      ∙ ap (map (λ sending. unmade)) (sym sendings_are)

  pub places_are : length stepped.outbox.posts ≡ length stepped.outbox.sendings
  places_are = ap length unmade_all ∙ mapped stepped.outbox.sendings
    where
      mapped : (xs : List TheSending) → length (map (λ sending. unmade) xs) ≡ length xs
      mapped [] = refl
      mapped (x ∷ xs) = ap suc (mapped xs)

  abbrev held_last : ℕ → List Sending
  held_last n = if n == s then [] else held_of old n

  -- what is held is posted to this state
  before : state_of held_last middle ≡ write_one (SetHeld s []) (made event S S)
  before = (λ j. state_of (λ n. emptied_held n j) middle) ∙ ap (write_one (SetHeld s [])) (sym made_then)
    where
      emptied_held : (n : ℕ) → held_last n ≡ (if n == s then [] else held_then n)
      emptied_held n = elim (cases_Bool (n == s)) [
        | inl e ↦ rw e refl
        | inr e ↦ rw e refl
      ]

  answers_event : led.outbox.sendings ≡ stepped.outbox.sendings → PostsAll middle new.parts between new.txns stepped.outbox.sendings led.outbox.posts → after.outbox ≡ led.outbox →
      IsEnd event S → AreAnswered event S → reply_of (Commit s event) S ≡ Says (record { items = missed_in after.outbox.sendings after.outbox.posts })
  answers_event sent all outbox end own = commit_lists s event S end own ∙ ap (λ (xs : List Missed). Says (record { items = xs })) list
    where
      list : failed_sends ((made event S S).held s) (post_answers ((made event S S).held s) (write_one (SetHeld s []) (made event S S))) ≡ missed_in after.outbox.sendings after.outbox.posts
      list =
          (λ j. failed_sends (held_is j) (post_answers (held_is j) (sym before j)))
          ∙ ap (failed_sends (map sending_of stepped.outbox.sendings)) (sym (all.answered held_last))
          ∙ sym (missed_are middle new.parts between new.txns stepped.outbox.sendings led.outbox.posts all)
          ∙ (λ j. missed_in (sym (ap (λ (h : HeldSends). h.sendings) outbox ∙ sent) j) (sym outbox j).posts)

  -- the reply lists what the outbox does
  pub commit_answers : led.outbox.sendings ≡ stepped.outbox.sendings → PostsAll middle new.parts between new.txns stepped.outbox.sendings led.outbox.posts → after ≡ record led { members = after.members } →
      IsEnd (event_of (inside_in old starter) pid a) S → AreAnswered (event_of (inside_in old starter) pid a) S →
      reply_of (Commit s (event_of (inside_in old starter) pid a)) S ≡ Says (record { items = missed_in after.outbox.sendings after.outbox.posts })
  commit_answers sent all rest =
      subst (λ (ev : Event). IsEnd ev S → AreAnswered ev S → reply_of (Commit s ev) S ≡ Says (record { items = missed_in after.outbox.sendings after.outbox.posts })) (sym event_is)
      (answers_event sent all (ap (λ (t : Txn). t.outbox) rest))

  module _ (emptied : between ≡ with_slot old.txns s None) (sent : led.outbox.sendings ≡ stepped.outbox.sendings) (led_rest : led ≡ record stepped { outbox = led.outbox })
      (all : PostsAll middle new.parts between new.txns stepped.outbox.sendings led.outbox.posts)
      (marks : (n : ℕ) → slot_at new.marks n ≡ mark_unless_of led.starter.0 (slot_at old.marks n)) (marks_long : length new.marks ≡ length old.marks)
      (owners : (o : Object) → owner_of new.owners o ≡ (if is_in led.objects o then None else owner_of old.owners o)) (sized : length new.owners ≡ 352)
      (rest : after ≡ record led { members = after.members })
      (unowned : IsUnowned old (Some s) event) (end : IsEnd event S) (member : is_of s (slot_at old.marks (actor event)) ≡ true)
      (signals : HaveSignals (map sending_of stepped.outbox.sendings)) where
    abbrev ms : List Sending
    ms = map sending_of stepped.outbox.sendings

    abbrev exchanges : List Change
    exchanges = kept ++ post_changes led.outbox.posts

    bounds : (1 ≤ s) × (s ≤ length old.txns)
    bounds = slot_there old.txns s boxed there

    slots : (n : ℕ) → slot_at between n ≡ (if n == s then None else slot_at old.txns n)
    slots n = ap (λ (ts : List (Option BoxedTxn)). slot_at ts n) emptied ∙ slot_at-with_slot old.txns s None n bounds.0 bounds.1

    slot_none : slot_at new.txns s ≡ None
    slot_none = all.kept.each s ∙ ap (option_map (posted_at s ms)) empty
      where
        empty : slot_at between s ≡ None
        empty = slots s ∙ rw (eq-eqb s s refl) refl

    slot_other : (n : ℕ) → (n == s) ≡ false → slot_at new.txns n ≡ option_map (posted_at n ms) (slot_at old.txns n)
    slot_other n e = all.kept.each n ∙ ap (option_map (posted_at n ms)) same
      where
        same : slot_at between n ≡ slot_at old.txns n
        same = slots n ∙ rw e refl

    held_new : (n : ℕ) → held_of new n ≡ held_last n
    held_new n = held_posted between new.txns ms all.kept n ∙ ap held_in (slots n) ∙ elim (cases_Bool (n == s)) [
      | inl e ↦ rw e refl
      | inr e ↦ rw e refl
    ]

    now_same : now_of new ≡ made (Commit s event) S S
    now_same =
        (λ j. state_of (λ n. held_new n j) new.parts)
        ∙ all.state held_last
        ∙ (λ j. posts_of (sym held_is j) (before j))
        ∙ sym (commit_made s event S end)
      where
        posts_of : List Sending → State → State
        posts_of = Rattle.tx_model.specs.Posts.after_posts

    sends_are : (effect (Commit s event) S).sends ≡ sent_at_once last.planned.sends ++ ms
    sends_are = commit_sends s event S end ∙ (λ j. (makes.gives (held_of old) counts).sent j ++ held_is j)

    starter_led : led.starter ≡ t0.starter
    starter_led = ap (λ (t : Txn). t.starter) led_rest ∙ ap (λ (t : Txn). t.starter) made_in.rest

    objects_led : led.objects ≡ t0.objects
    objects_led = ap (λ (t : Txn). t.objects) led_rest ∙ ap (λ (t : Txn). t.objects) made_in.rest

    defers_led : led.defers ≡ t0.defers
    defers_led = ap (λ (t : Txn). t.defers) led_rest ∙ ap (λ (t : Txn). t.defers) made_in.rest

    log_led : led.log ≡ t0.log ++ kept
    log_led = ap (λ (t : Txn). t.log) led_rest ∙ makes.added

    member_pid : is_of s (slot_at old.marks pid.0) ≡ true
    member_pid = ap (λ (p : ℕ). is_of s (slot_at old.marks p)) (sym (actor_is (Some (inside_at t0 old.marks)) pid a)) ∙ member

    -- what is sent at once goes to no starter of another transaction
    apart_from : (n : ℕ) (b : BoxedTxn) → (n == s) ≡ false → slot_at old.txns n ≡ Some b → (m : TheSending) → last.planned.sends ≡ AtOnce m → (m.target.0 == n) ≡ false
    apart_from n b differs at m is = elim (cases_Bool (m.target.0 == n)) [
      | inl e ↦ absurd (both_ways (n == s) differs (eq-eqb n s (one_starter s n (slot_at old.marks n)
          (ap (λ (k : ℕ). is_of s (slot_at old.marks k)) (sym (eqb-true m.target.0 n e)) ∙ ap (λ (k : ℕ). is_of k (slot_at old.marks m.target.0)) (sym was.starter) ∙ to) ((shaped.each n b at).live))))
      | inr e ↦ e
    ]
      where
        to : is_of t0.starter.0 (slot_at old.marks m.target.0) ≡ true
        to = sent_to_member laws (inside_at t0 old.marks) pid a S (sending_of m) (ap (λ (k : ℕ). is_of k (slot_at old.marks pid.0)) was.starter ∙ member_pid)
            (subst (IsIn (sending_of m)) (sym ((makes.gives (held_of old) counts).sent ∙ ap sent_at_once is)) (inl refl))

    next_same : content_of new ≡ next_content (Commits s) (Commit s event) pid.0 [] (content_of old)
    unfolding next_content
    next_same = same_content (content_of new) (next_content (Commits s) (Commit s event) pid.0 [] (content_of old)) now_same txns_same
        (owner_freed old new s boxed led after shaped there starter_led objects_led defers_led marks marks_long owners rest slot_none (λ n e. ap (own_held n) (slot_other n e) ∙ own_same n ms (slot_at old.txns n)))
        (λ j. record { width = marks_long j; marks = λ n. unmarks old new s boxed led after shaped there starter_led objects_led defers_led marks marks_long owners rest n j })
      where
        others : (n : ℕ) (x : Option BoxedTxn) → (n == s) ≡ false → slot_at old.txns n ≡ x → posted n ms (option_map txn_of x) ≡ posted n (sent_at_once last.planned.sends ++ ms) (option_map txn_of x)
        others n None e at = refl
        others n (Some b) e at = sym (posted_elsewhere n last.planned.sends ms (Some (txn_of b)) (apart_from n b e at))

        txns_same : (n : ℕ) → option_map txn_of (slot_at new.txns n) ≡ posted n (effect (Commit s event) S).sends (if n == s then None else option_map txn_of (slot_at old.txns n))
        txns_same n = txns_posted between new.txns ms all.kept n ∙ ap (λ (x : Option BoxedTxn). posted n ms (option_map txn_of x)) (slots n) ∙ elim (cases_Bool (n == s)) [
          | inl e ↦ rw e refl
          | inr e ↦ rw e (others n (slot_at old.txns n) e refl ∙ ap (λ (xs : List Sending). posted n xs (option_map txn_of (slot_at old.txns n))) (sym sends_are))
        ]

    sizes_middle : sizes_of middle ≡ sizes_of old.parts
    sizes_middle = sym (laws.sizes_back middle kept) ∙ ap sizes_of makes.back

    sizes_new : sizes_of new.parts ≡ sizes_of old.parts
    sizes_new = sym (laws.sizes_back new.parts (post_changes led.outbox.posts)) ∙ ap sizes_of all.back ∙ sizes_middle

    long_new : length new.parts.procs ≡ length old.parts.procs
    long_new = ap (λ (z : Sizes). z.procs) sizes_new

    named_kept : AreNamed new.parts kept
    named_kept = subst (λ (z : Sizes). AreWithin z kept) (sizes_middle ∙ sym sizes_new) makes.named

    named_all : AreNamed new.parts exchanges
    named_all = laws.named new.parts kept (post_changes led.outbox.posts) named_kept all.named

    back_all : undone new.parts exchanges ≡ old.parts
    back_all = laws.undone new.parts kept (post_changes led.outbox.posts) ∙ ap (λ (P : Parts). undone P kept) all.back ∙ makes.back

    among_all : AreAmong (named_by (Commit s event) S) exchanges
    unfolding named_by objects
    among_all = subst (λ (os : List Object). AreAmong (Held s ∷ os) exchanges) (sym objects_are)
        (among_both (Held s ∷ (objects event S ++ target_objects last.planned.sends) ++ processes_of ms) kept (post_changes led.outbox.posts)
        (among_behind (Held s ∷ []) ((objects event S ++ target_objects last.planned.sends) ++ processes_of ms) kept
        (among_front (objects event S ++ target_objects last.planned.sends) (processes_of ms) kept (makes.among (held_of old))))
        (among_behind (Held s ∷ objects event S ++ target_objects last.planned.sends) (processes_of ms) (post_changes led.outbox.posts) all.among))
      where
        objects_are : objects event S ++ processes_of (effect (Commit s event) S).sends ≡ (objects event S ++ target_objects last.planned.sends) ++ processes_of ms
        objects_are =
            ap (λ (xs : List Sending). objects event S ++ processes_of xs) sends_are
            ∙ ap (λ (os : List Object). objects event S ++ os) (processes_both (sent_at_once last.planned.sends) ms ∙ ap (λ (os : List Object). os ++ processes_of ms) (targets_are last.planned.sends))
            ∙ sym (append_assoc (objects event S) (target_objects last.planned.sends) (processes_of ms))

    counts_new : CountsAgree new.parts
    counts_new = all.counts makes.counts

    apart : (n : ℕ) → (n == s) ≡ false → (o : Object) → is_shared o ≡ true → owner_at old o ≡ Some n → has_object o (objects (Commit s event) S) ≡ false
    unfolding objects has_object
    apart n differs o shared own = by o shared own (has_object o (objects event S)) refl
      where
        free : (o : Object) → owner_at old o ≡ Some n → (h : Bool) → has_object o (objects event S) ≡ h → h ≡ false
        free o own true e = absurd (taken (n == s) refl (sym (ap (unless (Some s)) own) ∙ unowned o e))
          where
            taken : (b : Bool) → (n == s) ≡ b → (if b then None else Some n) ≡ None → ⊥
            taken true z h = both_ways (n == s) differs z
            taken false z h = cc
        free o own false e = refl

        by : (o : Object) → is_shared o ≡ true → owner_at old o ≡ Some n → (h : Bool) → has_object o (objects event S) ≡ h → (if same_object o (Held s) then true else h) ≡ false
        by (Proc p) shared own h e = free (Proc p) own h e
        by (Desc p) shared own h e = free (Desc p) own h e
        by (Pipe p) shared own h e = free (Pipe p) own h e
        by (Held p) shared own h e = cc

    each_after : (n : ℕ) (b : BoxedTxn) → slot_at new.txns n ≡ Some b → IsTxn new n b.txn.value
    each_after n b at = elim (cases_Bool (n == s)) [
      | inl e ↦ absurd (none_some (sym (ap (slot_at new.txns) (eqb-true n s e) ∙ slot_none) ∙ at))
      | inr e ↦ slot_stays new n ms (slot_at old.txns n) b (λ x here. txn_stays old new n x.txn.value (shaped.each n x here)
          (other_stays old new s boxed led after shaped there starter_led objects_led defers_led marks marks_long owners rest sizes_new n x.txn.value e
          (counts_stay laws old new shaped kept_old (Commit s event) exchanges named_all back_all among_all now_same counts_new n x here (apart n e)))) (sym at ∙ slot_other n e)
    ]
      where
        none_some : None ≡ Some b → ⊥
        none_some e = cc

    shaped_after : IsShaped new
    shaped_after = record {
      counts = counts_new;
      places = all.places makes.places;
      few = subst (λ (k : ℕ). k ≤ 256) (sym long_new) shaped.few;
      marks = marks_long ∙ shaped.marks ∙ sym long_new;
      txns = all.kept.width ∙ ap length emptied ∙ length-with_slot old.txns s None ∙ shaped.txns ∙ sym long_new;
      owners = sized;
      each = each_after;
    }

    log_after : after.log ≡ t0.log ++ kept
    log_after = ap (λ (t : Txn). t.log) rest ∙ log_led

    outbox_after : after.outbox ≡ led.outbox
    outbox_after = ap (λ (t : Txn). t.outbox) rest

    after_is : after.starter.0 ≡ s
    after_is = ap (λ (t : Txn). t.starter.0) rest ∙ ap (λ (p : Pid). p.0) starter_led ∙ was.starter

    -- how much of the log is the step's own
    front_long : length after.log - last.count ≡ length t0.log
    front_long = by (length after.log) (length kept) (ap length log_after ∙ length-append t0.log kept) (steps.count ∙ ap (λ (xs : List Change). length xs - length t0.log) makes.added ∙ ap (λ (k : ℕ). k - length t0.log) (length-append t0.log kept))
      where
        by : (whole mine : ℕ) → whole ≡ length t0.log + mine → last.count ≡ length t0.log + mine - length t0.log → whole - last.count ≡ length t0.log
        by whole mine e f = omega (arith, e, f)

    count_few : last.count ≤ length after.log
    count_few = by (length after.log) (length kept) (ap length log_after ∙ length-append t0.log kept) (steps.count ∙ ap (λ (xs : List Change). length xs - length t0.log) makes.added ∙ ap (λ (k : ℕ). k - length t0.log) (length-append t0.log kept))
      where
        by : (whole mine : ℕ) → whole ≡ length t0.log + mine → last.count ≡ length t0.log + mine - length t0.log → last.count ≤ whole
        by whole mine e f = omega (arith, e, f)

    last_is : last_of last.count after.log ≡ kept
    last_is = (λ j. drop (front_long j) (log_after j)) ∙ drop_at t0.log kept (length t0.log) refl

    first_is : first_of last.count after.log ≡ t0.log
    first_is = (λ j. take (front_long j) (log_after j)) ∙ take_at t0.log kept (length t0.log) refl

    before_is : uncommitted last.count (is_handed_out last.planned.sends) after ≡ t0
    before_is = λ j. record {
      starter = (ap (λ (t : Txn). t.starter) rest ∙ starter_led) j;
      defers = (ap (λ (t : Txn). t.defers) rest ∙ defers_led) j;
      kept = (ap (λ (t : Txn). t.kept) rest ∙ ap (λ (t : Txn). t.kept) led_rest ∙ ap (λ (t : Txn). t.kept) made_in.rest) j;
      log = first_is j;
      outbox = held_back last.planned.sends t0.outbox (record { sendings = after.outbox.sendings; posts = map (λ m. unmade) after.outbox.sendings }) (unposted ∙ made_in.outbox) j;
      objects = (ap (λ (t : Txn). t.objects) rest ∙ objects_led) j;
      members = sym was.members j;
    }
      where
        sendings_same : after.outbox.sendings ≡ stepped.outbox.sendings
        sendings_same = ap (λ (h : HeldSends). h.sendings) outbox_after ∙ sent

        unposted : record { sendings = after.outbox.sendings; posts = map (λ m. unmade) after.outbox.sendings } ≡ stepped.outbox
        unposted = λ j. record { sendings = sendings_same j; posts = (ap (map (λ m. unmade)) sendings_same ∙ sym unmade_all) j }

    module _ (members : Members) (has_members : after.members ≡ Some members)
        (joined : (n : ℕ) → is_in members.joined (Proc n) ≡ is_of led.starter.0 (slot_at old.marks n))
        (ended : (n : ℕ) → is_in members.ended (Proc n) ≡ ended_of led.starter.0 (slot_at old.marks n)) where
      undoes : UndoesCommitted new (with_txn boxed after) last.count (is_handed_out last.planned.sends) old members
      undoes = record {
        revives = revives old new s boxed led after shaped there starter_led objects_led defers_led marks marks_long owners rest members has_members joined ended;
        parts = (λ j. undone (undone new.parts (post_changes (outbox_after j).posts)) (last_is j)) ∙ ap (λ (P : Parts). undone P kept) all.back ∙ makes.back;
        txns = (λ j. with_slot (unposted_all ((ap (λ (h : HeldSends). h.sendings) outbox_after ∙ sent) j) (outbox_after j).posts new.txns) (after_is j) (Some (with_txn boxed (before_is j))))
            ∙ ap (λ (ts : List (Option BoxedTxn)). with_slot ts s (Some boxed)) (all.unkept ∙ emptied)
            ∙ slot_twice old.txns s None (Some boxed) ∙ ap (with_slot old.txns s) (sym there) ∙ slot_same old.txns s bounds.0;
      }

      numbers : HasNumbers new after
      numbers = record {
        low = subst (λ (k : ℕ). 1 ≤ k) (sym after_is) bounds.0;
        high = subst (λ (k : ℕ). k ≤ length new.parts.procs) (sym after_is) (subst (λ (k : ℕ). s ≤ k) (shaped.txns ∙ sym long_new) bounds.1);
        slots = shaped_after.txns;
        named = subst (AreNamed new.parts) (sym log_after) (laws.named new.parts t0.log kept (subst (λ (z : Sizes). AreWithin z t0.log) (sym sizes_new) was.named) named_kept);
        joined = joined_few old new s boxed led after shaped there starter_led objects_led defers_led marks marks_long owners rest members has_members joined ended;
      }

      has_posts : HasPosts new last.count after
      has_posts = record {
        numbers = numbers;
        few = count_few;
        long = ap (λ (h : HeldSends). length h.posts) outbox_after ∙ all.long ∙ sym (ap (λ (h : HeldSends). length h.sendings) outbox_after ∙ ap length sent);
        changes = subst (λ (h : HeldSends). AreNamed new.parts (post_changes h.posts)) (sym outbox_after) all.named;
        starters = subst (λ (h : HeldSends). Rattle.tx_content.specs.Inverses.HaveStarters new.txns h.sendings h.posts) (sym outbox_after)
            (subst (λ (xs : List TheSending). Rattle.tx_content.specs.Inverses.HaveStarters new.txns xs led.outbox.posts) (sym sent) all.starters);
      }

      was_posted : WasPosted new after
      was_posted = record {
        signals = subst (λ (ms : List TheSending). HaveSignals (map sending_of ms)) (sym sent_after) signals;
        posts = posts_as middle (undone new.parts (post_changes after.outbox.posts)) new.parts between (unposted_all after.outbox.sendings after.outbox.posts new.txns) new.txns
            stepped.outbox.sendings after.outbox.sendings led.outbox.posts after.outbox.posts
            (sym all.back ∙ ap (λ (h : HeldSends). undone new.parts (post_changes h.posts)) (sym outbox_after))
            (sym all.unkept ∙ (λ j. unposted_all (sym sent_after j) (sym outbox_after j).posts new.txns))
            (sym sent_after) (ap (λ (h : HeldSends). h.posts) (sym outbox_after)) all;
      }
        where
          sent_after : after.outbox.sendings ≡ stepped.outbox.sendings
          sent_after = ap (λ (h : HeldSends). h.sendings) outbox_after ∙ sent

      pub commit_with : IsMade old (Commits s) (Commit s event) pid.0 new (Committed (with_txn boxed after) last.count (is_handed_out last.planned.sends))
      commit_with = record {
        records = [];
        logs = tt;
        next = next_same;
        shaped = shaped_after;
        goes = has_posts;
        back = (members, undoes);
        local = subst (AreAmong (named_by (Commit s event) S)) (sym (λ j. last_is j ++ post_changes (outbox_after j).posts)) among_all;
        whole = (members, is_gone old new s boxed led after shaped there starter_led objects_led defers_led marks marks_long owners rest members has_members joined ended slot_none, was_posted);
      }

    pub commit_ends : IsSomeAnd after.members (λ members. (n : ℕ) → is_in members.joined (Proc n) ≡ is_of led.starter.0 (slot_at old.marks n)) →
        IsSomeAnd after.members (λ members. (n : ℕ) → is_in members.ended (Proc n) ≡ ended_of led.starter.0 (slot_at old.marks n)) →
        IsMade old (Commits s) (Commit s event) pid.0 new (Committed (with_txn boxed after) last.count (is_handed_out last.planned.sends))
    commit_ends joined ended = by after.members refl joined ended
      where
        by : (x : Option Members) → after.members ≡ x → IsSomeAnd x (λ members. (n : ℕ) → is_in members.joined (Proc n) ≡ is_of led.starter.0 (slot_at old.marks n)) →
            IsSomeAnd x (λ members. (n : ℕ) → is_in members.ended (Proc n) ≡ ended_of led.starter.0 (slot_at old.marks n)) →
            IsMade old (Commits s) (Commit s event) pid.0 new (Committed (with_txn boxed after) last.count (is_handed_out last.planned.sends))
        by None e joined ended = absurd joined
        by (Some members) e joined ended = commit_with members e joined ended

  -- the same of the event as the content tells it
  pub commit_done : between ≡ with_slot old.txns s None → led.outbox.sendings ≡ stepped.outbox.sendings → led ≡ record stepped { outbox = led.outbox } →
      PostsAll middle new.parts between new.txns stepped.outbox.sendings led.outbox.posts →
      ((n : ℕ) → slot_at new.marks n ≡ mark_unless_of led.starter.0 (slot_at old.marks n)) → length new.marks ≡ length old.marks →
      ((o : Object) → owner_of new.owners o ≡ (if is_in led.objects o then None else owner_of old.owners o)) → length new.owners ≡ 352 → after ≡ record led { members = after.members } →
      IsSomeAnd after.members (λ members. (n : ℕ) → is_in members.joined (Proc n) ≡ is_of led.starter.0 (slot_at old.marks n)) →
      IsSomeAnd after.members (λ members. (n : ℕ) → is_in members.ended (Proc n) ≡ ended_of led.starter.0 (slot_at old.marks n)) →
      IsUnowned old (Some s) (event_of (inside_in old starter) pid a) → IsEnd (event_of (inside_in old starter) pid a) S → Fits (Commits s) (event_of (inside_in old starter) pid a) pid.0 (view_of old) →
      HaveSignals (map sending_of stepped.outbox.sendings) →
      IsMade old (Commits s) (Commit s (event_of (inside_in old starter) pid a)) pid.0 new (Committed (with_txn boxed after) last.count (is_handed_out last.planned.sends))
  unfolding view_of states_view
  commit_done emptied sent led_rest all marks marks_long owners sized rest joined ended unowned end fits signals =
      subst (λ (ev : Event). IsMade old (Commits s) (Commit s ev) pid.0 new (Committed (with_txn boxed after) last.count (is_handed_out last.planned.sends))) (sym event_is)
      (commit_ends emptied sent led_rest all marks marks_long owners sized rest (subst (IsUnowned old (Some s)) event_is unowned) (subst (λ (ev : Event). IsEnd ev S) event_is end)
      (ap (λ (ev : Event). is_of s (slot_at old.marks (actor ev))) (sym event_is) ∙ fits) signals joined ended)

-- a transaction with another outbox has its own rest
pub rest_of : (led stepped : Txn) (outbox : HeldSends) → led ≡ record stepped { outbox = outbox } → led ≡ record stepped { outbox = led.outbox }
rest_of led stepped outbox is = is ∙ (λ j. record stepped { outbox = sym (ap (λ (t : Txn). t.outbox) is) j })
