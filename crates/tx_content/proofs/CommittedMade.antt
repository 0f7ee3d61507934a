-- A commit that was made again.
use Rattle.std.proofs.Common.{◌≡◌, ℕ, suc, ◌-◌, ◌≤◌, if◌then◌else◌, List, [], ◌∷◌, ◌++◌, length, length-append, length-drop, map, take, drop, Option, Some, None, is_some, option_map, Result, Ok, Err, OnOk, arith, refl, sym, ap, subst, ◌∙◌}
use Rattle.std.proofs.lemmas.List.{drop_at, length-reverse, take_at}
use Rattle.std.proofs.lemmas.Option.{same_Some}
use Rattle.std.specs.Prelude.{IsSomeAnd}
use Rattle.tx_base.specs.SlotFacts.{length-with_slot, slot_now, slot_same, slot_twice}
use Rattle.tx_base.specs.Slots.{slot_at, with_slot}
use Rattle.tx_base.specs.declared.names.Pid.{Pid}
use Rattle.tx_base.specs.declared.names.Sending.{Sending}
use Rattle.tx_change.specs.Exchange.{applied, exchanged, parts_after, sizes_of, undone, Sizes, AreNamed, AreWithin}
use Rattle.tx_change.specs.Stacks.{top_of}
use Rattle.tx_change.specs.declared.change.Change.{Change}
use Rattle.tx_change.specs.declared.parts.Parts.{Parts}
use Rattle.tx_kernel.specs.Plans.{sending_of}
use Rattle.tx_content.proofs.Ended.{is_gone, joined_few, revives}
use Rattle.tx_content.proofs.Insides.{but_last, map_append}
use Rattle.tx_base.specs.SlotFacts.{slot_there}
use Rattle.tx_content.proofs.PostedAll.{posts_as}
use Rattle.tx_content.proofs.TakenBack.{same_slots}
use Rattle.tx_content.specs.Content.{IsShaped, IsTxn}
use Rattle.tx_content.specs.HeldPosts.{HaveSignals, PostsAll}
use Rattle.tx_content.specs.Inverses.{first_of, last_of, less_last, none_made, post_changes, uncommitted, unposted_all, with_txn, HasPosts, HaveStarters}
use Rattle.tx_content.specs.KeptPosts.{posted_at}
use Rattle.tx_content.specs.Laws.{LiveLaws}
use Rattle.tx_content.specs.Redone.{with_last, RedoesCommitted, TakesBack, WasPosted}
use Rattle.tx_content.specs.declared.content.BoxedTxn.{BoxedTxn}
use Rattle.tx_content.specs.CrossingFacts.{back_by}
use Rattle.tx_content.specs.Crossings.{inverse_at, HoldsBack}
use Rattle.tx_content.specs.declared.content.Content.{Content}
use Rattle.tx_content.specs.declared.crossing.Crossing.{Crossing}
use Rattle.tx_content.specs.declared.inverse.Inverse.{Inverse}
use Rattle.tx_content.specs.declared.inverse.Inverse.TheVariants.{Committed}
use Rattle.tx_model.specs.Membership.{is_of, mark_unless_of}
use Rattle.tx_model.specs.State.{Object, Proc, Process, Sending as TheSending, State}
use Rattle.tx_proc.specs.Parts.{process_in, process_of, with_pending}
use Rattle.tx_proc.specs.declared.proc.Proc.{Proc as TheProc}
use Rattle.tx_reserve.specs.Objects.{is_in}
use Rattle.tx_reserve.specs.Reservations.{owner_of}
use Rattle.tx_signal.specs.Parts.{PendingView}
use Rattle.tx_txn.specs.Marks.{ended_of}
use Rattle.tx_txn.specs.Outboxes.{unmade, Held}
use Rattle.tx_txn.specs.declared.members.Members.{Members}
use Rattle.tx_txn.specs.declared.outbox.HeldPost.{HeldPost}
use Rattle.tx_txn.specs.declared.txn.Txn.{Txn}

-- what is pending at a process, its state tells
pending_told : (x : Option TheProc) (one other : PendingView) → process_in (option_map (with_pending one) x) ≡ process_in (option_map (with_pending other) x) →
    option_map (with_pending one) x ≡ option_map (with_pending other) x
pending_told None one other same = refl
pending_told (Some proc) one other same = λ i. Some (with_pending (record { standard = ap (λ (me : Process). me.pending) is i; queued = ap (λ (me : Process). me.queued) is i }) proc)
  where
    is : process_of (with_pending one proc) ≡ process_of (with_pending other proc)
    is = same_Some (process_of (with_pending one proc)) (process_of (with_pending other proc)) same

-- the same posts on the same parts leave the same
pub parts_told : (before one other : Parts) (old new also : List (Option BoxedTxn)) (sendings : List Sending) (posts made : List HeldPost) →
    PostsAll before one old new sendings posts → PostsAll before other old also sendings made → one ≡ other
parts_told before one other old new also sendings posts made first second = λ i. record {
  procs = same_slots one.procs other.procs (first.rest.width ∙ sym second.rest.width) each i;
  descs = (first.rest.descs ∙ sym second.rest.descs) i;
  pipes = (first.rest.pipes ∙ sym second.rest.pipes) i;
}
  where
    none_held : ℕ → List TheSending
    none_held n = []

    each : (n : ℕ) → slot_at one.procs n ≡ slot_at other.procs n
    each n =
        let here = first.rest.each n in
        let there = second.rest.each n in
        here.1
        ∙ pending_told (slot_at before.procs n) here.0 there.0
        (ap process_in (sym here.1) ∙ ap (λ (S : State). S.procs n) (first.state none_held ∙ sym (second.state none_held)) ∙ ap process_in there.1)
        ∙ sym there.1

pub txns_told : (before one other : Parts) (old new also : List (Option BoxedTxn)) (sendings : List Sending) (posts made : List HeldPost) →
    PostsAll before one old new sendings posts → PostsAll before other old also sendings made → new ≡ also
txns_told before one other old new also sendings posts made first second =
    same_slots new also (first.kept.width ∙ sym second.kept.width) (λ n. first.kept.each n ∙ sym (second.kept.each n))

length-exchanged : (parts : Parts) (changes : List Change) → length (exchanged parts changes) ≡ length changes
length-exchanged parts [] = refl
length-exchanged parts (change ∷ changes) = ap suc (length-exchanged (parts_after parts change) changes)

top_long : (count : ℕ) (stack : List Change) → count ≤ length stack → length (top_of count stack) ≡ count
top_long count stack few =
    length-reverse (drop (length stack - count) stack) ∙ (let all = length-drop (length stack - count) stack in omega (arith, all, few))

-- what is held with the last one has a place for each
pub held_long : (held : Option Sending) (before : Held) → length before.posts ≡ length before.sendings → length (with_last held before).posts ≡ length (with_last held before).sendings
held_long None before long = long
held_long (Some m) before long =
    let posts = length-append before.posts (unmade ∷ []) in
    let sendings = length-append before.sendings (m ∷ []) in
    omega (arith, posts, sendings, long)

-- none of it made, and less the last
less_again : (held : Option Sending) (sendings : List Sending) (posts : List HeldPost) → posts ≡ map (λ m. unmade) sendings →
    less_last (is_some held) (none_made (with_last held (record { sendings = sendings; posts = posts })).sendings) ≡ record { sendings = sendings; posts = posts }
less_again None sendings posts unmades = λ i. record { sendings = sendings; posts = sym unmades i }
less_again (Some m) sendings posts unmades = λ i. record {
  sendings = but_last sendings m i;
  posts = (
      ap (λ (ps : List HeldPost). take (length ps - 1) ps) (map_append (λ m. unmade) sendings (m ∷ []))
      ∙ but_last (map (λ m. unmade) sendings) unmade ∙ sym unmades
      ) i;
}

-- the transaction with the changes and the signal of its last step
abbrev pub last_again : Parts → List Change → Option Sending → Txn → Txn
last_again parts changes held txn = record txn { log = txn.log ++ exchanged parts changes; outbox = with_last held txn.outbox }

module _ (laws : LiveLaws) (k new : Content) (starter : Pid) (count : ℕ) (held : Option Sending) (stack : List Change) (boxed : BoxedTxn) (led : Txn)
    (there : slot_at k.txns starter.0 ≡ Some boxed)
    (led_is : led ≡ record (last_again k.parts (top_of count stack) held boxed.txn.value) { outbox = led.outbox })
    (sent : led.outbox.sendings ≡ (with_last held boxed.txn.value.outbox).sendings)
    (all : PostsAll (applied k.parts (top_of count stack)) new.parts (with_slot k.txns starter.0 None) new.txns (with_last held boxed.txn.value.outbox).sendings led.outbox.posts)
    (marks : (n : ℕ) → slot_at new.marks n ≡ mark_unless_of led.starter.0 (slot_at k.marks n)) (marks_long : length new.marks ≡ length k.marks)
    (owners : (o : Object) → owner_of new.owners o ≡ (if is_in led.objects o then None else owner_of k.owners o)) (sized : length new.owners ≡ 352) where
  abbrev t0 : Txn
  t0 = boxed.txn.value

  abbrev top : List Change
  top = top_of count stack

  led_starter : led.starter ≡ t0.starter
  led_starter = ap (λ (t : Txn). t.starter) led_is

  led_objects : led.objects ≡ t0.objects
  led_objects = ap (λ (t : Txn). t.objects) led_is

  led_defers : led.defers ≡ t0.defers
  led_defers = ap (λ (t : Txn). t.defers) led_is

  led_log : led.log ≡ t0.log ++ exchanged k.parts top
  led_log = ap (λ (t : Txn). t.log) led_is

  pub committed_made : (after : Content) (other : BoxedTxn) → RedoesCommitted k starter count held stack after other → new ≡ after
  committed_made after other redoes = λ j. record {
    parts = parts_told (applied k.parts top) new.parts after.parts (with_slot k.txns starter.0 None) new.txns after.txns (with_last held t0.outbox).sendings led.outbox.posts redoes.made all posts j;
    marks = same_slots new.marks after.marks (marks_long ∙ sym redoes.width)
        (λ n. marks n ∙ ap (λ (p : Pid). mark_unless_of p.0 (slot_at k.marks n)) (led_starter ∙ ap (λ (b : BoxedTxn). b.txn.value.starter) box_is) ∙ sym (redoes.marks n)) j;
    owners = laws.told new.owners after.owners sized redoes.sized
        (λ o. owners o ∙ (λ i. if is_in ((led_objects ∙ ap (λ (b : BoxedTxn). b.txn.value.objects) box_is) i) o then None else owner_of k.owners o) ∙ sym (redoes.owners o)) j;
    txns = txns_told (applied k.parts top) new.parts after.parts (with_slot k.txns starter.0 None) new.txns after.txns (with_last held t0.outbox).sendings led.outbox.posts redoes.made all posts j;
  }
    where
      box_is : boxed ≡ other
      box_is = same_Some boxed other (sym there ∙ redoes.there)

      posts : PostsAll (applied k.parts top) after.parts (with_slot k.txns starter.0 None) after.txns (with_last held t0.outbox).sendings redoes.made
      posts = subst (λ (b : BoxedTxn). PostsAll (applied k.parts top) after.parts (with_slot k.txns starter.0 None) after.txns (with_last held b.txn.value.outbox).sendings redoes.made) (sym box_is) redoes.posts

  module _ (after : Txn) (shaped : IsShaped k) (few : count ≤ length stack) (named : AreNamed k.parts top) (rest : after ≡ record led { members = after.members })
      (signals : HaveSignals (map sending_of (with_last held boxed.txn.value.outbox).sendings)) where
    abbrev s : ℕ
    s = starter.0

    was : IsTxn k s t0
    was = shaped.each s boxed there

    bounds : (1 ≤ s) × (s ≤ length k.txns)
    bounds = slot_there k.txns s boxed there

    after_starter : after.starter ≡ t0.starter
    after_starter = ap (λ (t : Txn). t.starter) rest ∙ led_starter

    after_is : after.starter.0 ≡ s
    after_is = ap (λ (p : Pid). p.0) after_starter ∙ was.starter

    after_log : after.log ≡ t0.log ++ exchanged k.parts top
    after_log = ap (λ (t : Txn). t.log) rest ∙ led_log

    after_outbox : after.outbox ≡ led.outbox
    after_outbox = ap (λ (t : Txn). t.outbox) rest

    after_sent : after.outbox.sendings ≡ (with_last held t0.outbox).sendings
    after_sent = ap (λ (h : Held). h.sendings) after_outbox ∙ sent

    own_long : length (exchanged k.parts top) ≡ count
    own_long = length-exchanged k.parts top ∙ top_long count stack few

    seam : length t0.log ≡ length after.log - count
    seam = let whole = ap length after_log ∙ length-append t0.log (exchanged k.parts top) in let own = own_long in omega (arith, whole, own)

    last_is : last_of count after.log ≡ exchanged k.parts top
    last_is = ap (drop (length after.log - count)) after_log ∙ drop_at t0.log (exchanged k.parts top) (length after.log - count) seam

    first_is : first_of count after.log ≡ t0.log
    first_is = ap (take (length after.log - count)) after_log ∙ take_at t0.log (exchanged k.parts top) (length after.log - count) seam

    sizes_new : sizes_of new.parts ≡ sizes_of k.parts
    sizes_new = sym (laws.sizes_back new.parts (post_changes led.outbox.posts)) ∙ ap sizes_of all.back ∙ laws.sizes k.parts top

    named_after : AreNamed new.parts after.log
    named_after = subst (λ (z : Sizes). AreWithin z after.log) (sym sizes_new) (subst (AreNamed k.parts) (sym after_log)
        (laws.named k.parts t0.log (exchanged k.parts top) was.named (laws.exchanged (sizes_of k.parts) k.parts top named)))

    long_new : length new.txns ≡ length k.txns
    long_new = all.kept.width ∙ length-with_slot k.txns s None

    high_new : s ≤ length new.parts.procs
    high_new = subst (λ (n : ℕ). s ≤ n) (shaped.txns ∙ sym (ap (λ (z : Sizes). z.procs) sizes_new)) bounds.1

    has_posts : (members : Members) → after.members ≡ Some members → ((n : ℕ) → is_in members.joined (Proc n) ≡ is_of led.starter.0 (slot_at k.marks n)) →
        ((n : ℕ) → is_in members.ended (Proc n) ≡ ended_of led.starter.0 (slot_at k.marks n)) → HasPosts new count after
    has_posts members has joined ended = record {
      numbers = record {
        low = subst (λ (n : ℕ). 1 ≤ n) (sym after_is) bounds.0;
        high = subst (λ (n : ℕ). n ≤ length new.parts.procs) (sym after_is) high_new;
        slots = long_new ∙ shaped.txns ∙ sym (ap (λ (z : Sizes). z.procs) sizes_new);
        named = named_after;
        joined = joined_few k new s boxed led after shaped there led_starter led_objects led_defers marks marks_long owners rest members has joined ended;
      };
      few = let whole = ap length after_log ∙ length-append t0.log (exchanged k.parts top) in let own = own_long in omega (arith, whole, own);
      long = ap (λ (h : Held). length h.posts) after_outbox ∙ all.long ∙ sym (ap length after_sent);
      changes = subst (λ (h : Held). AreNamed new.parts (post_changes h.posts)) (sym after_outbox) all.named;
      starters = subst (λ (h : Held). HaveStarters new.txns h.sendings h.posts) (sym after_outbox) (subst (λ (ms : List Sending). HaveStarters new.txns ms led.outbox.posts) (sym sent) all.starters);
    }

    before_is : uncommitted count (is_some held) after ≡ t0
    before_is = λ i. record {
      starter = after_starter i;
      defers = (ap (λ (t : Txn). t.defers) rest ∙ led_defers) i;
      kept = (ap (λ (t : Txn). t.kept) rest ∙ ap (λ (t : Txn). t.kept) led_is) i;
      log = first_is i;
      outbox = (ap (λ (ms : List Sending). less_last (is_some held) (none_made ms)) after_sent ∙ less_again held t0.outbox.sendings t0.outbox.posts was.posts) i;
      objects = (ap (λ (t : Txn). t.objects) rest ∙ led_objects) i;
      members = sym was.members i;
    }

    none_there : slot_at new.txns s ≡ None
    none_there = all.kept.each s ∙ ap (option_map (posted_at s (map sending_of (with_last held t0.outbox).sendings))) (slot_now k.txns s None bounds.0 bounds.1)

    was_posted : WasPosted new after
    was_posted = record {
      signals = subst (λ (ms : List Sending). HaveSignals (map sending_of ms)) (sym after_sent) signals;
      posts = posts_as (applied k.parts top) (undone new.parts (post_changes after.outbox.posts)) new.parts (with_slot k.txns s None) (unposted_all after.outbox.sendings after.outbox.posts new.txns) new.txns
          (with_last held t0.outbox).sendings after.outbox.sendings led.outbox.posts after.outbox.posts
          (sym all.back ∙ ap (λ (h : Held). undone new.parts (post_changes h.posts)) (sym after_outbox))
          (sym all.unkept ∙ (λ i. unposted_all (sym after_sent i) (sym after_outbox i).posts new.txns))
          (sym after_sent) (ap (λ (h : Held). h.posts) (sym after_outbox)) all;
    }

    takes_back : (members : Members) → after.members ≡ Some members → ((n : ℕ) → is_in members.joined (Proc n) ≡ is_of led.starter.0 (slot_at k.marks n)) →
        ((n : ℕ) → is_in members.ended (Proc n) ≡ ended_of led.starter.0 (slot_at k.marks n)) → TakesBack k new (Committed (with_txn boxed after) count (is_some held))
    takes_back members has joined ended = (
      has_posts members has joined ended,
      (
        members,
        record {
          revives = revives k new s boxed led after shaped there led_starter led_objects led_defers marks marks_long owners rest members has joined ended;
          parts = (λ i. undone (undone new.parts (post_changes (after_outbox i).posts)) (last_is i)) ∙ ap (λ (p : Parts). undone p (exchanged k.parts top)) all.back ∙ laws.revert_again k.parts top named;
          txns = (λ i. with_slot (unposted_all (after_sent i) (after_outbox i).posts new.txns) (after_is i) (Some (with_txn boxed (before_is i))))
              ∙ ap (λ (ts : List (Option BoxedTxn)). with_slot ts s (Some boxed)) all.unkept
              ∙ slot_twice k.txns s None (Some boxed) ∙ ap (with_slot k.txns s) (sym there) ∙ slot_same k.txns s bounds.0;
        },
      ),
      (members, is_gone k new s boxed led after shaped there led_starter led_objects led_defers marks marks_long owners rest members has joined ended none_there, was_posted),
    )

    pub committed_back : IsSomeAnd after.members (λ members. (n : ℕ) → is_in members.joined (Proc n) ≡ is_of led.starter.0 (slot_at k.marks n)) →
        IsSomeAnd after.members (λ members. (n : ℕ) → is_in members.ended (Proc n) ≡ ended_of led.starter.0 (slot_at k.marks n)) → TakesBack k new (Committed (with_txn boxed after) count (is_some held))
    committed_back joined ended = by after.members refl joined ended
      where
        by : (x : Option Members) → after.members ≡ x → IsSomeAnd x (λ members. (n : ℕ) → is_in members.joined (Proc n) ≡ is_of led.starter.0 (slot_at k.marks n)) →
            IsSomeAnd x (λ members. (n : ℕ) → is_in members.ended (Proc n) ≡ ended_of led.starter.0 (slot_at k.marks n)) → TakesBack k new (Committed (with_txn boxed after) count (is_some held))
        by None e joined ended = absurd joined
        by (Some members) e joined ended = takes_back members e joined ended

-- the same inverse takes the same step back, in its place
pub back_same : (before new after : Content) (crossing : Crossing) (inverse : Inverse) → new ≡ after → inverse_at crossing ≡ Some inverse → TakesBack before after inverse → HoldsBack crossing (TakesBack before new)
back_same before new after crossing inverse same is back = back_by (TakesBack before new) crossing inverse is (subst (λ (k : Content). TakesBack before k inverse) (sym same) back)

-- where it was made again
pub back_made : {E : Type 0} (made : Result Unit E) (before new after : Content) (crossing : Crossing) (inverse : Inverse) → OnOk made (new ≡ after) → OnOk made (inverse_at crossing ≡ Some inverse) →
    TakesBack before after inverse → OnOk made (HoldsBack crossing (TakesBack before new))
back_made (Ok done) before new after crossing inverse same is back = back_same before new after crossing inverse same is back
back_made (Err e) before new after crossing inverse same is back = tt
