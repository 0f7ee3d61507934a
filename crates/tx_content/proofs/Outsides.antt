-- A step outside of transactions.
use Rattle.std.proofs.Common.{◌≡◌, ℕ, ◌≤◌, Bool, true, false, List, [], ◌++◌, length, Option, Some, None, option_map, refl, sym, ap, subst, ◌∙◌}
use Rattle.tx_base.specs.Slots.{slot_at}
use Rattle.tx_base.specs.declared.marks.Mark.{Mark}
use Rattle.tx_base.specs.declared.names.Pid.{Pid}
use Rattle.tx_change.specs.Counts.{CountsAgree}
use Rattle.tx_change.specs.Exchange.{applied, exchanged, sizes_of, undone, Sizes, AreNamed}
use Rattle.tx_change.specs.Laws.{HaveAllPlaces}
use Rattle.tx_change.specs.States.{state_of}
use Rattle.tx_change.specs.declared.change.Change.{Change}
use Rattle.tx_change.specs.declared.parts.Parts.{Parts}
use Rattle.tx_kernel.specs.Acts.{Makes}
use Rattle.tx_kernel.specs.Plans.{sent_at_once, AreAmong}
use Rattle.tx_kernel.specs.Steps.{target_objects}
use Rattle.tx_kernel.specs.declared.planned.Planned.{Planned}
use Rattle.tx_kernel.specs.declared.planned.Sends.{Sends}
use Rattle.tx_kernel.specs.declared.planned.Sends.TheVariants.{Nothing, AtOnce, AtCommit}
use Rattle.tx_laws.specs.Commuting.{named_by}
use Rattle.tx_laws.specs.TwoStates.{is_owner, made}
use Rattle.tx_content.specs.Content.{content_of, held_in, held_of, now_of, owner_at, own_held, txn_of, IsShaped}
use Rattle.tx_content.proofs.Others.{counts_stay, slot_stays, txn_stays, Stays}
use Rattle.tx_content.specs.Inverses.{unposted_in, HasStarter}
use Rattle.tx_content.specs.Laws.{LiveLaws}
use Rattle.tx_content.specs.KeptPosts.{posted_at, PostsKept}
use Rattle.tx_content.specs.Made.{Answers, IsMade, IsUnowned}
use Rattle.tx_content.specs.declared.content.BoxedTxn.{BoxedTxn}
use Rattle.tx_content.specs.declared.content.Content.{Content}
use Rattle.tx_content.specs.declared.inverse.Inverse.TheVariants.{Outside as OutsideBack}
use Rattle.tx_content.specs.declared.kept_posts.KeptPost.{KeptPost}
use Rattle.tx_model.specs.Events.{Event, effect, objects, reply_of}
use Rattle.tx_model.specs.Words.{processes_of}
use Rattle.tx_model.specs.Membership.{Outside, is_of}
use Rattle.tx_model.specs.State.{Object, Proc, Desc, Pipe, Held, Sending, has_object}
use Rattle.tx_reserve.specs.Reservations.{owner_of, unless}
use Rattle.tx_txn.specs.Content.{LogKernel, IsKept}
use Rattle.tx_txn.specs.Marks.{table_at}
use Rattle.tx_txn.specs.Steps.{next_content, posted}

-- the processes that a step's signal is posted to
pub targets_are : (sends : Sends) → processes_of (sent_at_once sends) ≡ target_objects sends
targets_are Nothing = refl
targets_are (AtOnce m) = refl
targets_are (AtCommit m) = refl

held_same : (n : ℕ) (ms : List Sending) (slot : Option BoxedTxn) → held_in (option_map (posted_at n ms) slot) ≡ held_in slot
held_same n ms None = refl
held_same n ms (Some boxed) = refl

txn_posted : (n : ℕ) (ms : List Sending) (slot : Option BoxedTxn) → option_map txn_of (option_map (posted_at n ms) slot) ≡ posted n ms (option_map txn_of slot)
txn_posted n ms None = refl
txn_posted n ms (Some boxed) = refl

pub own_same : (n : ℕ) (ms : List Sending) (slot : Option BoxedTxn) → own_held n (option_map (posted_at n ms) slot) ≡ own_held n slot
own_same n ms None = refl
own_same n ms (Some boxed) = refl

-- what the transactions hold stays
pub held_posted : (old new : List (Option BoxedTxn)) (ms : List Sending) → PostsKept old new ms → (n : ℕ) → held_in (slot_at new n) ≡ held_in (slot_at old n)
held_posted old new ms posts n = ap held_in (posts.each n) ∙ held_same n ms (slot_at old n)

pub txns_posted : (old new : List (Option BoxedTxn)) (ms : List Sending) → PostsKept old new ms → (n : ℕ) → option_map txn_of (slot_at new n) ≡ posted n ms (option_map txn_of (slot_at old n))
txns_posted old new ms posts n = ap (option_map txn_of) (posts.each n) ∙ txn_posted n ms (slot_at old n)

pub owners_posted : (old new : Content) (ms : List Sending) → new.owners ≡ old.owners → PostsKept old.txns new.txns ms → (o : Object) → owner_at new o ≡ owner_at old o
owners_posted old new ms owners posts (Proc n) = ap (λ os. owner_of os (Proc n)) owners
owners_posted old new ms owners posts (Desc n) = ap (λ os. owner_of os (Desc n)) owners
owners_posted old new ms owners posts (Pipe n) = ap (λ os. owner_of os (Pipe n)) owners
owners_posted old new ms owners posts (Held n) = ap (own_held n) (posts.each n) ∙ own_same n ms (slot_at old.txns n)

-- contents are the same where all that they have is
pub same_content : (one other : LogKernel) → one.now ≡ other.now → ((n : ℕ) → one.txns n ≡ other.txns n) → ((o : Object) → one.owner o ≡ other.owner o) → one.table ≡ other.table → one ≡ other
same_content one other now txns owners table = λ j. record { now = now j; txns = λ n. txns n j; owner = λ o. owners o j; table = table j }

pub outside_made : LiveLaws → (old new : Content) (pid : Pid) (event : Event) (plan log : List Change) (planned : Planned) (post : Option KeptPost) → IsShaped old → IsKept (content_of old) → IsUnowned old None event →
    Makes old.parts pid None event [] (exchanged old.parts plan) (applied old.parts plan) planned →
    new.parts ≡ applied old.parts plan → log ≡ exchanged old.parts plan → new.marks ≡ old.marks → new.owners ≡ old.owners →
    PostsKept old.txns new.txns (sent_at_once planned.sends) → unposted_in post new.txns ≡ old.txns → HasStarter new.txns post →
    IsMade old Outside event pid.0 new (OutsideBack log post)
unfolding next_content named_by
outside_made laws old new pid event plan log planned post shaped kept unowned makes parts logged marks owners posts unposts starter = record {
  records = [];
  logs = tt;
  next = same_content (content_of new) (next_content Outside event pid.0 [] (content_of old)) now
      (λ n. txns_posted old.txns new.txns (sent_at_once planned.sends) posts n ∙ ap (λ (ms : List Sending). posted n ms (option_map txn_of (slot_at old.txns n))) (sym sent))
      (owners_posted old new (sent_at_once planned.sends) owners posts) (ap table_at marks);
  shaped = record {
    counts = subst CountsAgree (sym parts) makes.counts;
    places = subst HaveAllPlaces (sym parts) makes.places;
    few = subst (λ (k : ℕ). k ≤ 256) (sym long) shaped.few;
    marks = ap length marks ∙ shaped.marks ∙ sym long;
    txns = posts.width ∙ shaped.txns ∙ sym long;
    owners = ap length owners ∙ shaped.owners;
    each = λ n boxed at. slot_stays new n (sent_at_once planned.sends) (slot_at old.txns n) boxed
        (λ b there. txn_stays old new n b.txn.value (shaped.each n b there) (stays n b there)) (sym at ∙ posts.each n);
  };
  goes = (named, starter);
  back = λ j. record { parts = back j; marks = marks j; owners = owners j; txns = unposts j };
  local = among;
  whole = tt;
}
  where
    kept_is : log ≡ makes.kept
    kept_is = logged ∙ makes.added

    named : AreNamed new.parts log
    named = subst (λ (p : Parts). AreNamed p log) (sym parts) (subst (AreNamed (applied old.parts plan)) (sym kept_is) makes.named)

    sizes : sizes_of new.parts ≡ sizes_of old.parts
    sizes = ap sizes_of parts ∙ laws.sizes old.parts plan

    long : length new.parts.procs ≡ length old.parts.procs
    long = ap (λ (s : Sizes). s.procs) sizes

    sent : (effect event (now_of old)).sends ≡ sent_at_once planned.sends
    sent = (makes.gives (held_of old) tt).sent

    among : AreAmong (objects event (now_of old) ++ processes_of (effect event (now_of old)).sends) log
    among = subst (AreAmong (objects event (now_of old) ++ processes_of (effect event (now_of old)).sends)) (sym kept_is)
        (subst (λ (os : List Object). AreAmong (objects event (now_of old) ++ os) makes.kept) (sym (ap processes_of sent ∙ targets_are planned.sends)) (makes.among (held_of old)))

    now : now_of new ≡ made event (now_of old) (now_of old)
    now = ap (state_of (held_of new)) parts
        ∙ (λ j. state_of (λ n. held_posted old.txns new.txns (sent_at_once planned.sends) posts n j) (applied old.parts plan))
        ∙ sym (laws.made (held_of old) old.parts (applied old.parts plan) pid None event [] (exchanged old.parts plan) planned makes tt)

    back : undone new.parts log ≡ old.parts
    back = (λ j. undone (parts j) (kept_is j)) ∙ makes.back

    same_marks : (n : ℕ) → slot_at new.marks n ≡ slot_at old.marks n
    same_marks n = ap (λ (ms : List (Option Mark)). slot_at ms n) marks

    stays : (n : ℕ) (b : BoxedTxn) → slot_at old.txns n ≡ Some b → Stays old new n b.txn.value
    stays n b there = record {
      sizes = sizes;
      members = λ p. ap (is_of n) (same_marks p);
      defers = λ d so p m at. so p m (sym (same_marks p) ∙ at);
      owns = λ o. ap (λ os. is_owner n (owner_of os o)) owners;
      counts = counts_stay laws old new shaped kept event log named back among now (subst CountsAgree (sym parts) makes.counts) n b there (λ o shared own. by o own (has_object o (objects event (now_of old))) refl);
    }
      where
        by : (o : Object) → owner_at old o ≡ Some n → (h : Bool) → has_object o (objects event (now_of old)) ≡ h → h ≡ false
        by o own true e = absurd (apart (sym (ap (unless None) own) ∙ unowned o e))
          where
            apart : Some n ≡ None → ⊥
            apart z = cc
        by o own false e = refl

pub outside_answers : (old new : Content) (pid : Pid) (event : Event) (plan : List Change) (planned : Planned) →
    Makes old.parts pid None event [] (exchanged old.parts plan) (applied old.parts plan) planned → new.parts ≡ applied old.parts plan → Answers old event pid new planned.outcome
unfolding reply_of
outside_answers old new pid event plan planned makes parts =
    subst (λ (p : Parts). Answers old event pid (record new { parts = p }) planned.outcome) (sym parts) (makes.gives (held_of old) tt).reply
