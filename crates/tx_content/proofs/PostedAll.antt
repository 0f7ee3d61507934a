-- Posts of what a transaction held, one after another.
use Rattle.std.proofs.Common.{◌≡◌, ℕ, zero, suc, ℤ, ◌+◌, ◌≤◌, ◌<◌, arith, append_assoc, drop, take, slice_index_or, slice_set, if◌then◌else◌, Bool, true, false, List, [], ◌∷◌, ◌++◌, length, map, Option, Some, None, option_map, refl, sym, ap, subst, ◌∙◌}
use Rattle.std.proofs.lemmas.List.{drop_all, drop_more, take_all, take_more_set}
use Rattle.std.specs.Prelude.{IfSome}
use Rattle.tx_base.specs.Slots.{slot_at}
use Rattle.tx_base.specs.declared.names.Sending.{Sending}
use Rattle.tx_change.specs.Counts.{CountsAgree}
use Rattle.tx_change.specs.Laws.{HaveAllPlaces}
use Rattle.tx_change.specs.Exchange.{object_of, sizes_of, undone, Sizes, AreNamed, AreWithin}
use Rattle.tx_change.specs.States.{state_of}
use Rattle.tx_change.specs.declared.change.Change.{Change}
use Rattle.tx_change.specs.declared.parts.Parts.{Parts}
use Rattle.tx_kernel.specs.Plans.{sending_of, AreAmong}
use Rattle.tx_kernel.specs.PostFacts.{but_none}
use Rattle.tx_kernel.specs.Posts.{listed_change, IsButPending}
use Rattle.tx_content.specs.HeldPosts.{HaveSignals, PostsAll}
use Rattle.tx_content.specs.Inverses.{kept_post, post_changes, unposted_in, HasStarter}
use Rattle.tx_content.specs.Laws.{LiveLaws}
use Rattle.tx_content.specs.KeptPosts.{posted_at, PostsKept}
use Rattle.tx_content.specs.declared.content.BoxedTxn.{BoxedTxn}
use Rattle.tx_content.specs.declared.kept_posts.KeptPost.{KeptPost}
use Rattle.tx_model.specs.Words.{processes_of}
use Rattle.tx_model.specs.Posts.{post_answers, after_post, post_answer, after_posts}
use Rattle.tx_model.specs.State.{Object, Proc, Sending as TheSending, has_object, same_object}
use Rattle.tx_proc.specs.Parts.{with_pending}
use Rattle.tx_proc.specs.declared.proc.Proc.{Proc as TheProc}
use Rattle.tx_signal.specs.Parts.{answer_of, PendingView}
use Rattle.tx_txn.specs.Faces.{pending_by}
use Rattle.tx_txn.specs.declared.outbox.HeldPost.{HeldPost}

-- changes of the first objects, or of more, are of all of them
pub among_front : (os more : List Object) (changes : List Change) → AreAmong os changes → AreAmong (os ++ more) changes
unfolding has_object
among_front os more [] among = tt
among_front os more (change ∷ changes) among = (by os among.0, among_front os more changes among.1)
  where
    by : (os : List Object) → has_object (object_of change) os ≡ true → has_object (object_of change) (os ++ more) ≡ true
    by [] h = cc
    by (o ∷ os) h = either (same_object (object_of change) o) (by os) h
      where
        either : (b : Bool) → (has_object (object_of change) os ≡ true → has_object (object_of change) (os ++ more) ≡ true) → (if b then true else has_object (object_of change) os) ≡ true →
            (if b then true else has_object (object_of change) (os ++ more)) ≡ true
        either true rest e = refl
        either false rest e = rest e

pub among_behind : (os more : List Object) (changes : List Change) → AreAmong more changes → AreAmong (os ++ more) changes
unfolding has_object
among_behind os more [] among = tt
among_behind os more (change ∷ changes) among = (by os, among_behind os more changes among.1)
  where
    by : (os : List Object) → has_object (object_of change) (os ++ more) ≡ true
    by [] = among.0
    by (o ∷ os) = either (same_object (object_of change) o) (by os)
      where
        either : (b : Bool) → has_object (object_of change) (os ++ more) ≡ true → (if b then true else has_object (object_of change) (os ++ more)) ≡ true
        either true rest = refl
        either false rest = rest

pub among_both : (os : List Object) (front behind : List Change) → AreAmong os front → AreAmong os behind → AreAmong os (front ++ behind)
among_both os [] behind first last = last
among_both os (change ∷ front) behind first last = (first.0, among_both os front behind first.1 last)

-- what changes but what is pending, and then changes that again, changes that alone
but_both : (before middle after : Parts) → IsButPending before middle → IsButPending middle after → IsButPending before after
but_both before middle after first last = record {
  width = last.width ∙ first.width;
  each = λ n. ((last.each n).0, (last.each n).1 ∙ ap (option_map (with_pending (last.each n).0)) (first.each n).1 ∙ over (first.each n).0 (last.each n).0 (slot_at before.procs n));
  descs = last.descs ∙ first.descs;
  pipes = last.pipes ∙ first.pipes;
}
  where
    over : (one other : PendingView) (x : Option TheProc) → option_map (with_pending other) (option_map (with_pending one) x) ≡ option_map (with_pending other) x
    over one other None = refl
    over one other (Some proc) = refl

-- nothing is posted
pub posts_none : (parts : Parts) (txns : List (Option BoxedTxn)) → PostsAll parts parts txns txns [] []
unfolding after_posts post_answers pending_by
posts_none parts txns = record {
  long = refl;
  state = λ held. refl;
  answered = λ held. refl;
  back = refl;
  named = tt;
  among = tt;
  counts = λ h. h;
  places = λ h. h;
  kept = record { width = refl; each = λ n. at n (slot_at txns n) };
  unkept = refl;
  starters = tt;
  rest = but_none parts;
}
  where
    at : (n : ℕ) (slot : Option BoxedTxn) → slot ≡ option_map (posted_at n []) slot
    at n None = refl
    at n (Some boxed) = refl

-- the first one is posted, and then the others
pub posts_next : LiveLaws → (before middle after : Parts) (old between new : List (Option BoxedTxn)) (m : Sending) (ms : List Sending) (one : HeldPost) (rest : List HeldPost) →
    PostsAll before middle old between (m ∷ []) (one ∷ []) → PostsAll middle after between new ms rest → PostsAll before after old new (m ∷ ms) (one ∷ rest)
unfolding after_posts post_answers pending_by
posts_next laws before middle after old between new m ms one rest first last = record {
  long = ap suc last.long;
  state = λ held. last.state held ∙ ap (after_posts (map sending_of ms)) (first.state held);
  answered = λ held. λ j. heads (first.answered held) j ∷ (last.answered held ∙ ap (post_answers (map sending_of ms)) (first.state held)) j;
  back = laws.undone after (listed_change one.change) (post_changes rest) ∙ ap (λ (P : Parts). undone P (listed_change one.change)) last.back ∙ ap (undone middle) (sym (no_more (listed_change one.change))) ∙ first.back;
  named = laws.named after (listed_change one.change) (post_changes rest)
      (subst (λ (z : Sizes). AreWithin z (listed_change one.change)) (ap sizes_of (sym last.back) ∙ laws.sizes_back after (post_changes rest)) (subst (AreNamed middle) (no_more (listed_change one.change)) first.named)) last.named;
  among = among_both (Proc m.target.0 ∷ processes_of (map sending_of ms)) (listed_change one.change) (post_changes rest)
      (among_front (Proc m.target.0 ∷ []) (processes_of (map sending_of ms)) (listed_change one.change) (subst (AreAmong (Proc m.target.0 ∷ [])) (no_more (listed_change one.change)) first.among))
      (among_behind (Proc m.target.0 ∷ []) (processes_of (map sending_of ms)) (post_changes rest) last.among);
  counts = λ h. last.counts (first.counts h);
  places = λ h. last.places (first.places h);
  kept = record {
    width = last.kept.width ∙ first.kept.width;
    each = λ n. last.kept.each n ∙ ap (option_map (posted_at n (map sending_of ms))) (first.kept.each n) ∙ twice n (slot_at old n);
  };
  unkept = ap (unposted_in (kept_post m one.kept)) last.unkept ∙ first.unkept;
  starters = (starter (kept_post m one.kept) first.starters.0, last.starters);
  rest = but_both before middle after first.rest last.rest;
}
  where
    no_more : {A : Type 0} (xs : List A) → xs ++ [] ≡ xs
    no_more [] = refl
    no_more (x ∷ xs) = ap (λ ys. x ∷ ys) (no_more xs)

    heads : {x y : ℤ} → x ∷ [] ≡ y ∷ [] → x ≡ y
    heads {x} e = ap of e
      where
        of : List ℤ → ℤ
        of [] = x
        of (z ∷ zs) = z

    twice : (n : ℕ) (slot : Option BoxedTxn) → option_map (posted_at n (map sending_of ms)) (option_map (posted_at n (sending_of m ∷ [])) slot) ≡ option_map (posted_at n (sending_of m ∷ map sending_of ms)) slot
    twice n None = refl
    twice n (Some boxed) = refl

    starter : (after_post : Option KeptPost) → HasStarter between after_post → HasStarter new after_post
    starter None h = tt
    starter (Some after_post) h = (h.0, subst (λ (k : ℕ). after_post.starter.0 ≤ k) (sym last.kept.width) h.1)

-- each signal's number is below 64
pub signal_at : (ms : List Sending) (i : ℕ) (d : Sending) → i < length ms → HaveSignals (map sending_of ms) → (slice_index_or ms i d).signo.0 < 64
signal_at [] i d few all = let never : ⊥ = omega (arith, few) in absurd never
signal_at (m ∷ ms) zero d few all = all.0
signal_at (m ∷ ms) (suc i) d few all = signal_at ms i d (omega (arith, few)) all.1

-- what takes a post to what is kept back, from its target and the rest
target_same : (m : Sending) (after_post : Option KeptPost) → IfSome after_post (λ after_post. after_post.starter ≡ m.target) → kept_post m (option_map (λ after_post. after_post.unpost) after_post) ≡ after_post
target_same m None is = refl
target_same m (Some after_post) is = λ j. Some (record { starter = sym is j; unpost = after_post.unpost })

-- one is posted
pub posts_one : (before after : Parts) (old new : List (Option BoxedTxn)) (m : Sending) (made : HeldPost) (kept : Option KeptPost) →
    ((held : ℕ → List TheSending) → answer_of made.answer ≡ post_answer (sending_of m) ((state_of held before).procs m.target.0)) →
    ((held : ℕ → List TheSending) → state_of held after ≡ after_post (sending_of m) (state_of held before)) →
    undone after (listed_change made.change) ≡ before → AreNamed after (listed_change made.change) → AreAmong (Proc m.target.0 ∷ []) (listed_change made.change) →
    (CountsAgree before → CountsAgree after) → (HaveAllPlaces before → HaveAllPlaces after) → IsButPending before after →
    PostsKept old new (sending_of m ∷ []) → unposted_in kept new ≡ old → HasStarter new kept → IfSome kept (λ after_post. after_post.starter ≡ m.target) → made.kept ≡ option_map (λ after_post. after_post.unpost) kept →
    PostsAll before after old new (m ∷ []) (made ∷ [])
unfolding after_posts post_answers
posts_one before after old new m made kept answer state back named among counts places rest posted unpost starter target is = record {
  long = refl;
  state = state;
  answered = λ held. ap (λ (r : ℤ). r ∷ []) (answer held);
  back = ap (undone after) (no_more (listed_change made.change)) ∙ back;
  named = subst (AreNamed after) (sym (no_more (listed_change made.change))) named;
  among = subst (AreAmong (Proc m.target.0 ∷ [])) (sym (no_more (listed_change made.change))) among;
  counts = counts;
  places = places;
  kept = posted;
  unkept = ap (λ (k : Option KeptPost). unposted_in k new) same ∙ unpost;
  starters = (subst (HasStarter new) (sym same) starter, tt);
  rest = rest;
}
  where
    no_more : {A : Type 0} (xs : List A) → xs ++ [] ≡ xs
    no_more [] = refl
    no_more (x ∷ xs) = ap (λ ys. x ∷ ys) (no_more xs)

    same : kept_post m made.kept ≡ kept
    same = ap (kept_post m) is ∙ target_same m kept target

-- what is left to post, if all but the first few are posted
abbrev pub Ahead : Parts → List (Option BoxedTxn) → List Sending → List HeldPost → ℕ → Parts → List (Option BoxedTxn) → Type 0
Ahead before old sendings after_posts place now txns =
    (after : Parts) (new : List (Option BoxedTxn)) (rest : List HeldPost) → PostsAll now after txns new (drop place sendings) rest → PostsAll before after old new sendings (take place after_posts ++ rest)

pub posts_ahead : LiveLaws → (before now next : Parts) (old txns others : List (Option BoxedTxn)) (sendings : List Sending) (after_posts : List HeldPost) (place : ℕ) (d : Sending) (made : HeldPost) →
    place < length sendings → length after_posts ≡ length sendings → Ahead before old sendings after_posts place now txns → PostsAll now next txns others (slice_index_or sendings place d ∷ []) (made ∷ []) →
    Ahead before old sendings (slice_set after_posts place made) (place + 1) next others
posts_ahead laws before now next old txns others sendings after_posts place d made few long ahead one after new rest all =
    subst (PostsAll before after old new sendings)
    (sym (ap (λ (ps : List HeldPost). ps ++ rest) (take_more_set after_posts place made (subst (λ (n : ℕ). place < n) (sym long) few)) ∙ append_assoc (take place after_posts) (made ∷ []) rest))
    (ahead after new (made ∷ rest) (subst (λ (ms : List Sending). PostsAll now after txns new ms (made ∷ rest)) (sym (drop_more sendings place d few))
    (posts_next laws now next after txns others new (slice_index_or sendings place d) (drop (place + 1) sendings) made rest one all)))

pub posts_over : (before now : Parts) (old txns : List (Option BoxedTxn)) (sendings : List Sending) (after_posts : List HeldPost) (place : ℕ) → length sendings ≤ place → length after_posts ≡ length sendings →
    Ahead before old sendings after_posts place now txns → PostsAll before now old txns sendings after_posts
posts_over before now old txns sendings after_posts place all long ahead =
    subst (PostsAll before now old txns sendings) (no_more (take place after_posts) ∙ take_all place after_posts (subst (λ (n : ℕ). n ≤ place) (sym long) all))
    (ahead now txns [] (subst (λ (ms : List Sending). PostsAll now now txns txns ms []) (sym (drop_all place sendings all)) (posts_none now txns)))
  where
    no_more : (xs : List HeldPost) → xs ++ [] ≡ xs
    no_more [] = refl
    no_more (x ∷ xs) = ap (λ (ys : List HeldPost). x ∷ ys) (no_more xs)

-- the same of posts, as they are told otherwise
pub posts_as : (before also after : Parts) (old other new : List (Option BoxedTxn)) (sendings sent : List Sending) (posts made : List HeldPost) → before ≡ also → old ≡ other → sendings ≡ sent → posts ≡ made →
    PostsAll before after old new sendings posts → PostsAll also after other new sent made
posts_as before also after old other new sendings sent posts made parts txns same is all =
    subst (λ (p : Parts). PostsAll p after other new sent made) parts
    (subst (λ (ts : List (Option BoxedTxn)). PostsAll before after ts new sent made) txns
    (subst (λ (ms : List Sending). PostsAll before after old new ms made) same
    (subst (λ (ps : List HeldPost). PostsAll before after old new sendings ps) is all)))
