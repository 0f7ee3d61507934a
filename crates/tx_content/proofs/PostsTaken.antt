-- The posts of a commit, taken back from the last one on.
use Rattle.std.proofs.Common.{◌≡◌, ℕ, zero, suc, ◌+◌, ◌≤◌, ◌<◌, List, [], ◌∷◌, ◌++◌, arith, append_assoc, drop, take, length, map, slice_index_or, slice_set, Option, Some, None, option_map, refl, sym, ap, subst, ◌∙◌}
use Rattle.std.proofs.lemmas.List.{drop_all, drop_more, get_or_at, length-take-le, set_at, take_all, take_more}
use Rattle.tx_base.specs.SlotFacts.{length-with_slot}
use Rattle.tx_base.specs.Slots.{slot_at}
use Rattle.tx_base.specs.declared.names.Sending.{Sending}
use Rattle.tx_change.specs.Exchange.{sizes_of, undone, Sizes, AreNamed, AreWithin}
use Rattle.tx_change.specs.declared.change.Change.{Change}
use Rattle.tx_change.specs.declared.parts.Parts.{Parts}
use Rattle.tx_kernel.specs.Posts.{listed_change}
use Rattle.tx_content.specs.Inverses.{kept_post, none_made, post_changes, unposted_all, unposted_at, unposted_in, HasStarter, HaveStarters}
use Rattle.tx_content.specs.Laws.{LiveLaws}
use Rattle.tx_content.specs.declared.content.BoxedTxn.{BoxedTxn}
use Rattle.tx_content.specs.declared.kept_posts.KeptPost.{KeptPost}
use Rattle.tx_txn.specs.Outboxes.{unmade, Held}
use Rattle.tx_txn.specs.declared.outbox.HeldPost.{HeldPost}

-- all posts but the first few were taken back
abbrev pub Taken : Parts → List (Option BoxedTxn) → List Sending → List HeldPost → ℕ → Parts → List (Option BoxedTxn) → Held → Type 0
Taken before old sendings posts few now txns outbox =
    (outbox.sendings ≡ sendings)
    × (outbox.posts ≡ take few posts ++ map (λ m. unmade) (drop few sendings))
    × (now ≡ undone before (post_changes (drop few posts)))
    × (txns ≡ unposted_all (drop few sendings) (drop few posts) old)

no_more : {A : Type 0} (xs : List A) → xs ++ [] ≡ xs
no_more [] = refl
no_more (x ∷ xs) = ap (λ ys. x ∷ ys) (no_more xs)

-- posts that are taken back leave the table as wide as it is
pub one_long : (post : Option KeptPost) (txns : List (Option BoxedTxn)) → length (unposted_in post txns) ≡ length txns
one_long None txns = refl
one_long (Some post) txns = length-with_slot txns post.starter.0 (option_map (unposted_at post.unpost) (slot_at txns post.starter.0))

pub unposted_long : (sendings : List Sending) (posts : List HeldPost) (txns : List (Option BoxedTxn)) → length (unposted_all sendings posts txns) ≡ length txns
unposted_long [] posts txns = refl
unposted_long (m ∷ ms) [] txns = refl
unposted_long (m ∷ ms) (post ∷ posts) txns = one_long (kept_post m post.kept) (unposted_all ms posts txns) ∙ unposted_long ms posts txns

-- none was
pub taken_none : (before : Parts) (old : List (Option BoxedTxn)) (sendings : List Sending) (posts : List HeldPost) (few : ℕ) → length sendings ≤ few → length posts ≡ length sendings →
    Taken before old sendings posts few before old (record { sendings = sendings; posts = posts })
taken_none before old sendings posts few all long = (
  refl,
  sym ((λ j. take_all few posts none j ++ map (λ m. unmade) (drop_all few sendings all j)) ∙ no_more posts),
  ap (λ (ps : List HeldPost). undone before (post_changes ps)) (sym (drop_all few posts none)),
  ap (λ (ms : List Sending). unposted_all ms (drop few posts) old) (sym (drop_all few sendings all)),
)
  where
    none : length posts ≤ few
    none = subst (λ (n : ℕ). n ≤ few) (sym long) all

-- all were
pub taken_all : (before now : Parts) (old txns : List (Option BoxedTxn)) (sendings : List Sending) (posts : List HeldPost) (few : ℕ) (outbox : Held) → few ≡ 0 →
    Taken before old sendings posts few now txns outbox → (now ≡ undone before (post_changes posts)) × (txns ≡ unposted_all sendings posts old) × (outbox ≡ none_made sendings)
taken_all before now old txns sendings posts few outbox none taken =
    let all : Taken before old sendings posts 0 now txns outbox = subst (λ (n : ℕ). Taken before old sendings posts n now txns outbox) none taken in
    (all.2, all.3, λ j. record { sendings = all.0 j; posts = all.1 j })

module _ (laws : LiveLaws) (before : Parts) (old : List (Option BoxedTxn)) (sendings : List Sending) (posts : List HeldPost) (place : ℕ) (now : Parts) (txns : List (Option BoxedTxn)) (outbox : Held)
    (d : HeldPost) (m : Sending) (few : place < length sendings) (long : length posts ≡ length sendings) (taken : Taken before old sendings posts (place + 1) now txns outbox) where
  few_posts : place < length posts
  few_posts = subst (λ (n : ℕ). place < n) (sym long) few

  abbrev behind : List HeldPost
  behind = map (λ m. unmade) (drop (place + 1) sendings)

  front_long : length (take place posts) ≡ place
  front_long = length-take-le place posts (by few_posts)
    where
      by : {n : ℕ} → place < n → place ≤ n
      by h = omega (arith, h)

  posts_are : outbox.posts ≡ take place posts ++ slice_index_or posts place d ∷ behind
  posts_are = taken.1 ∙ ap (λ (ps : List HeldPost). ps ++ behind) (take_more posts place d few_posts) ∙ append_assoc (take place posts) (slice_index_or posts place d ∷ []) behind

  -- the post that stands at the place
  pub post_there : slice_index_or outbox.posts place d ≡ slice_index_or posts place d
  post_there = ap (λ (ps : List HeldPost). slice_index_or ps place d) posts_are ∙ get_or_at (take place posts) (slice_index_or posts place d) behind d place front_long

  pub place_there : place < length outbox.posts
  place_there = subst (λ (ps : List HeldPost). place < length ps) (sym posts_are) (by (take place posts) (slice_index_or posts place d) behind front_long)
    where
      by : (xs : List HeldPost) (x : HeldPost) (ys : List HeldPost) → length xs ≡ place → place < length (xs ++ x ∷ ys)
      by xs x ys e = subst (λ (n : ℕ). n < length (xs ++ x ∷ ys)) e (more xs)
        where
          more : (xs : List HeldPost) → length xs < length (xs ++ x ∷ ys)
          more [] = omega arith
          more (z ∷ xs) = let rest = more xs in omega (arith, rest)

  sent_there : slice_index_or outbox.sendings place m ≡ slice_index_or sendings place m
  sent_there = ap (λ (ms : List Sending). slice_index_or ms place m) taken.0

  pub taken_next : (next : Parts) (others : List (Option BoxedTxn)) (after : Held) (made : HeldPost) → made ≡ slice_index_or outbox.posts place d → next ≡ undone now (listed_change made.change) →
      others ≡ unposted_in (kept_post (slice_index_or outbox.sendings place m) made.kept) txns → after.sendings ≡ outbox.sendings → after.posts ≡ slice_set outbox.posts place unmade →
      Taken before old sendings posts place next others after
  taken_next next others after made is undid unposts same set = (
    same ∙ taken.0,
    set ∙ ap (λ (ps : List HeldPost). slice_set ps place unmade) posts_are ∙ set_at (take place posts) (slice_index_or posts place d) behind unmade place front_long
        ∙ ap (λ (ms : List Sending). take place posts ++ map (λ m. unmade) ms) (sym (drop_more sendings place m few)),
    undid ∙ (λ j. undone (taken.2 j) (listed_change (made_is j).change))
        ∙ sym (laws.undone before (listed_change (slice_index_or posts place d).change) (post_changes (drop (place + 1) posts)))
        ∙ ap (λ (ps : List HeldPost). undone before (post_changes ps)) (sym (drop_more posts place d few_posts)),
    unposts ∙ (λ j. unposted_in (kept_post (sent_there j) (made_is j).kept) (taken.3 j))
        ∙ (λ j. unposted_all (sym (drop_more sendings place m few) j) (sym (drop_more posts place d few_posts) j) old),
  )
    where
      made_is : made ≡ slice_index_or posts place d
      made_is = is ∙ post_there

  sizes_now : sizes_of now ≡ sizes_of before
  sizes_now = ap sizes_of taken.2 ∙ laws.sizes_back before (post_changes (drop (place + 1) posts))

  named_front : (sizes : Sizes) (xs ys : List Change) → AreWithin sizes (xs ++ ys) → AreWithin sizes xs
  named_front sizes [] ys named = tt
  named_front sizes (x ∷ xs) ys named = (named.0, named_front sizes xs ys named.1)

  named_behind : (sizes : Sizes) (xs ys : List Change) → AreWithin sizes (xs ++ ys) → AreWithin sizes ys
  named_behind sizes [] ys named = named
  named_behind sizes (x ∷ xs) ys named = named_behind sizes xs ys named.1

  pub named_there : (made : HeldPost) → made ≡ slice_index_or outbox.posts place d → AreNamed before (post_changes posts) → AreNamed now (listed_change made.change)
  named_there made is named = subst (λ (post : HeldPost). AreNamed now (listed_change post.change)) (sym (is ∙ post_there))
      (subst (λ (z : Sizes). AreWithin z (listed_change (slice_index_or posts place d).change)) (sym sizes_now) (at posts place named few_posts))
    where
      at : (ps : List HeldPost) (i : ℕ) → AreNamed before (post_changes ps) → i < length ps → AreNamed before (listed_change (slice_index_or ps i d).change)
      at [] i named low = let never : ⊥ = omega (arith, low) in absurd never
      at (p ∷ ps) zero named low = named_front (sizes_of before) (listed_change p.change) (post_changes ps) named
      at (p ∷ ps) (suc i) named low = at ps i (named_behind (sizes_of before) (listed_change p.change) (post_changes ps) named) (omega (arith, low))

  pub starter_there : (made : HeldPost) → made ≡ slice_index_or outbox.posts place d → HaveStarters old sendings posts → HasStarter txns (kept_post (slice_index_or outbox.sendings place m) made.kept)
  starter_there made is starters = wide (kept_post (slice_index_or outbox.sendings place m) made.kept)
      (subst (λ (post : HeldPost). HasStarter old (kept_post (slice_index_or outbox.sendings place m) post.kept)) (sym (is ∙ post_there))
      (subst (λ (n : Sending). HasStarter old (kept_post n (slice_index_or posts place d).kept)) (sym sent_there) (at sendings posts place long starters few)))
    where
      at : (ms : List Sending) (ps : List HeldPost) (i : ℕ) → length ps ≡ length ms → HaveStarters old ms ps → i < length ms → HasStarter old (kept_post (slice_index_or ms i m) (slice_index_or ps i d).kept)
      at [] ps i same starters low = let never : ⊥ = omega (arith, low) in absurd never
      at (n ∷ ms) [] i same starters low = let never : ⊥ = omega (arith, same) in absurd never
      at (n ∷ ms) (p ∷ ps) zero same starters low = starters.0
      at (n ∷ ms) (p ∷ ps) (suc i) same starters low = at ms ps i (omega (arith, same)) starters.1 (omega (arith, low))

      wide : (post : Option KeptPost) → HasStarter old post → HasStarter txns post
      wide None h = tt
      wide (Some post) h = (h.0, subst (λ (n : ℕ). post.starter.0 ≤ n) (sym (ap length taken.3 ∙ unposted_long (drop (place + 1) sendings) (drop (place + 1) posts) old)) h.1)
