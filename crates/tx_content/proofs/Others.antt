-- What a step leaves of the transactions that it is not of.
use Rattle.std.proofs.Common.{◌≡◌, ℕ, ◌==◌, Bool, true, false, List, [], ◌∷◌, ◌++◌, Option, Some, None, if◌then◌else◌, option_map, ◌⊎◌, refl, sym, ap, subst, ◌∙◌, inl, inr, eq-eqb, eqb-true}
use Rattle.std.proofs.lemmas.Bool.{both_ways, cases_Bool}
use Rattle.tx_base.specs.Slots.{slot_at}
use Rattle.tx_base.specs.declared.marks.Mark.{Mark}
use Rattle.tx_change.specs.Counts.{CountsAgree}
use Rattle.tx_change.specs.CountsBack.{counting, opened_at}
use Rattle.tx_change.specs.Exchange.{object_of, sizes_of, undone, Sizes, AreNamed, AreWithin}
use Rattle.tx_change.specs.Laws.{AreElsewhere}
use Rattle.tx_change.specs.declared.change.Change.{Change}
use Rattle.tx_change.specs.declared.parts.Parts.{Parts}
use Rattle.tx_desc.specs.Places.{Descriptors}
use Rattle.tx_kernel.specs.Plans.{AreAmong}
use Rattle.tx_laws.specs.Commuting.{named_by}
use Rattle.tx_laws.specs.Footprints.{is_shared}
use Rattle.tx_laws.specs.TwoStates.{is_owner, made}
use Rattle.tx_content.specs.Content.{content_of, now_of, owner_at, txn_of, IsShaped, IsTxn}
use Rattle.tx_content.specs.Laws.{LiveLaws}
use Rattle.tx_content.specs.KeptPosts.{posted_at}
use Rattle.tx_content.specs.declared.content.BoxedTxn.{BoxedTxn}
use Rattle.tx_content.specs.declared.content.Content.{Content}
use Rattle.tx_model.specs.Events.{Event, effect, objects}
use Rattle.tx_model.specs.Words.{processes_of}
use Rattle.tx_model.specs.Membership.{is_of}
use Rattle.tx_model.specs.State.{Object, Proc, Desc, Pipe, Held, Process, Sending, State, has_object, same_object}
use Rattle.tx_proc.specs.Parts.{process_in}
use Rattle.tx_proc.specs.declared.proc.Proc.{Proc as TheProc}
use Rattle.tx_reserve.specs.Reservations.{owner_of}
use Rattle.tx_txn.specs.Content.{overlay_if, is_named, IsKept}
use Rattle.tx_txn.specs.Faces.{pending_in}
use Rattle.tx_txn.specs.Logs.{newest_first}
use Rattle.tx_txn.specs.Txns.{Owns}
use Rattle.tx_txn.specs.declared.txn.Txn.{Txn}

-- a mark of the transaction of n says whether it defers so
abbrev pub DefersSo : ℕ → Bool → Option Mark → Type 0
DefersSo n defers x = (m : Mark) → x ≡ Some m → m.starter.0 ≡ n → m.defers ≡ defers

-- what a step leaves of the transaction of n, whose members did not make it
pub record Stays (old new : Content) (n : ℕ) (txn : Txn) : Type 0 where
  pub sizes : sizes_of new.parts ≡ sizes_of old.parts
  pub members : (p : ℕ) → is_of n (slot_at new.marks p) ≡ is_of n (slot_at old.marks p)
  pub defers : (d : Bool) → ((p : ℕ) → DefersSo n d (slot_at old.marks p)) → (p : ℕ) → DefersSo n d (slot_at new.marks p)
  pub owns : (o : Object) → is_owner n (owner_of new.owners o) ≡ is_owner n (owner_of old.owners o)
  pub counts : CountsAgree (undone new.parts txn.log)

pub owned_by : (n : ℕ) (x : Option ℕ) → is_owner n x ≡ true → x ≡ Some n
owned_by n None h = cc
owned_by n (Some t) h = ap Some (eqb-true t n h)

-- what a live transaction has reserved is its own
pub has_own : (k : Content) (n : ℕ) (txn : Txn) → IsTxn k n txn → Owns txn.starter.0 k.owners txn.objects
has_own k n txn was o h = owned_by n (owner_of k.owners o) (sym (was.objects o) ∙ h) ∙ ap Some (sym was.starter)

pub txn_stays : (old new : Content) (n : ℕ) (txn : Txn) → IsTxn old n txn → Stays old new n txn → IsTxn new n txn
txn_stays old new n txn was stays = record {
  starter = was.starter;
  live = stays.members n ∙ was.live;
  own = λ p of. owned_by n (owner_of new.owners (Proc p)) (stays.owns (Proc p) ∙ ap (is_owner n) (was.own p (sym (stays.members p) ∙ of)) ∙ eq-eqb n n refl);
  named = subst (λ (z : Sizes). AreWithin z txn.log) (sym stays.sizes) was.named;
  brings = was.brings;
  counts = stays.counts;
  objects = λ o. was.objects o ∙ sym (stays.owns o);
  posts = was.posts;
  members = was.members;
  defers = stays.defers txn.defers was.defers;
}

-- and so does one of which posts to its starter were kept
pub slot_stays : (new : Content) (n : ℕ) (ms : List Sending) (slot : Option BoxedTxn) (boxed : BoxedTxn) → ((b : BoxedTxn) → slot ≡ Some b → IsTxn new n b.txn.value) →
    Some boxed ≡ option_map (posted_at n ms) slot → IsTxn new n boxed.txn.value
slot_stays new n ms None boxed is at = cc
slot_stays new n ms (Some before) boxed is at = subst IsBoxed (sym at) (record {
  starter = was.starter;
  live = was.live;
  own = was.own;
  named = was.named;
  brings = was.brings;
  counts = was.counts;
  objects = was.objects;
  posts = was.posts;
  members = was.members;
  defers = was.defers;
})
  where
    IsBoxed : Option BoxedTxn → Type 0
    IsBoxed None = ⊥
    IsBoxed (Some b) = IsTxn new n b.txn.value

    was : IsTxn new n before.txn.value
    was = is before refl

-- a log names the object, or none of its changes does
pub elsewhere_or : (o : Object) (log : List Change) → AreElsewhere o log ⊎ (is_named o (newest_first log) ≡ true)
unfolding is_named
elsewhere_or o [] = inl tt
elsewhere_or o (change ∷ log) = by (same_object o (object_of change)) refl (elsewhere_or o log)
  where
    last : (xs : List Change) (x : Change) → same_object o (object_of x) ≡ true → is_named o (xs ++ x ∷ []) ≡ true
    last [] x e = rw e refl
    last (y ∷ xs) x e = or (same_object o (object_of y)) (last xs x e)
      where
        or : (b : Bool) → is_named o (xs ++ x ∷ []) ≡ true → (if b then true else is_named o (xs ++ x ∷ [])) ≡ true
        or true h = refl
        or false h = h

    front : (xs : List Change) (x : Change) → is_named o xs ≡ true → is_named o (xs ++ x ∷ []) ≡ true
    front [] x h = cc
    front (y ∷ xs) x h = or (same_object o (object_of y)) (front xs x) h
      where
        or : (b : Bool) → (is_named o xs ≡ true → is_named o (xs ++ x ∷ []) ≡ true) → (if b then true else is_named o xs) ≡ true → (if b then true else is_named o (xs ++ x ∷ [])) ≡ true
        or true f e = refl
        or false f e = f e

    by : (b : Bool) → same_object o (object_of change) ≡ b → AreElsewhere o log ⊎ (is_named o (newest_first log) ≡ true) →
        ((same_object o (object_of change) ≡ false) × AreElsewhere o log) ⊎ (is_named o (newest_first log ++ change ∷ []) ≡ true)
    by true e rest = inr (last (newest_first log) change e)
    by false e (inl none) = inl (e, none)
    by false e (inr some) = inr (front (newest_first log) change some)

-- what is among objects is no description that is not
desc_among : (d : ℕ) (os : List Object) (changes : List Change) → AreAmong os changes → has_object (Desc d) os ≡ false → AreElsewhere (Desc d) changes
desc_among d os [] among none = tt
desc_among d os (change ∷ changes) among none = (by (object_of change) among.0, desc_among d os changes among.1 none)
  where
    by : (x : Object) → has_object x os ≡ true → same_object (Desc d) x ≡ false
    by (Proc n) h = refl
    by (Desc n) h = elim (cases_Bool (d == n)) [
      | inl e ↦ absurd (both_ways (has_object (Desc d) os) none (subst (λ (k : ℕ). has_object (Desc k) os ≡ true) (sym (eqb-true d n e)) h))
      | inr e ↦ e
    ]
    by (Pipe n) h = refl
    by (Held n) h = refl

-- what sends go to is no description
desc_named : (d : ℕ) (os : List Object) (ms : List Sending) → has_object (Desc d) os ≡ false → has_object (Desc d) (os ++ processes_of ms) ≡ false
unfolding has_object
desc_named d [] [] none = refl
desc_named d [] (m ∷ ms) none = desc_named d [] ms none
desc_named d (x ∷ os) ms none = by (same_object (Desc d) x) none (desc_named d os ms)
  where
    by : (b : Bool) → (if b then true else has_object (Desc d) os) ≡ false → (has_object (Desc d) os ≡ false → has_object (Desc d) (os ++ processes_of ms) ≡ false) →
        (if b then true else has_object (Desc d) (os ++ processes_of ms)) ≡ false
    by true e rest = cc
    by false e rest = rest e

module _ (laws : LiveLaws) (old new : Content) (shaped : IsShaped old) (kept : IsKept (content_of old)) where
  -- what the log of a live transaction names is its own
  pub owned_named : (n : ℕ) (b : BoxedTxn) → slot_at old.txns n ≡ Some b → (o : Object) → is_named o (newest_first b.txn.value.log) ≡ true → owner_at old o ≡ Some n
  owned_named n b at o named = kept.named n (txn_of b) (ap (option_map txn_of) at) o named

  -- the counts of names are right without a transaction, of which an event names nothing, after the event too
  pub counts_stay : (event : Event) (changes : List Change) → AreNamed new.parts changes → undone new.parts changes ≡ old.parts → AreAmong (named_by event (now_of old)) changes →
      now_of new ≡ made event (now_of old) (now_of old) → CountsAgree new.parts →
      (n : ℕ) (b : BoxedTxn) → slot_at old.txns n ≡ Some b → ((o : Object) → is_shared o ≡ true → owner_at old o ≡ Some n → has_object o (objects event (now_of old)) ≡ false) → CountsAgree (undone new.parts b.txn.value.log)
  unfolding named_by
  counts_stay event changes named back among now counts n b at apart =
      laws.led_back old.parts new.parts b.txn.value.log sizes was.named procs descs shaped.counts counts was.counts
    where
      was : IsTxn old n b.txn.value
      was = shaped.each n b at

      sizes : sizes_of new.parts ≡ sizes_of old.parts
      sizes = sym (laws.sizes_back new.parts changes) ∙ ap sizes_of back

      -- what counts of a process is in the state, whatever is pending there
      names : Option Process → Option (Option ℕ × Descriptors)
      names None = None
      names (Some q) = Some (q.status, q.descriptors)

      names_in : (x : Option TheProc) → names (overlay_if true (pending_in None) (process_in x)) ≡ counting x
      names_in None = refl
      names_in (Some proc) = refl

      seen : (same : Bool) → same ≡ true → (x y : Option TheProc) → overlay_if same (pending_in None) (process_in x) ≡ overlay_if same (pending_in None) (process_in y) → counting x ≡ counting y
      seen true e x y h = sym (names_in x) ∙ ap names h ∙ names_in y
      seen false e x y h = cc

      procs : (p : ℕ) → AreElsewhere (Proc p) b.txn.value.log ⊎ (counting (slot_at old.parts.procs p) ≡ counting (slot_at new.parts.procs p))
      procs p = elim (elsewhere_or (Proc p) b.txn.value.log) [
        | inl none ↦ inl none
        | inr some ↦ inr (seen (p == p) (eq-eqb p p refl) (slot_at old.parts.procs p) (slot_at new.parts.procs p)
            (sym (ap (λ (R : State). overlay_if (p == p) (pending_in None) (R.procs p)) now ∙ laws.rest event (now_of old) p (apart (Proc p) refl (owned_named n b at (Proc p) some)))))
      ]

      descs : (d : ℕ) → AreElsewhere (Desc d) b.txn.value.log ⊎ (opened_at old.parts.descs d ≡ opened_at new.parts.descs d)
      descs d = elim (elsewhere_or (Desc d) b.txn.value.log) [
        | inl none ↦ inl none
        | inr some ↦ inr (subst (λ (P : Parts). opened_at P.descs d ≡ opened_at new.parts.descs d) back
            ((laws.elsewhere new.parts changes named).1 d
            (desc_among d (objects event (now_of old) ++ processes_of (effect event (now_of old)).sends) changes among
            (desc_named d (objects event (now_of old)) (effect event (now_of old)).sends (apart (Desc d) refl (owned_named n b at (Desc d) some))))))
      ]
