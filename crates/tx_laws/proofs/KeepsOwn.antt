-- What a step inside a transaction leaves of it.
use Rattle.std.proofs.Common.{◌≡◌, ◌≢◌, ℕ, ◌+◌, ◌-◌, ◌<◌, ◌≤◌, Bool, true, false, List, [], ◌∷◌, ◌++◌, length, Option, Some, None, is_some, refl, sym, ap, ◌∙◌, subst, inl, inr, arith}
use Rattle.std.proofs.lemmas.Bool.{both_ways}
use Rattle.tx_model.specs.State.{Process, State, Sender, Sending, with_writes}
use Rattle.tx_model.specs.Effects.{Inside, Effect}
use Rattle.tx_model.specs.Processes.{child_notice}
use Rattle.tx_model.specs.Book.{sender_count, member_sends}
use Rattle.tx_model.specs.Membership.{Table, is_member_of, is_live, is_open_of}
use Rattle.tx_model.specs.Answer.{is_running}
use Rattle.tx_laws.specs.WellFormedTable.{sent_by_kernel, HasParentInside, HasParentOutside, IsTransaction}
use Rattle.tx_laws.proofs.KeepsFormParts.{same_or_other}
use Rattle.tx_laws.proofs.PlainWrites.{concludes_ended}
use Rattle.tx_laws.proofs.Standings.{stand, running_same, some_same, parent_of, parent_same, parent_is, running_is, some_is, inside_same, outside_same, inside_by_parent, inside_parent, outside_parent, SameFor, transaction_same}
use Rattle.tx_laws.proofs.Turns.{orphan_some, Same, SameBut, standing, IsOrphan, Told, NotLater, Later, Turn, Stays, Sends, Grows, Reaps, Ends}

-- sends are counted one by one
sent_push : (ms : List Sending) (m : Sending) → member_sends (ms ++ m ∷ []) ≡ member_sends ms + sender_count m.from
unfolding member_sends
sent_push [] m = omega arith
sent_push (x ∷ ms) m = let k : member_sends (ms ++ m ∷ []) ≡ member_sends ms + sender_count m.from = sent_push ms m in omega arith

kernel_push : (ms : List Sending) (m : Sending) → sent_by_kernel (ms ++ m ∷ []) ≡ sent_by_kernel ms + (1 - sender_count m.from)
unfolding sent_by_kernel
kernel_push [] m = omega arith
kernel_push (x ∷ ms) m = let k : sent_by_kernel (ms ++ m ∷ []) ≡ sent_by_kernel ms + (1 - sender_count m.from) = kernel_push ms m in omega arith

one_sender : (x : Option Sender) → sender_count x ≤ 1
one_sender None = omega arith
one_sender (Some from) = omega arith

pub sent_length : (ms : List Sending) → length ms ≡ member_sends ms + sent_by_kernel ms
unfolding member_sends sent_by_kernel
sent_length [] = refl
sent_length (m ∷ ms) =
    let k : length ms ≡ member_sends ms + sent_by_kernel ms = sent_length ms in
    let one : sender_count m.from ≤ 1 = one_sender m.from in
    omega arith

-- the starter of a step's transaction, and its members
abbrev pub starter_in : Option Inside → ℕ
starter_in None = 0
starter_in (Some i) = i.starter

abbrev member_in : Option Inside → ℕ → Bool
member_in None n = false
member_in (Some i) n = i.members n

module _ (t : Table) (S : State) (i : Inside) (p : ℕ) (mine : is_member_of t i.starter p ≡ true) (members : (n : ℕ) → i.members n ≡ is_member_of t i.starter n)
    (live : is_live t i.starter ≡ true) (k : IsTransaction t S i.starter) where
  abbrev s : ℕ
  s = i.starter

  -- a member's send is held
  sends_kept : (new : Table) (T : State) → SameFor t new s → (m : Sending) → sender_count m.from ≡ 1 → member_sends (S.held s) < 32 → Same S T → T.held s ≡ S.held s ++ m ∷ []
      → IsTransaction new T s
  sends_kept new T same m sender room stands held =
      let x : IsTransaction new (record { width = T.width; procs = T.procs; descs = T.descs; pipes = T.pipes; held = S.held }) s =
      transaction_same t new S (record { width = T.width; procs = T.procs; descs = T.descs; pipes = T.pipes; held = S.held }) s live same (λ n h. stands n) refl k in
      let one : member_sends (T.held s) ≡ member_sends (S.held s) + sender_count m.from = ap member_sends held ∙ sent_push (S.held s) m in
      let none : sent_by_kernel (T.held s) ≡ sent_by_kernel (S.held s) + (1 - sender_count m.from) = ap sent_by_kernel held ∙ kernel_push (S.held s) m in
      let once : sent_by_kernel (S.held s) ≤ 1 = k.told_once in
      record {
        starter = x.starter;
        open_parts = x.open_parts;
        parents = x.parents;
        outside = x.outside;
        sent = omega arith;
        told_none = λ h. let before : sent_by_kernel (S.held s) ≡ 0 = x.told_none h in omega arith;
        told_once = omega arith;
      }

  -- a new process is none that was there
  not_new : (c : ℕ) → S.procs c ≡ None → (n : ℕ) → is_some (S.procs n) ≡ true → n ≢ c
  not_new c free n h z = let no : false ≡ true = sym (ap (λ (x : Option Process). is_some x) (ap S.procs z ∙ free)) ∙ h in cc

  -- a child is there, whose number may join
  pub grows_kept : (new : Table) (T : State) (c : ℕ) → S.procs c ≡ None → stand (T.procs c) ≡ standing p true → SameBut c S T → T.held s ≡ S.held s
      → ((n : ℕ) → is_member_of t s n ≡ true → is_member_of new s n ≡ true) → ((n : ℕ) → n ≢ c → is_member_of new s n ≡ true → is_member_of t s n ≡ true)
      → ((n : ℕ) → n ≢ c → is_open_of s (new.marks n) ≡ true → is_open_of s (t.marks n) ≡ true)
      → ((n : ℕ) → parent_of (S.procs s) ≡ Some n → is_member_of t s n ≡ false → is_member_of new s n ≡ false)
      → IsTransaction new T s
  grows_kept new T c free child stands held stays joins opens apart = record {
    starter = some_same (T.procs s) (S.procs s) (stands s here) ∙ k.starter;
    open_parts = λ n h. elim (same_or_other n c) [
      | inl z ↦ ap (λ (m : ℕ). is_running (T.procs m)) z ∙ running_is (T.procs c) p true child
      | inr z ↦ running_same (T.procs n) (S.procs n) (stands n z) ∙ k.open_parts n (opens n z h)
    ];
    parents = λ n h ne. elim (same_or_other n c) [
      | inl z ↦ inside_by_parent new s (T.procs n) p (ap (λ (m : ℕ). parent_of (T.procs m)) z ∙ parent_is (T.procs c) p true child) (inr (stays p mine))
      | inr z ↦
          inside_same t new s (T.procs n) (S.procs n) (parent_same (T.procs n) (S.procs n) (stands n z)) stays (k.parents n (joins n z h) ne)
    ];
    outside = outside_same t new s (T.procs s) (S.procs s) (parent_same (T.procs s) (S.procs s) (stands s here)) apart k.outside;
    sent = subst (λ (ms : List Sending). member_sends ms ≤ 32) (sym held) k.sent;
    told_none = λ h. ap sent_by_kernel held ∙ k.told_none (sym (running_same (T.procs s) (S.procs s) (stands s here)) ∙ h);
    told_once = subst (λ (ms : List Sending). sent_by_kernel ms ≤ 1) (sym held) k.told_once;
  }
    where
      here : s ≢ c
      here = not_new c free s k.starter

  -- an ended child of p is gone
  reaps_kept : (new : Table) (T : State) → SameFor t new s → (c : ℕ) → stand (S.procs c) ≡ standing p false → stand (T.procs c) ≡ None → SameBut c S T → T.held s ≡ S.held s
      → IsTransaction new T s
  reaps_kept new T same c was now stands held = record {
    starter = some_same (T.procs s) (S.procs s) (stands s here) ∙ k.starter;
    open_parts = λ n h. elim (same_or_other n c) [
      | inl z ↦
          let runs : is_running (S.procs n) ≡ true = k.open_parts n (same.open_parts n h) in
          let ended : is_running (S.procs n) ≡ false = ap (λ (m : ℕ). is_running (S.procs m)) z ∙ running_is (S.procs c) p false was in
          absurd (both_ways (is_running (S.procs n)) ended runs)
      | inr z ↦ running_same (T.procs n) (S.procs n) (stands n z) ∙ k.open_parts n (same.open_parts n h)
    ];
    parents = λ n h ne. elim (same_or_other n c) [
      | inl z ↦ inside_same t new s (T.procs n) None (parent_same (T.procs n) None (ap (λ (m : ℕ). stand (T.procs m)) z ∙ now)) (λ m y. same.members m ∙ y) tt
      | inr z ↦ inside_same t new s (T.procs n) (S.procs n) (parent_same (T.procs n) (S.procs n) (stands n z)) (λ m y. same.members m ∙ y) (k.parents n (sym (same.members n) ∙ h) ne)
    ];
    outside = outside_same t new s (T.procs s) (S.procs s) (parent_same (T.procs s) (S.procs s) (stands s here)) (λ m e z. same.members m ∙ z) k.outside;
    sent = subst (λ (ms : List Sending). member_sends ms ≤ 32) (sym held) k.sent;
    told_none = λ h. ap sent_by_kernel held ∙ k.told_none (sym (running_same (T.procs s) (S.procs s) (stands s here)) ∙ h);
    told_once = subst (λ (ms : List Sending). sent_by_kernel ms ≤ 1) (sym held) k.told_once;
  }
    where
      here : s ≢ c
      here z = both_ways (is_member_of t s p) (outside_parent t s (S.procs s) p (ap (λ (m : ℕ). parent_of (S.procs m)) z ∙ parent_is (S.procs c) p false was) k.outside) mine

  -- the member p has ended
  module _ (new : Table) (T : State) (same : SameFor t new s) (parent : ℕ) (was : stand (S.procs p) ≡ standing parent true) (now : stand (T.procs p) ≡ standing parent false)
      (orphans : (n : ℕ) → n ≢ p → IsOrphan p (S.procs n) (T.procs n)) (closed : is_open_of s (new.marks p) ≡ false) where
    running_orphan : (x y : Option Process) → IsOrphan p x y → is_running y ≡ is_running x
    running_orphan x y (inl e) = running_same y x e
    running_orphan x y (inr e) = running_is y 1 e.0 e.2 ∙ sym (running_is x p e.0 e.1)

    inside_orphan : (x y : Option Process) → IsOrphan p x y → HasParentInside t s x → HasParentInside new s y
    inside_orphan x y (inl e) h = inside_same t new s y x (parent_same y x e) (λ m z. same.members m ∙ z) h
    inside_orphan x y (inr e) h = inside_by_parent new s y 1 (parent_is y 1 e.0 e.2) (inl refl)

    outside_orphan : (x y : Option Process) → IsOrphan p x y → HasParentOutside t s x → HasParentOutside new s y
    outside_orphan x y (inl e) h = outside_same t new s y x (parent_same y x e) (λ m a z. same.members m ∙ z) h
    outside_orphan x y (inr e) h = absurd (both_ways (is_member_of t s p) (outside_parent t s x p (parent_is x p e.0 e.1) h) mine)

    same_parent : parent_of (T.procs p) ≡ parent_of (S.procs p)
    same_parent = parent_is (T.procs p) parent false now ∙ sym (parent_is (S.procs p) parent true was)

    running_back : is_running (T.procs s) ≡ true → is_running (S.procs s) ≡ true
    running_back h = elim (same_or_other s p) [
      | inl z ↦ absurd (both_ways (is_running (T.procs s)) (ap (λ (m : ℕ). is_running (T.procs m)) z ∙ running_is (T.procs p) parent false now) h)
      | inr z ↦ sym (running_orphan (S.procs s) (T.procs s) (orphans s z)) ∙ h
    ]

    -- what the processes are after it, where the transaction holds these sends
    ends_with : member_sends (T.held s) ≤ 32 → (is_running (T.procs s) ≡ true → sent_by_kernel (T.held s) ≡ 0) → sent_by_kernel (T.held s) ≤ 1 → IsTransaction new T s
    ends_with sent none once = record {
      starter = elim (same_or_other s p) [
        | inl z ↦ ap (λ (m : ℕ). is_some (T.procs m)) z ∙ some_is (T.procs p) (record { parent = parent; runs = false }) now
        | inr z ↦ orphan_some p (S.procs s) (T.procs s) (orphans s z) k.starter
      ];
      open_parts = λ n h. elim (same_or_other n p) [
        | inl z ↦ absurd (both_ways (is_open_of s (new.marks n)) (ap (λ (m : ℕ). is_open_of s (new.marks m)) z ∙ closed) h)
        | inr z ↦ running_orphan (S.procs n) (T.procs n) (orphans n z) ∙ k.open_parts n (same.open_parts n h)
      ];
      parents = λ n h ne. elim (same_or_other n p) [
        | inl z ↦
            inside_same t new s (T.procs n) (S.procs n) (ap (λ (m : ℕ). parent_of (T.procs m)) z ∙ same_parent ∙ sym (ap (λ (m : ℕ). parent_of (S.procs m)) z))
            (λ m y. same.members m ∙ y) (k.parents n (sym (same.members n) ∙ h) ne)
        | inr z ↦ inside_orphan (S.procs n) (T.procs n) (orphans n z) (k.parents n (sym (same.members n) ∙ h) ne)
      ];
      outside = elim (same_or_other s p) [
        | inl z ↦
            outside_same t new s (T.procs s) (S.procs s) (ap (λ (m : ℕ). parent_of (T.procs m)) z ∙ same_parent ∙ sym (ap (λ (m : ℕ). parent_of (S.procs m)) z))
            (λ m a y. same.members m ∙ y) k.outside
        | inr z ↦ outside_orphan (S.procs s) (T.procs s) (orphans s z) k.outside
      ];
      sent = sent;
      told_none = none;
      told_once = once;
    }

    -- only the starter's parent is no member
    starter_ends : is_member_of t s parent ≡ false → parent ≢ 1 → s ≡ p
    starter_ends out ne = elim (same_or_other s p) [
      | inl z ↦ z
      | inr z ↦ elim (inside_parent t s (S.procs p) parent (parent_is (S.procs p) parent true was) (k.parents p mine (λ y. z (sym y)))) [
        | inl y ↦ absurd (ne y)
        | inr y ↦ absurd (both_ways (is_member_of t s parent) out y)
      ]
    ]

    ends_kept : Told (Some i) parent S T → IsTransaction new T s
    ends_kept (NotLater held) =
        ends_with (subst (λ (ms : List Sending). member_sends ms ≤ 32) (sym (held s)) k.sent) (λ h. ap sent_by_kernel (held s) ∙ k.told_none (running_back h))
        (subst (λ (ms : List Sending). sent_by_kernel ms ≤ 1) (sym (held s)) k.told_once)
    ends_kept (Later j e out ne held) =
        let starts : s ≡ j.starter = ap starter_in e in
        let more : T.held s ≡ S.held s ++ child_notice parent ∷ [] =
        ap T.held starts ∙ held.more ∙ ap (λ (n : ℕ). S.held n ++ child_notice parent ∷ []) (sym starts) in
        let outer : is_member_of t s parent ≡ false = sym (members parent) ∙ ap (λ (x : Option Inside). member_in x parent) e ∙ out in
        let it : s ≡ p = starter_ends outer ne in
        let ran : is_running (S.procs s) ≡ true = ap (λ (m : ℕ). is_running (S.procs m)) it ∙ running_is (S.procs p) parent true was in
        let before : sent_by_kernel (S.held s) ≡ 0 = k.told_none ran in
        let room : member_sends (S.held s) ≤ 32 = k.sent in
        let count : member_sends (T.held s) ≡ member_sends (S.held s) + 0 = ap member_sends more ∙ sent_push (S.held s) (child_notice parent) in
        let told : sent_by_kernel (T.held s) ≡ sent_by_kernel (S.held s) + 1 = ap sent_by_kernel more ∙ kernel_push (S.held s) (child_notice parent) in
        ends_with (omega arith)
        (λ h. absurd (both_ways (is_running (T.procs s)) (ap (λ (m : ℕ). is_running (T.procs m)) it ∙ running_is (T.procs p) parent false now) h)) (omega arith)

  -- whatever the step does, where a member that ends has ended its part
  pub own_kept : (new : Table) (f : Effect) → SameFor t new s → (concludes_ended f.conclusion ≡ true → is_open_of s (new.marks p) ≡ false) → Turn (Some i) p S f
      → IsTransaction new (with_writes f.writes S) s
  own_kept new f same closed (Stays goes stands held) = transaction_same t new S (with_writes f.writes S) s live same (λ n h. stands n) (held s) k
  own_kept new f same closed (Sends goes j e m sender room stands held) =
      let starts : s ≡ j.starter = ap starter_in e in
      sends_kept new (with_writes f.writes S) same m sender (subst (λ (n : ℕ). member_sends (S.held n) < 32) (sym starts) room) stands
      (ap (with_writes f.writes S).held starts ∙ held.more ∙ ap (λ (n : ℕ). S.held n ++ m ∷ []) (sym starts))
  own_kept new f same closed (Grows goes c free child stands held) =
      grows_kept new (with_writes f.writes S) c free child stands (held s) (λ n h. same.members n ∙ h) (λ n ne h. sym (same.members n) ∙ h) (λ n ne. same.open_parts n)
      (λ n e h. same.members n ∙ h)
  own_kept new f same closed (Reaps goes c was now stands held) = reaps_kept new (with_writes f.writes S) same c was now stands (held s)
  own_kept new f same closed (Ends concludes parent was now orphans sends told) =
      ends_kept new (with_writes f.writes S) same parent was now orphans (closed (ap concludes_ended concludes)) told
