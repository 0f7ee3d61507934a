-- Steps taken back.
use Rattle.std.proofs.Common.{◌≡◌, ℕ, suc, Bool, not, ◌&&◌, if◌then◌else◌, List, length, Option, Some, None, sym, ap, subst, ◌∙◌}
use Rattle.std.proofs.lemmas.List.{ext_get_or}
use Rattle.std.proofs.lemmas.Option.{same_Some}
use Rattle.std.specs.Prelude.{IfSome}
use Rattle.tx_base.specs.SlotFacts.{slot_twice}
use Rattle.tx_base.specs.Slots.{slot_at, with_slot}
use Rattle.tx_base.specs.declared.names.Pid.{Pid}
use Rattle.tx_change.specs.Exchange.{applied, undone}
use Rattle.tx_content.specs.Aborts.{forth_parts, forth_txn}
use Rattle.tx_content.specs.Inverses.{first_of, last_of, less_last, none_made, post_changes, remarked, step_back, unposted_all, with_txn, Revives, UndoesAborted, UndoesBegun, UndoesCommitted, UndoesInside}
use Rattle.tx_content.specs.Laws.{LiveLaws}
use Rattle.tx_content.specs.declared.content.BoxedTxn.{BoxedTxn}
use Rattle.tx_content.specs.declared.content.Content.{Content}
use Rattle.tx_content.specs.declared.member_step.MemberStep.{MemberStep}
use Rattle.tx_model.specs.State.{Object, Proc}
use Rattle.tx_proc.specs.declared.proc.Answer.{Answer as TheAnswer}
use Rattle.tx_reserve.specs.Objects.{is_in}
use Rattle.tx_reserve.specs.Reservations.{owner_of}
use Rattle.tx_reserve.specs.declared.objects.Objects.{Objects}
use Rattle.tx_txn.specs.Marks.{mark_of}
use Rattle.tx_txn.specs.declared.members.Members.{Members}
use Rattle.tx_txn.specs.declared.txn.Txn.{Txn}

-- tables are the same where each number has the same
pub same_slots : {A : Type 0} (one other : List (Option A)) → length one ≡ length other → ((n : ℕ) → slot_at one n ≡ slot_at other n) → one ≡ other
same_slots one other long same = ext_get_or None one other long (λ i few. same (suc i))

-- a box that was taken out of its slot, changed and put back
pub put_changed : (old taken new : List (Option BoxedTxn)) (n : ℕ) (slot : Option BoxedTxn) → taken ≡ with_slot old n None → new ≡ with_slot taken n slot → new ≡ with_slot old n slot
put_changed old taken new n slot emptied now = now ∙ ap (λ (slots : List (Option BoxedTxn)). with_slot slots n slot) emptied ∙ slot_twice old n None slot

-- a step inside of a transaction was taken back
pub inside_taken : LiveLaws → (k new prior : Content) (step : MemberStep) (held : Bool) (boxed other : BoxedTxn) (txn after : Txn) →
    slot_at k.txns step.starter.0 ≡ Some boxed → txn ≡ boxed.txn.value → new.parts ≡ undone k.parts (last_of step.count txn.log) → new.marks ≡ remarked step.marked k.marks →
    ((o : Object) → owner_of new.owners o ≡ (if is_in txn.objects o && not (is_in step.objects o) then None else owner_of k.owners o)) → length new.owners ≡ 352 →
    after ≡ step_back step held txn → new.txns ≡ with_slot k.txns step.starter.0 (Some (with_txn boxed after)) →
    UndoesInside k step held prior other → new ≡ prior
inside_taken laws k new prior step held boxed other txn after there is parts marks owns sized stepped txns undoes = λ j. record {
  parts = (parts ∙ ap (λ (t : Txn). undone k.parts (last_of step.count t.log)) txn_is ∙ undoes.parts) j;
  marks = (marks ∙ undoes.marks) j;
  owners = laws.told new.owners prior.owners sized undoes.sized
      (λ o. owns o ∙ ap (λ (t : Txn). if is_in t.objects o && not (is_in step.objects o) then None else owner_of k.owners o) txn_is ∙ sym (undoes.owners o)) j;
  txns = (txns ∙ (λ i. with_slot k.txns step.starter.0 (Some (with_txn (box_is i) ((stepped ∙ ap (step_back step held) txn_is) i)))) ∙ undoes.txns) j;
}
  where
    box_is : boxed ≡ other
    box_is = same_Some boxed other (sym there ∙ undoes.there)

    txn_is : txn ≡ other.txn.value
    txn_is = is ∙ ap (λ (b : BoxedTxn). b.txn.value) box_is

-- the first step of a transaction was taken back
pub begun_taken : LiveLaws → (k new prior : Content) (starter : Pid) (boxed other : BoxedTxn) (objects : Objects) (txn : Txn) → slot_at k.txns starter.0 ≡ Some boxed → txn ≡ boxed.txn.value →
    new.parts ≡ undone k.parts txn.log → new.marks ≡ with_slot k.marks starter.0 None →
    ((o : Object) → owner_of new.owners o ≡ (if is_in objects o then None else owner_of k.owners o)) → length new.owners ≡ 352 → objects ≡ txn.objects →
    new.txns ≡ with_slot k.txns starter.0 None → UndoesBegun k starter prior other → new ≡ prior
begun_taken laws k new prior starter boxed other objects txn there is parts marks owns sized same txns undoes = λ j. record {
  parts = (parts ∙ ap (λ (t : Txn). undone k.parts t.log) txn_is ∙ undoes.parts) j;
  marks = (marks ∙ undoes.marks) j;
  owners = laws.told new.owners prior.owners sized undoes.sized
      (λ o. owns o ∙ ap (λ (os : Objects). if is_in os o then None else owner_of k.owners o) (same ∙ ap (λ (t : Txn). t.objects) txn_is) ∙ sym (undoes.owners o)) j;
  txns = (txns ∙ undoes.txns) j;
}
  where
    txn_is : txn ≡ other.txn.value
    txn_is = is ∙ ap (λ (b : BoxedTxn). b.txn.value) (same_Some boxed other (sym there ∙ undoes.there))

-- the marks and the owners of a transaction that ended came back
pub revived_same : LiveLaws → (k new prior : Content) (first led : Txn) (members : Members) → led.starter ≡ first.starter → led.defers ≡ first.defers → led.objects ≡ first.objects → led.members ≡ first.members →
    IfSome led.members (λ ms. (n : ℕ) → slot_at new.marks n ≡ (if is_in ms.joined (Proc n) then Some (mark_of led.starter ms n led.defers) else slot_at k.marks n)) → length new.marks ≡ length k.marks →
    ((o : Object) → owner_of new.owners o ≡ (if is_in led.objects o then Some led.starter.0 else owner_of k.owners o)) → length new.owners ≡ 352 →
    Revives k first members prior → (new.marks ≡ prior.marks) × (new.owners ≡ prior.owners)
revived_same laws k new prior first led members starter defers objects ended marks long owns sized revives = (
  same_slots new.marks prior.marks (long ∙ sym revives.width) (λ n. marks_then n ∙ sym (revives.marks n)),
  laws.told new.owners prior.owners sized revives.sized (λ o. owns o ∙ (λ j. if is_in (objects j) o then Some (starter j).0 else owner_of k.owners o) ∙ sym (revives.owners o)),
)
  where
    marks_then : (n : ℕ) → slot_at new.marks n ≡ (if is_in members.joined (Proc n) then Some (mark_of first.starter members n first.defers) else slot_at k.marks n)
    marks_then = subst (λ (x : Option Members). IfSome x (λ ms. (n : ℕ) → slot_at new.marks n ≡ (if is_in ms.joined (Proc n) then Some (mark_of first.starter ms n first.defers) else slot_at k.marks n)))
        (ended ∙ revives.ended)
        (subst (λ (p : Pid). IfSome led.members (λ ms. (n : ℕ) → slot_at new.marks n ≡ (if is_in ms.joined (Proc n) then Some (mark_of p ms n first.defers) else slot_at k.marks n))) starter
        (subst (λ (b : Bool). IfSome led.members (λ ms. (n : ℕ) → slot_at new.marks n ≡ (if is_in ms.joined (Proc n) then Some (mark_of led.starter ms n b) else slot_at k.marks n))) defers marks))

-- a commit was taken back
pub committed_taken : LiveLaws → (k new prior : Content) (boxed : BoxedTxn) (count : ℕ) (held : Bool) (members : Members) (starter : Pid) (between : List (Option BoxedTxn)) (txn led after : Txn) →
    starter ≡ boxed.txn.value.starter → txn ≡ record boxed.txn.value { outbox = none_made boxed.txn.value.outbox.sendings } →
    new.parts ≡ undone (undone k.parts (post_changes boxed.txn.value.outbox.posts)) (last_of count txn.log) → led ≡ record txn { log = first_of count txn.log; outbox = less_last held txn.outbox } →
    IfSome led.members (λ ms. (n : ℕ) → slot_at new.marks n ≡ (if is_in ms.joined (Proc n) then Some (mark_of led.starter ms n led.defers) else slot_at k.marks n)) → length new.marks ≡ length k.marks →
    ((o : Object) → owner_of new.owners o ≡ (if is_in led.objects o then Some led.starter.0 else owner_of k.owners o)) → length new.owners ≡ 352 →
    after ≡ record led { members = None } → between ≡ unposted_all boxed.txn.value.outbox.sendings boxed.txn.value.outbox.posts k.txns → new.txns ≡ with_slot between starter.0 (Some (with_txn boxed after)) →
    UndoesCommitted k boxed count held prior members → new ≡ prior
committed_taken laws k new prior boxed count held members starter between txn led after named is parts back marks long owns sized ended unposted txns undoes = λ j. record {
  parts = (parts ∙ ap (λ (t : Txn). undone (undone k.parts (post_changes boxed.txn.value.outbox.posts)) (last_of count t.log)) is ∙ undoes.parts) j;
  marks = same.0 j;
  owners = same.1 j;
  txns = (txns ∙ (λ i. with_slot (unposted i) (named i).0 (Some (with_txn boxed ((ended ∙ ap (λ (t : Txn). record t { members = None }) led_is) i)))) ∙ undoes.txns) j;
}
  where
    led_is : led ≡ record boxed.txn.value { log = first_of count boxed.txn.value.log; outbox = less_last held (none_made boxed.txn.value.outbox.sendings) }
    led_is = back ∙ ap (λ (t : Txn). record t { log = first_of count t.log; outbox = less_last held t.outbox }) is

    same : (new.marks ≡ prior.marks) × (new.owners ≡ prior.owners)
    same = revived_same laws k new prior boxed.txn.value led members (ap (λ (t : Txn). t.starter) led_is) (ap (λ (t : Txn). t.defers) led_is) (ap (λ (t : Txn). t.objects) led_is) (ap (λ (t : Txn). t.members) led_is)
        marks long owns sized undoes.revives

-- an abort was taken back
pub aborted_taken : LiveLaws → (k new prior : Content) (boxed : BoxedTxn) (stood : TheAnswer) (members : Members) (starter : Pid) (txn led after : Txn) →
    starter ≡ boxed.txn.value.starter → txn ≡ boxed.txn.value → new.parts ≡ applied (forth_parts k.parts txn stood) txn.log → led ≡ forth_txn k.parts txn stood →
    IfSome led.members (λ ms. (n : ℕ) → slot_at new.marks n ≡ (if is_in ms.joined (Proc n) then Some (mark_of led.starter ms n led.defers) else slot_at k.marks n)) → length new.marks ≡ length k.marks →
    ((o : Object) → owner_of new.owners o ≡ (if is_in led.objects o then Some led.starter.0 else owner_of k.owners o)) → length new.owners ≡ 352 →
    after ≡ record led { members = None } → new.txns ≡ with_slot k.txns starter.0 (Some (with_txn boxed after)) →
    UndoesAborted k boxed stood prior members → new ≡ prior
aborted_taken laws k new prior boxed stood members starter txn led after named is parts forth marks long owns sized ended txns undoes = λ j. record {
  parts = (parts ∙ ap (λ (t : Txn). applied (forth_parts k.parts t stood) t.log) is ∙ undoes.parts) j;
  marks = same.0 j;
  owners = same.1 j;
  txns = (txns ∙ (λ i. with_slot k.txns (named i).0 (Some (with_txn boxed ((ended ∙ ap (λ (t : Txn). record t { members = None }) led_is) i)))) ∙ undoes.txns) j;
}
  where
    led_is : led ≡ forth_txn k.parts boxed.txn.value stood
    led_is = forth ∙ ap (λ (t : Txn). forth_txn k.parts t stood) is

    same : (new.marks ≡ prior.marks) × (new.owners ≡ prior.owners)
    same = revived_same laws k new prior boxed.txn.value led members (ap (λ (t : Txn). t.starter) led_is) (ap (λ (t : Txn). t.defers) led_is) (ap (λ (t : Txn). t.objects) led_is) (ap (λ (t : Txn). t.members) led_is)
        marks long owns sized undoes.revives
