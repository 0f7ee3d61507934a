-- Steps made again that were taken back.
use Rattle.std.proofs.Common.{Result, Ok, Err, OnErr, ◌≡◌, ℕ, if◌then◌else◌, List, length, Option, Some, None, sym, ap, ◌∙◌}
use Rattle.std.proofs.lemmas.Option.{same_Some}
use Rattle.tx_base.specs.Slots.{slot_at, with_slot}
use Rattle.tx_base.specs.declared.marks.Mark.{Mark}
use Rattle.tx_base.specs.declared.names.Pid.{Pid}
use Rattle.tx_base.specs.declared.names.Sending.{Sending}
use Rattle.tx_change.specs.Exchange.{applied, exchanged, parts_after}
use Rattle.tx_change.specs.Stacks.{top_of}
use Rattle.tx_change.specs.declared.change.Change.{Change}
use Rattle.tx_change.specs.declared.parts.Parts.{Parts}
use Rattle.tx_content.proofs.TakenBack.{same_slots}
use Rattle.tx_content.specs.Aborts.{led_parts, led_txn, standing_at}
use Rattle.tx_content.specs.Inverses.{remarked, with_txn}
use Rattle.tx_content.specs.Laws.{LiveLaws}
use Rattle.tx_content.specs.Redone.{step_again, RedoesAborted, RedoesBegun, RedoesInside}
use Rattle.tx_content.specs.declared.content.BoxedTxn.{BoxedTxn}
use Rattle.tx_content.specs.declared.content.Content.{Content}
use Rattle.tx_content.specs.declared.member_step.MemberStep.{MemberStep}
use Rattle.tx_model.specs.Membership.{mark_unless_of}
use Rattle.tx_model.specs.State.{Object}
use Rattle.tx_proc.specs.declared.proc.Answer.{Answer as TheAnswer}
use Rattle.tx_reserve.specs.Objects.{is_in}
use Rattle.tx_reserve.specs.Reservations.{owner_of}
use Rattle.tx_txn.specs.declared.txn.Txn.{Txn}

-- a first step was made again
pub begun_made : LiveLaws → (k new after : Content) (boxed : BoxedTxn) (mark : Option Mark) (starter : Pid) (txn objects : Txn) (log : List Change) →
    starter ≡ boxed.txn.value.starter → txn ≡ boxed.txn.value → objects ≡ record txn { log = log } → new.parts ≡ applied k.parts txn.log → log ≡ exchanged k.parts txn.log →
    ((o : Object) → owner_of new.owners o ≡ (if is_in objects.objects o then Some starter.0 else owner_of k.owners o)) → length new.owners ≡ 352 →
    new.marks ≡ with_slot k.marks starter.0 mark → new.txns ≡ with_slot k.txns starter.0 (Some (with_txn boxed (record txn { log = log }))) → RedoesBegun k boxed mark after → new ≡ after
begun_made laws k new after boxed mark starter txn objects log named is later parts logged owns sized marks txns redoes = λ j. record {
  parts = (parts ∙ ap (λ (t : Txn). applied k.parts t.log) is ∙ redoes.parts) j;
  marks = (marks ∙ ap (λ (p : Pid). with_slot k.marks p.0 mark) named ∙ redoes.marks) j;
  owners = laws.told new.owners after.owners sized redoes.sized
      (λ o. owns o ∙ (λ i. if is_in ((later ∙ ap (λ (t : Txn). record t { log = log }) is) i).objects o then Some (named i).0 else owner_of k.owners o) ∙ sym (redoes.owners o)) j;
  txns = (txns ∙ (λ i. with_slot k.txns (named i).0 (Some (with_txn boxed (record (is i) { log = (logged ∙ ap (λ (t : Txn). exchanged k.parts t.log) is) i })))) ∙ redoes.txns) j;
}

-- a step inside of a transaction was made again
pub inside_made : LiveLaws → (k new after : Content) (step : MemberStep) (held : Option Sending) (stack : List Change) (boxed other : BoxedTxn) (txn made : Txn) →
    slot_at k.txns step.starter.0 ≡ Some boxed → txn ≡ boxed.txn.value → new.parts ≡ applied k.parts (top_of step.count stack) → new.marks ≡ remarked step.marked k.marks →
    ((o : Object) → owner_of new.owners o ≡ (if is_in step.objects o then Some txn.starter.0 else owner_of k.owners o)) → length new.owners ≡ 352 →
    made ≡ step_again k.parts step held stack txn → new.txns ≡ with_slot k.txns step.starter.0 (Some (with_txn boxed made)) →
    RedoesInside k step held stack after other → new ≡ after
inside_made laws k new after step held stack boxed other txn made there is parts marks owns sized stepped txns redoes = λ j. record {
  parts = (parts ∙ redoes.parts) j;
  marks = (marks ∙ redoes.marks) j;
  owners = laws.told new.owners after.owners sized redoes.sized
      (λ o. owns o ∙ (λ i. if is_in step.objects o then Some (txn_is i).starter.0 else owner_of k.owners o) ∙ sym (redoes.owners o)) j;
  txns = (txns ∙ (λ i. with_slot k.txns step.starter.0 (Some (with_txn (box_is i) ((stepped ∙ ap (step_again k.parts step held stack) txn_is) i)))) ∙ redoes.txns) j;
}
  where
    box_is : boxed ≡ other
    box_is = same_Some boxed other (sym there ∙ redoes.there)

    txn_is : txn ≡ other.txn.value
    txn_is = is ∙ ap (λ (b : BoxedTxn). b.txn.value) box_is

-- an abort was made again
pub aborted_made : LiveLaws → (k new after : Content) (starter : Pid) (stands : TheAnswer) (boxed other : BoxedTxn) (txn led : Txn) (between : Parts) →
    slot_at k.txns starter.0 ≡ Some boxed → txn ≡ boxed.txn.value → between ≡ led_parts k.parts txn → led ≡ led_txn k.parts txn → new.parts ≡ parts_after between (standing_at starter stands) →
    ((n : ℕ) → slot_at new.marks n ≡ mark_unless_of led.starter.0 (slot_at k.marks n)) → length new.marks ≡ length k.marks →
    ((o : Object) → owner_of new.owners o ≡ (if is_in led.objects o then None else owner_of k.owners o)) → length new.owners ≡ 352 →
    new.txns ≡ with_slot k.txns starter.0 None → RedoesAborted k starter stands after other → new ≡ after
aborted_made laws k new after starter stands boxed other txn led between there is back led_is parts marks long owns sized txns redoes = λ j. record {
  parts = (parts ∙ ap (λ (p : Parts). parts_after p (standing_at starter stands)) (back ∙ ap (led_parts k.parts) txn_is) ∙ redoes.parts) j;
  marks = same_slots new.marks after.marks (long ∙ sym redoes.width)
      (λ n. marks n ∙ (λ i. mark_unless_of (led_same i).starter.0 (slot_at k.marks n)) ∙ sym (redoes.marks n)) j;
  owners = laws.told new.owners after.owners sized redoes.sized
      (λ o. owns o ∙ (λ i. if is_in (led_same i).objects o then None else owner_of k.owners o) ∙ sym (redoes.owners o)) j;
  txns = (txns ∙ redoes.txns) j;
}
  where
    txn_is : txn ≡ other.txn.value
    txn_is = is ∙ ap (λ (b : BoxedTxn). b.txn.value) (same_Some boxed other (sym there ∙ redoes.there))

    led_same : led ≡ led_txn k.parts other.txn.value
    led_same = led_is ∙ ap (led_txn k.parts) txn_is

-- what is so is so where the call failed too
pub after_err : {T E P : Type 0} (r : Result T E) → P → OnErr r P
after_err (Ok value) holds = tt
after_err (Err e) holds = holds
