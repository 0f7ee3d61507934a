-- A first step that was taken back, and what makes it again.
use Rattle.std.proofs.Common.{◌≡◌, ℕ, ◌≤◌, Bool, if◌then◌else◌, List, length, Option, Some, None, refl, sym, ap, subst, ◌∙◌, inl, inr}
use Rattle.std.proofs.lemmas.Bool.{cases_Bool}
use Rattle.tx_base.specs.SlotFacts.{length-with_slot, slot_same, slot_twice}
use Rattle.tx_base.specs.Slots.{slot_at, with_slot}
use Rattle.tx_base.specs.declared.marks.Mark.{Mark}
use Rattle.tx_base.specs.declared.names.Pid.{Pid}
use Rattle.tx_change.specs.Exchange.{applied, exchanged, reverted, undone, AreNamed}
use Rattle.tx_change.specs.declared.change.Change.{Change}
use Rattle.tx_change.specs.declared.parts.Parts.{Parts}
use Rattle.tx_base.specs.SlotFacts.{slot_there}
use Rattle.tx_content.proofs.OutsideAgain.{all_below, led_named}
use Rattle.tx_content.proofs.Others.{owned_by}
use Rattle.tx_content.specs.Content.{IsShaped, IsTxn}
use Rattle.tx_content.specs.Inverses.{with_txn, GoesWith, UndoesBegun}
use Rattle.tx_content.specs.Laws.{LiveLaws}
use Rattle.tx_content.specs.Redone.{HasPlace, IsTakenBack}
use Rattle.tx_content.specs.declared.content.BoxedTxn.{BoxedTxn}
use Rattle.tx_content.specs.declared.content.Content.{Content}
use Rattle.tx_content.specs.declared.inverse.Inverse.TheVariants.{Begun}
use Rattle.tx_content.specs.declared.undone.Undone.TheVariants as undo
use Rattle.tx_model.specs.State.{Object}
use Rattle.tx_reserve.specs.Objects.{is_in}
use Rattle.tx_reserve.specs.Reservations.{owner_of}
use Rattle.tx_txn.specs.declared.txn.Txn.{Txn}

module _ (laws : LiveLaws) (k before : Content) (starter : Pid) (boxed : BoxedTxn) (led : List Change) (mark : Option Mark) (stack : List Change)
    (shaped : IsShaped k) (fits : GoesWith k (Begun starter)) (there : slot_at k.txns starter.0 ≡ Some boxed) (led_is : led ≡ reverted k.parts boxed.txn.value.log)
    (mark_is : mark ≡ slot_at k.marks starter.0) (undoes : UndoesBegun k starter before boxed) where
  abbrev s : ℕ
  s = starter.0

  abbrev t0 : Txn
  t0 = boxed.txn.value

  abbrev U : Parts
  U = undone k.parts t0.log

  was : IsTxn k s t0
  was = shaped.each s boxed there

  bounds : (1 ≤ s) × (s ≤ length k.txns)
  bounds = slot_there k.txns s boxed there

  -- the content before, but for what is known of its owners
  abbrev prior : Content
  prior = record { parts = U; marks = with_slot k.marks s None; owners = before.owners; txns = with_slot k.txns s None }

  prior_is : prior ≡ before
  prior_is = λ i. record { parts = undoes.parts i; marks = undoes.marks i; owners = before.owners; txns = undoes.txns i }

  named_led : AreNamed U led
  named_led = subst (AreNamed U) (sym led_is) (led_named laws k.parts t0.log was.named)

  log_again : exchanged U led ≡ t0.log
  log_again = ap (exchanged U) led_is ∙ laws.come_back k.parts t0.log was.named was.brings shaped.places

  owners_again : (o : Object) → owner_of k.owners o ≡ (if is_in t0.objects o then Some t0.starter.0 else owner_of before.owners o)
  owners_again o = elim (cases_Bool (is_in t0.objects o)) [
    | inl e ↦ rw e (owned_by s (owner_of k.owners o) (sym (was.objects o) ∙ e) ∙ ap Some (sym was.starter))
    | inr e ↦ rw e (sym (undoes.owners o ∙ ap (λ (b : Bool). if b then None else owner_of k.owners o) e))
  ]

  has_place : HasPlace prior (record t0 { log = led })
  has_place = record {
    low = subst (λ (n : ℕ). 1 ≤ n) (sym was.starter) bounds.0;
    slot = subst (λ (n : ℕ). n ≤ length prior.txns) (sym was.starter) (subst (λ (n : ℕ). s ≤ n) (sym (length-with_slot k.txns s None)) bounds.1);
    mark = subst (λ (n : ℕ). n ≤ length prior.marks) (sym was.starter) (subst (λ (n : ℕ). s ≤ n) (sym (length-with_slot k.marks s None)) fits.1);
    named = named_led;
  }

  again_here : IsTakenBack prior (undo.Begun (with_txn boxed (record t0 { log = led })) mark) stack k stack
  again_here = record {
    inverse = Begun starter;
    fits = has_place;
    redoes = (
      record {
        parts = ap (applied U) led_is ∙ laws.apply_again k.parts t0.log was.named;
        marks = ap (λ (n : ℕ). with_slot prior.marks n mark) was.starter ∙ slot_twice k.marks s None mark ∙ ap (with_slot k.marks s) mark_is ∙ slot_same k.marks s bounds.0;
        owners = owners_again;
        sized = shaped.owners;
        txns = ap (λ (n : ℕ). with_slot prior.txns n (Some (with_txn boxed (record t0 { log = exchanged U led })))) was.starter
            ∙ slot_twice k.txns s None (Some (with_txn boxed (record t0 { log = exchanged U led })))
            ∙ ap (λ (log : List Change). with_slot k.txns s (Some (with_txn boxed (record t0 { log = log })))) log_again
            ∙ ap (with_slot k.txns s) (sym there) ∙ slot_same k.txns s bounds.0;
      },
      (λ i. Begun (record { 0 = was.starter i })),
    );
    below = all_below stack;
    goes = fits;
    whole = tt;
    back = (boxed, record { there = there; parts = refl; marks = refl; owners = undoes.owners; sized = undoes.sized; txns = refl });
  }

  begun_here : IsTakenBack before (undo.Begun (with_txn boxed (record t0 { log = led })) mark) stack k stack
  begun_here = subst (λ (b : Content). IsTakenBack b (undo.Begun (with_txn boxed (record t0 { log = led })) mark) stack k stack) prior_is again_here

pub begun_again : LiveLaws → (k before : Content) (starter : Pid) (boxed : BoxedTxn) (txn : Txn) (led : List Change) (mark : Option Mark) (stack : List Change) →
    IsShaped k → GoesWith k (Begun starter) → slot_at k.txns starter.0 ≡ Some boxed → txn ≡ boxed.txn.value → led ≡ reverted k.parts txn.log → mark ≡ slot_at k.marks starter.0 →
    UndoesBegun k starter before boxed → IsTakenBack before (undo.Begun (with_txn boxed (record txn { log = led })) mark) stack k stack
begun_again laws k before starter boxed txn led mark stack shaped fits there is led_is mark_is undoes =
    subst (λ (t : Txn). led ≡ reverted k.parts t.log → IsTakenBack before (undo.Begun (with_txn boxed (record t { log = led })) mark) stack k stack) (sym is)
    (λ same. begun_here laws k before starter boxed led mark stack shaped fits there same mark_is undoes) led_is
