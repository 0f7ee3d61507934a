-- The process that makes a step, with the transaction that it is a member of.
use Rattle.std.proofs.Common.{◌≡◌, ℕ, Bor, map, Option, Some, None, IsSome, is_some, option_map, true, refl, sym, ap, ◌∙◌}
use Rattle.std.specs.Option.{option_copied}
use Rattle.tx_base.specs.Slots.{slot_at}
use Rattle.tx_base.specs.declared.marks.Mark.{Mark}
use Rattle.tx_base.specs.declared.names.Pid.{Pid}
use Rattle.tx_step.proofs.Refusals.{marked_live}
use Rattle.tx_step.proofs.RolesTold.{inside_marked}
use Rattle.tx_kernel.specs.Actors.{CountsHeld, inside_of, transaction_of}
use Rattle.tx_kernel.specs.Plans.{sending_of}
use Rattle.tx_kernel.specs.declared.inside.Inside.{Inside}
use Rattle.tx_content.specs.Content.{content_of, held_in, held_of, txn_of, IsShaped, IsTxn}
use Rattle.tx_content.specs.declared.content.BoxedTxn.{BoxedTxn}
use Rattle.tx_content.specs.declared.content.Content.{Content}
use Rattle.tx_model.specs.Effects.{Inside as TheInside}
use Rattle.tx_model.specs.Membership.{inside_by}
use Rattle.tx_model.specs.Book.{member_sends}
use Rattle.tx_txn.specs.Content.{IsKept}
use Rattle.tx_txn.specs.Marks.{table_at}
use Rattle.tx_txn.specs.Txns.{inside_at}
use Rattle.tx_txn.specs.declared.txn.Txn.{Txn}

module _ (k : Content) (p : ℕ) (m : Mark) (boxed : BoxedTxn) (txn : Txn) (inside : Inside) (shaped : IsShaped k)
    (at : slot_at k.marks p ≡ Some m) (there : slot_at k.txns m.starter.0 ≡ Some boxed) (same : txn ≡ boxed.txn.value) (is : transaction_of inside ≡ inside_at txn k.marks) where
  -- its transaction is what the marks say
  pub inside_told : inside_of (Some inside) ≡ inside_by (table_at k.marks) (slot_at k.marks p)
  inside_told =
      ap Some is ∙ ap (λ (x : Txn). Some (inside_at x k.marks)) same
      ∙ inside_marked k p m boxed shaped at there ∙ ap (inside_by (table_at k.marks)) (sym at)

  -- and counts what its members sent
  pub counts_told : inside.held ≡ member_sends (map sending_of txn.outbox.sendings) → CountsHeld (Some inside) (held_of k)
  counts_told held =
      let was : IsTxn k m.starter.0 boxed.txn.value = shaped.each m.starter.0 boxed there in
      let starter : inside.starter.0 ≡ m.starter.0 = ap (λ (x : TheInside). x.starter) is ∙ ap (λ (x : Txn). x.starter.0) same ∙ was.starter in
      ap (λ (n : ℕ). member_sends (held_of k n)) starter
      ∙ ap (λ (slot : Option BoxedTxn). member_sends (held_in slot)) there
      ∙ ap (λ (x : Txn). member_sends (map sending_of x.outbox.sendings)) (sym same) ∙ sym held

-- a member's transaction is there
pub boxed_there : (k : Content) (pid : Pid) (m : Mark) → IsKept (content_of k) → slot_at k.marks pid.0 ≡ Some m → (found : Option (Bor BoxedTxn)) → option_copied found ≡ slot_at k.txns m.starter.0 → IsSome found
boxed_there k pid m kept at found is = copied found (ap is_some is ∙ there (slot_at k.txns m.starter.0) (kept.live m.starter.0 ∙ marked_live k pid m kept at))
  where
    there : (slot : Option BoxedTxn) → is_some (option_map txn_of slot) ≡ true → is_some slot ≡ true
    there None h = h
    there (Some boxed) h = refl

    copied : (x : Option (Bor BoxedTxn)) → is_some (option_copied x) ≡ true → IsSome x
    copied None h = h
    copied (Some b) h = refl
