-- What the table of live transactions becomes, where a `&mut` to one of them is returned.
use Rattle.std.specs.Prelude.{ℕ, List, Option, Some}
use Rattle.std.specs.Borrow.{Lends, Fml, MutBor}
use Rattle.tx_base.specs.Slots.{with_slot}
use Rattle.tx_content.specs.contracts.content.BoxedTxn.{the_row as the_boxed_row}
use Rattle.tx_content.specs.contracts.table.TxnTable.{the_row}
use Rattle.tx_content.specs.declared.content.BoxedTxn.{BoxedTxn}

-- once the borrow r ends, the starter's transaction is the last value written through r
abbrev pub lends_txn : MutBor (List (Option BoxedTxn)) → ℕ → MutBor BoxedTxn → Fml
lends_txn s n r = Lends the_row the_boxed_row s r (λ w. with_slot s.now n (Some w))
