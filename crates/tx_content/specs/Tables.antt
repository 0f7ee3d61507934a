-- How many transactions are live.
use Rattle.std.specs.Prelude.{◌≡◌, ◌<◌, ◌^◌, ℕ, List, Option, count_by, is_some, length}
use Rattle.tx_content.specs.declared.content.BoxedTxn.{BoxedTxn}

abbrev pub live_count : List (Option BoxedTxn) → ℕ
live_count slots = count_by is_some slots

-- this many slots have one; there are no more slots than process numbers
pub record IsCounted (slots : List (Option BoxedTxn)) (live : ℕ) : Type 0 where
  pub count : live ≡ live_count slots
  pub few : length slots < 2 ^ 16
