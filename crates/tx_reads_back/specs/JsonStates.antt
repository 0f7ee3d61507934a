-- What JSON says of a state.
use Rattle.std.specs.Prelude.{ℕ, zero, suc, ◌+◌, Bool, true, false, List, [], ◌∷◌, ◌++◌, map, Option, Some, None, if◌then◌else◌, nat_eq}
use Rattle.tx_base.specs.declared.marks.Mark.{Mark}
use Rattle.tx_reads_back.specs.StateTexts.{unsigned}
use Rattle.tx_model.specs.State.{Sending}
use Rattle.tx_model.specs.View.{View, present}
use Rattle.tx_reads_back.specs.ReadStates.{JsonState, JsonTxn}
use Rattle.tx_state_text.specs.Txns.{is_listed_in}

-- what is at each number below a limit, one after another
unfoldable pub gathered : {A : Type 0} → (ℕ → List A) → ℕ → List A
gathered more zero = []
gathered more (suc limit) = gathered more limit ++ more limit

-- the members of a transaction whose part has ended or not, by rising number
abbrev pub members_of : ℕ → (ℕ → Option Mark) → ℕ → Bool → List ℕ
members_of width marks starter ended =
    gathered (λ done. if is_listed_in (marks (done + 1)) starter ended then (done + 1) ∷ [] else [])
    width

abbrev pub txn_of : ℕ → (ℕ → Option Mark) → ℕ → Bool → List Sending → JsonTxn
txn_of width marks starter defers sendings = record {
  defers = defers;
  open_parts = members_of width marks starter false;
  ended_parts = members_of width marks starter true;
  held = map unsigned sendings;
}

-- the transaction of a mark, where that is its starter's
abbrev pub txn_in_json : ℕ → (ℕ → Option Mark) → ℕ → List Sending → Option Mark → Option JsonTxn
txn_in_json width marks starter sendings None = None
txn_in_json width marks starter sendings (Some mark) =
    if nat_eq mark.starter.0 starter
    then Some (txn_of width marks starter mark.defers sendings)
    else None

-- all but who sent what is held, and what the marks of members other than the starter say of
-- deferring
abbrev pub state_in_json : View → JsonState
state_in_json V = record {
  procs = (present V).procs;
  descs = (present V).descs;
  pipes = (present V).pipes;
  txns =
      λ starter.
      txn_in_json V.table.width V.table.marks starter ((present V).held starter)
      (V.table.marks starter);
}
