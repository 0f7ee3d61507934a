-- The live transactions.
use Rattle.std.specs.Prelude.{ℕ, ◌+◌, Bool, true, false, List, [], ◌++◌, codes, Option, Some, None, nat_eq, if◌then◌else◌}
use Rattle.json.specs.Token.{Token}
use Rattle.tx_base.specs.declared.marks.Mark.{Mark}
use Rattle.tx_json.specs.Each.{each_tokens, upto}
use Rattle.tx_json.specs.Lists.{count_item}
use Rattle.tx_json.specs.Members.{begin_object, count_member, end_object, flag_member, list_member, number_member}
use Rattle.tx_model.specs.State.{Sending}
use Rattle.tx_state_text.specs.Txns.{is_listed_in}

-- a member, where its mark is one of that transaction and its part has ended or not
abbrev pub member_item : (ℕ → Option Mark) → ℕ → Bool → ℕ → List Token
member_item marks starter ended number =
    if is_listed_in (marks number) starter ended then count_item number else []

-- the members of a transaction whose part has ended or not, by rising number
abbrev pub members_list : List ℕ → ℕ → (ℕ → Option Mark) → ℕ → Bool → List Token
members_list name width marks starter ended =
    list_member name (upto (λ done. member_item marks starter ended (done + 1)) width)

-- a send that is held
abbrev pub held_item : Sending → List Token
held_item sending =
    begin_object
    ++ (count_member (codes "target") sending.target
    ++ (count_member (codes "signo") sending.signo
    ++ (number_member (codes "value") sending.value ++ end_object)))

-- the sends that a transaction holds, in order
abbrev pub held_list : List Sending → List Token
held_list sendings = list_member (codes "held") (each_tokens held_item sendings)

-- its members, and what it holds
abbrev pub txn_lists : ℕ → (ℕ → Option Mark) → ℕ → List Sending → List Token
txn_lists width marks starter sendings =
    members_list (codes "open") width marks starter false
    ++ (members_list (codes "ended") width marks starter true ++ held_list sendings)

-- a transaction
abbrev pub txn_item : ℕ → (ℕ → Option Mark) → ℕ → Bool → List Sending → List Token
txn_item width marks starter defers sendings =
    begin_object
    ++ (count_member (codes "txn") starter
    ++ (flag_member (codes "defers") defers
    ++ (txn_lists width marks starter sendings ++ end_object)))

-- the transaction of a mark, where that is its starter's
abbrev pub mark_item : ℕ → (ℕ → Option Mark) → ℕ → List Sending → Option Mark → List Token
mark_item width marks number sendings None = []
mark_item width marks number sendings (Some mark) =
    if nat_eq mark.starter.0 number then txn_item width marks number mark.defers sendings else []

-- the live transactions, by their rising starters
abbrev pub txns_member : ℕ → (ℕ → Option Mark) → (ℕ → List Sending) → List Token
txns_member width marks held =
    list_member (codes "txns")
    (upto (λ done. mark_item width marks (done + 1) (held (done + 1)) (marks (done + 1))) width)
