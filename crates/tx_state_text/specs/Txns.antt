-- The text of the live transactions.
use Rattle.std.specs.Prelude.{ℕ, zero, suc, ◌+◌, Bool, true, false, not, List, [], ◌∷◌, ◌++◌, codes, Option, Some, None, nat_eq, if◌then◌else◌}
use Rattle.std.specs.Fmt.{decimal, signed_decimal}
use Rattle.tx_base.specs.declared.marks.Mark.{Mark}
use Rattle.tx_model.specs.State.{Sending}
use Rattle.tx_state_text.specs.Each.{each_text, upto}
use Rattle.tx_lines.specs.Lists.{member_text, some_after}

-- whether two answers are the same
abbrev pub same_answer : Bool → Bool → Bool
same_answer true b = b
same_answer false b = not b

-- whether the mark is one of that starter's transaction, with its part ended or not
abbrev pub is_listed_in : Option Mark → ℕ → Bool → Bool
is_listed_in None starter ended = false
is_listed_in (Some mark) starter ended =
    if nat_eq mark.starter.0 starter then same_answer mark.ended ended else false

-- whether one of the first n numbers is listed
abbrev pub some_of : (ℕ → Bool) → ℕ → Bool
some_of listed zero = false
some_of listed (suc count) = some_after (some_of listed count) (listed count)

-- those of the first n numbers that are listed, joined by commas. The first number is 1
unfoldable pub listed_text : (ℕ → Bool) → ℕ → List ℕ
listed_text listed count =
    upto (λ done. member_text (some_of listed done) (listed done) (done + 1)) count

-- the members of a transaction whose part has ended or not
abbrev pub members_text : ℕ → (ℕ → Option Mark) → ℕ → Bool → List ℕ
members_text width marks starter ended =
    let listed = λ (done : ℕ). is_listed_in (marks (done + 1)) starter ended in
    listed_text listed width ++ (if some_of listed width then [] else codes "-")

-- what is between a transaction's starter and its first list
abbrev pub flag_of : Bool → List ℕ
flag_of true = codes " defer open "
flag_of false = codes " open "

-- the line of a transaction
abbrev pub txn_text : ℕ → (ℕ → Option Mark) → ℕ → Bool → List ℕ
txn_text width marks starter defers =
    codes "txn "
    ++ (decimal starter
    ++ (flag_of defers
    ++ (members_text width marks starter false
    ++ (codes " ended " ++ (members_text width marks starter true ++ 10 ∷ [])))))

-- the line of a send that is held: its target, its signal and its value
abbrev pub held_text : Sending → List ℕ
held_text sending =
    codes "held "
    ++ (decimal sending.target ++ 58
    ∷ (decimal sending.signo ++ 58 ∷ (signed_decimal sending.value ++ 10 ∷ [])))

-- the lines of the sends that a transaction holds, in order
abbrev pub helds_text : List Sending → List ℕ
helds_text sendings = each_text held_text sendings

-- the lines of a mark, where it is that of a transaction's starter: the transaction, and what it
-- holds
abbrev pub mark_text : ℕ → (ℕ → Option Mark) → ℕ → List Sending → Option Mark → List ℕ
mark_text width marks number sendings None = []
mark_text width marks number sendings (Some mark) =
    if nat_eq mark.starter.0 number
    then txn_text width marks number mark.defers ++ helds_text sendings
    else []

-- the lines of a starter's transaction: none where the process has begun none
abbrev pub txn_lines : ℕ → (ℕ → Option Mark) → (ℕ → List Sending) → ℕ → List ℕ
txn_lines width marks held number = mark_text width marks number (held number) (marks number)

-- the lines of all live transactions, by their rising starters
abbrev pub txns_text : ℕ → (ℕ → Option Mark) → (ℕ → List Sending) → List ℕ
txns_text width marks held = upto (λ done. txn_lines width marks held (done + 1)) width
