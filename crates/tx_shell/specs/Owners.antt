-- What live transactions have reserved, as it is reported.
use Rattle.std.specs.Prelude.{ℕ, zero, suc, ◌+◌, Bool, false, true, List, [], ◌∷◌, ◌++◌, codes, if◌then◌else◌}
use Rattle.std.specs.Fmt.{decimal}
use Rattle.tx_model.specs.Membership.{is_live}
use Rattle.tx_model.specs.View.{View}
use Rattle.tx_waits.specs.Kinds.{limit_of, object_in, word_of}
use Rattle.tx_shell.specs.Names.{after_number, kind_name, Names}
use Rattle.tx_waits.specs.declared.kinds.Kind.{Kind}
use Rattle.tx_waits.specs.declared.kinds.Kind.TheVariants.{Processes, Descriptions, Pipes}
use Rattle.tx_state_text.specs.Each.{upto}

-- the number of an object, and after that of a process its name
abbrev pub number_said : Names → Kind → ℕ → List ℕ
number_said names kind number = decimal number ++ after_number (kind_name names kind number)

-- numbers as they are printed, each after a comma
abbrev pub more_said : (ℕ → List ℕ) → List ℕ → List ℕ
more_said say [] = []
more_said say (number ∷ numbers) = 44 ∷ (say number ++ more_said say numbers)

-- numbers as they are printed, joined by commas, or `-` for none
abbrev pub list_said : (ℕ → List ℕ) → List ℕ → List ℕ
list_said say [] = codes "-"
list_said say (number ∷ numbers) = say number ++ more_said say numbers

-- one that is listed, after a comma where it is not the first
abbrev pub member_said : Bool → Bool → List ℕ → List ℕ
member_said some false said = []
member_said true true said = 44 ∷ said
member_said false true said = said

-- the numbers below a limit that are listed, in rising order
unfoldable pub listed_below : (ℕ → Bool) → ℕ → List ℕ
listed_below listed zero = []
listed_below listed (suc limit) =
    listed_below listed limit ++ (if listed limit then limit ∷ [] else [])

-- whether the transaction of s has reserved the object of a kind and a number
abbrev pub owns_one : View → ℕ → Kind → ℕ → Bool
owns_one V s kind number = V.reserved s (object_in kind number)

module _ (names : Names) (V : View) where
  -- the numbers of a kind that it has, after a space and the word for the kind
  abbrev pub owned_text : ℕ → Kind → List ℕ
  owned_text s kind =
      32
      ∷ (word_of kind
      ++ list_said (number_said names kind) (listed_below (owns_one V s kind) (limit_of kind)))

  -- the line of the transaction that process s began, where one is live
  abbrev pub owner_line : ℕ → List ℕ
  owner_line s =
      if is_live V.table s
      then codes "owns "
      ++ (decimal s
      ++ (after_number (names s)
      ++ (owned_text s Processes
      ++ (owned_text s Descriptions ++ (owned_text s Pipes ++ 10 ∷ []))))) else []

  -- the lines of all live transactions, by their rising starters
  abbrev pub owner_lines : List ℕ
  owner_lines = upto (λ done. owner_line (done + 1)) V.table.width

-- the lines, and where there is none, that no transaction is live
abbrev pub or_no_transaction : List ℕ → List ℕ
or_no_transaction [] = codes "no transaction\n"
or_no_transaction (byte ∷ bytes) = byte ∷ bytes
