-- Who has a side of a pipe open, as a member of an object.
use Rattle.std.specs.Prelude.{ℕ, List, [], ◌++◌, Option, Some, None, codes}
use Rattle.json.specs.Token.{Token}
use Rattle.tx_json.specs.Each.{each_tokens}
use Rattle.tx_json.specs.Members.{begin_object, count_member, end_object, list_member}
use Rattle.tx_json.specs.declared.holders.Holder.{Holder}

-- a descriptor of a process
abbrev pub holder_tokens : Holder → List Token
holder_tokens holder =
    begin_object
    ++ (count_member (codes "process") holder.process
    ++ (count_member (codes "descriptor") holder.descriptor ++ end_object))

-- a list of them, under that name
abbrev pub holders_member : List ℕ → List Holder → List Token
holders_member name holders = list_member name (each_tokens holder_tokens holders)

-- those that are open, if they were asked for
abbrev pub holders_members : Option (List Holder) → List Token
holders_members None = []
holders_members (Some holders) = holders_member (codes "holders") holders
