-- What JSON has of what is asked for, beside the lines of its text.
use Rattle.std.specs.Prelude.{ℕ, ◌+◌, ◌-◌, ◌&&◌, Bool, List, [], ◌∷◌, ◌++◌, Option, Some, None, codes, nat_le, reverse, slice_get, if◌then◌else◌}
use Rattle.json.specs.Token.{Token}
use Rattle.tx_base.specs.declared.steps.Accepted.{Accepted}
use Rattle.tx_base.specs.declared.steps.Reply.{Reply}
use Rattle.tx_base.specs.declared.steps.Step.{Step}
use Rattle.tx_journal.specs.Since.{Numbered}
use Rattle.tx_json.specs.Answers.{entry_answer}
use Rattle.tx_json.specs.Each.{each_tokens, upto}
use Rattle.tx_json.specs.Holders.{holders_members}
use Rattle.tx_json.specs.Lists.{count_item}
use Rattle.tx_json.specs.Members.{begin_object, count_member, end_object, list_member, null_member, object_key, word_member}
use Rattle.tx_json.specs.Replies.{reply_members}
use Rattle.tx_lines.specs.Lines.{step_text}
use Rattle.tx_model.specs.Membership.{is_live}
use Rattle.tx_model.specs.State.{State}
use Rattle.tx_model.specs.View.{View, view}
use Rattle.tx_shell.specs.Blockers.{blocked_by, Blocked}
use Rattle.tx_waits.specs.Holders.{awaited_by}
use Rattle.tx_shell.specs.Journals.{by_number}
use Rattle.tx_waits.specs.Kinds.{limit_of, list_of}
use Rattle.tx_shell.specs.Owners.{owns_one}
use Rattle.tx_shell.specs.Places.{Place}
use Rattle.tx_shell.specs.Reasons.{name_text}
use Rattle.tx_shell.specs.declared.questions.changes.Change.{Change}
use Rattle.tx_waits.specs.declared.kinds.Kind.{Kind}
use Rattle.tx_waits.specs.declared.kinds.Kind.TheVariants.{Processes, Descriptions, Pipes}

-- a step that was made: its number, its worker, which is 1, the step, and its reply
abbrev pub step_tokens : ℕ → Accepted → List Token
step_tokens number e = entry_answer number 1 (step_text e.step) e.reply

-- it, where its number is between those two
abbrev pub tokens_between : ℕ → ℕ → ℕ → Accepted → List Token
tokens_between first last number e =
    if nat_le first number && nat_le number last then step_tokens number e else []

-- the steps of those numbers
abbrev pub steps_member : Place → ℕ → ℕ → List Token
steps_member p first last =
    list_member (codes "steps") (by_number (tokens_between first last) 1 (reverse p.history))

-- a number, where it is listed
abbrev pub listed_item : (ℕ → Bool) → ℕ → List Token
listed_item listed number = if listed number then count_item number else []

module _ (V : View) where
  -- the numbers of a kind that the transaction of s has reserved
  abbrev pub owned_member : ℕ → Kind → List Token
  owned_member s kind =
      list_member (list_of kind) (upto (listed_item (owns_one V s kind)) (limit_of kind))

  -- the transaction of s, where it is live, and what it has reserved
  abbrev pub owner_item : ℕ → List Token
  owner_item s =
      if is_live V.table s
      then begin_object
      ++ (count_member (codes "starter") s
      ++ (owned_member s Processes
      ++ (owned_member s Descriptions ++ (owned_member s Pipes ++ end_object))))
      else []

  -- all live transactions, by their rising starters, or that of one
  abbrev pub owners_member : List Token
  owners_member = list_member (codes "owners") (upto (λ done. owner_item (done + 1)) V.table.width)

  abbrev pub owner_member : ℕ → List Token
  owner_member s = list_member (codes "owners") (owner_item s)

-- since which step, where one is found
abbrev pub since_members : Option Numbered → List Token
since_members None = []
since_members (Some first) = count_member (codes "since") first.number

-- an object in the way of a step
abbrev pub blocked_tokens : Blocked → List Token
blocked_tokens b =
    begin_object
    ++ (word_member (codes "object") (name_text b.kind b.number)
    ++ (count_member (codes "holder") b.owner ++ (since_members b.since ++ end_object)))

-- all of them, where there are some
abbrev pub blockers_members : List Blocked → List Token
blockers_members [] = []
blockers_members (first ∷ others) =
    list_member (codes "blockers") (each_tokens blocked_tokens (first ∷ others))

-- what a step would be answered after a history, what is in its way, and who could end its wait
abbrev pub why_members : State → List Accepted → Step → Reply → List Token
why_members S h step reply =
    reply_members reply
    ++ (blockers_members (blocked_by S h step reply)
    ++ holders_members (awaited_by (view S h) step reply))

-- the two positions that are compared, or that none are
abbrev pub compared_members : ℕ → ℕ → List Token
compared_members from to = count_member (codes "from") from ++ count_member (codes "to") to

abbrev pub not_compared_members : List Token
not_compared_members = null_member (codes "from") ++ null_member (codes "to")

-- the step of that number
abbrev pub made_member : ℕ → Option Accepted → List Token
made_member number None = null_member (codes "change")
made_member number (Some entry) = object_key (codes "change") ++ step_tokens number entry

-- the step directly before the position, where it was found to change a piece
abbrev pub change_member : Place → Option Change → List Token
change_member p None = null_member (codes "change")
change_member p (Some change) = made_member p.at (slice_get (reverse p.history) (p.at - 1))
