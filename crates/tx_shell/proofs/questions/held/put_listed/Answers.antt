use Rattle.std.proofs.Common.{rules, ◌≡◌, ◌++◌, ◌∙◌, List, ℕ, append_assoc, codes, string_bytes}
use Rattle.std.proofs.lemmas.Result.{on_ok_weaker}
use Rattle.std.specs.Fmt.{decimal}
use Rattle.tx_shell.specs.Holders.{holder_text, next_text}
use Rattle.tx_shell.specs.Names.{after_number, named}
use Rattle.tx_state_text.specs.Each.{each_text}
use Rattle.tx_shell.proofs.questions.held.put_listed.Goals as goal

in_parts : (before word first others one two : List ℕ) → one ≡ before ++ (word ++ first) → two ≡ one ++ others → two ≡ before ++ (word ++ (first ++ others))
in_parts before word first others one two a b = search (rules, append_assoc)

pub returns : goal.returns
returns c =
    let before = string_bytes c.args.text.now in
    let names = named c.args.names in
    let first = c.args.first in
    on_ok_weaker c.put_others.result
    (λ put. in_parts before (codes "descriptor ") (holder_text names first) (each_text (next_text names) c.args.others.now) (string_bytes c.write.new.self) (string_bytes c.put_others.new.text)
    (c.in_ok-write.ensures.bytes ∙ (λ i. before ++ (codes "descriptor " ++ (decimal first.descriptor ++ (codes " of process " ++ (decimal first.process ++ after_number (c.of.ensures i))))))) put) c.put_others.ensures
