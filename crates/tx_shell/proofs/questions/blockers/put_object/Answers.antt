use Rattle.std.proofs.Common.{rules, ◌≡◌, List, ℕ, [], ◌∷◌, ◌++◌, ◌∙◌, append_assoc, codes, option_map, string_bytes}
use Rattle.std.proofs.lemmas.Result.{on_ok_weaker}
use Rattle.std.specs.Fmt.{decimal}
use Rattle.tx_journal.specs.Since.{numbered}
use Rattle.tx_waits.specs.Kinds.{word_of}
use Rattle.tx_shell.specs.Names.{after_number, kind_name, named}
use Rattle.tx_shell.specs.Reasons.{since_text}
use Rattle.tx_shell.proofs.questions.blockers.put_object.Goals as goal

-- what is put in three parts
in_parts : (before word number name between owner of has since end one two three : List ℕ) → one ≡ before ++ (word ++ (number ++ (name ++ (between ++ (owner ++ (of ++ has)))))) → two ≡ one ++ since → three ≡ two ++ end
    → three ≡ before ++ ((word ++ number) ++ (name ++ (between ++ (owner ++ (of ++ (has ++ (since ++ end)))))))
in_parts before word number name between owner of has since end one two three first second third = search (rules, append_assoc)

pub returns : goal.returns
returns c =
    let blocker = c.args.blocker in
    let before = string_bytes c.args.text.now in
    let names = named c.args.names in
    let number : List ℕ = decimal blocker.number in
    let owner : List ℕ = decimal blocker.owner.0 in
    on_ok_weaker c.put.result
    (λ put. in_parts before (word_of blocker.kind) number (after_number (kind_name names blocker.kind blocker.number)) (codes ": the transaction of ") owner (after_number (names blocker.owner.0)) (codes " has it")
    (since_text names (option_map numbered blocker.since)) (10 ∷ []) (string_bytes c.write.new.self) (string_bytes c.put_since.new.text) (string_bytes c.put.new.text)
    (c.in_ok-write.ensures.bytes ∙ (λ i. before ++ (c.word.ensures i ++ (number ++ (after_number (c.of_object.ensures i) ++ (codes ": the transaction of " ++ (owner ++ (after_number (c.of.ensures i) ++ codes " has it"))))))))
    c.in_ok-put_since.ensures put) c.put.ensures
