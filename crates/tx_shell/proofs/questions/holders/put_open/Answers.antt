use Rattle.std.proofs.Common.{rules, ◌≡◌, List, ℕ, [], ◌∷◌, ◌++◌, ◌∙◌, append_assoc, codes, string_bytes}
use Rattle.std.proofs.lemmas.Result.{on_ok_weaker}
use Rattle.std.specs.Fmt.{decimal}
use Rattle.tx_desc.specs.Descriptions.{end_for}
use Rattle.tx_shell.specs.Holders.{holder_text, next_text, side_word}
use Rattle.tx_shell.specs.Names.{after_number, named}
use Rattle.tx_state_text.specs.Each.{each_text}
use Rattle.tx_shell.proofs.questions.holders.put_open.Goals as goal

-- what is put in three parts
in_parts : (before its side opens first others end one two three : List ℕ) → one ≡ before ++ (its ++ (side ++ (opens ++ first))) → two ≡ one ++ others → three ≡ two ++ end
    → three ≡ before ++ (its ++ (side ++ (opens ++ (first ++ (others ++ end)))))
in_parts before its side opens first others end one two three a b c = search (rules, append_assoc)

pub returns : goal.returns
returns c =
    let before = string_bytes c.args.text.now in
    let names = named c.args.names in
    let first = c.args.first in
    on_ok_weaker c.put.result
    (λ put. in_parts before (codes "its ") (side_word (end_for c.args.side)) (codes " side is open: descriptor ") (holder_text names first) (each_text (next_text names) c.args.others.now) (10 ∷ [])
    (string_bytes c.write.new.self) (string_bytes c.put_others.new.text) (string_bytes c.put.new.text)
    (c.in_ok-write.ensures.bytes ∙ (λ i. before ++ (codes "its " ++ (c.word.ensures i ++ (codes " side is open: descriptor " ++ (decimal first.descriptor ++ (codes " of process " ++ (decimal first.process ++ after_number (c.of.ensures i)))))))))
    c.in_ok-put_others.ensures put) c.put.ensures
