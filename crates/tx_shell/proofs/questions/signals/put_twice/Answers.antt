use Rattle.std.proofs.Common.{rules, ◌≡◌, ◌++◌, List, ℕ, ℤ, FitsSigned, codes, string_bytes, w64, ◌∙◌, ap, append_assoc}
use Rattle.std.proofs.lemmas.Int.{to_z-of_z}
use Rattle.std.proofs.lemmas.Result.{on_ok_weaker}
use Rattle.std.specs.Fmt.{decimal}
use Rattle.tx_shell.specs.Names.{after_number, named}
use Rattle.tx_shell.specs.Reasons.{named_text}
use Rattle.tx_shell.proofs.questions.signals.put_twice.Goals as goal

five_put : (old one two three four five a b c d e : List ℕ) → one ≡ old ++ a → two ≡ one ++ b → three ≡ two ++ c → four ≡ three ++ d → five ≡ four ++ e → five ≡ old ++ (a ++ (b ++ (c ++ (d ++ e))))
five_put old one two three four five a b c d e first second third fourth fifth = search (rules, append_assoc)

pub returns : goal.returns
returns c =
    let answers = c.args.answers in
    let s = c.args.starter.0 in
    let present : FitsSigned w64 answers.present = search rules in
    let after : FitsSigned w64 answers.after_abort = search rules in
    let one = string_bytes c.write.new.self in
    let three = string_bytes c.put.new.text in
    let four = string_bytes c.put_named-2.new.text in
    let name : List ℕ = after_number (named c.args.names s) in
    let asked : List ℕ → List ℕ = λ given. codes "signal " ++ (decimal answers.signo.0 ++ (codes " to " ++ (decimal s ++ (given ++ codes ": it would be answered ")))) in
    let aborted : List ℕ → List ℕ = λ given. codes " if the transaction of " ++ (decimal s ++ (given ++ codes " were aborted\n")) in
    on_ok_weaker c.write-2.result
    (λ put. five_put (string_bytes c.args.text.now) one (string_bytes c.put_named.new.text) three four (string_bytes c.write-2.new.self) (asked name) (named_text answers.present) (codes " now, and ")
    (named_text answers.after_abort) (aborted name) (c.in_ok-write.ensures.bytes ∙ (λ i. string_bytes c.args.text.now ++ asked (after_number (c.of.ensures i))))
    (c.in_ok-put_named.ensures ∙ ap (λ (z : ℤ). one ++ named_text z) (to_z-of_z w64 answers.present present)) c.in_ok-put.ensures
    (c.in_ok-put_named-2.ensures ∙ ap (λ (z : ℤ). three ++ named_text z) (to_z-of_z w64 answers.after_abort after)) (put ∙ (λ i. four ++ aborted (after_number (c.of.ensures i))))) c.write-2.ensures.bytes
