use Rattle.std.proofs.Common.{◌≡◌, ◌+◌, ◌%◌, ◌≤◌, ◌++◌, ◌∙◌, List, ℕ, ap, arith, string_bytes, sym}
use Rattle.tx_lines.proofs.Numerals.{front_is}
use Rattle.tx_lines.specs.Numerals.{front_text}
use Rattle.tx_lines.proofs.print.numerals.Numeral.raise_front.Goals as goal

pub invariant_of-self-2 : goal.invariant_of-self-2
invariant_of-self-2 c =
    let next : ℕ = c.self.inside.number + 1 in
    let nine : c.self.inside.number % 10 ≡ 9 = omega arith in
    let large : 10 ≤ next = omega arith in
    let front : string_bytes c.push_str.new.self ≡ front_text next =
    c.in_ok-push_str.ensures.bytes ∙ ap (λ (t : List ℕ). t ++ c.format.result.now) c.clear.ensures.bytes ∙ c.format.ensures.text ∙ sym (front_is next large) in
    (front, omega arith, omega arith)
