use Rattle.std.proofs.Common.{rules, ◌≡◌, ◌+◌, ◌%◌, ◌<◌, ◌++◌, ◌∷◌, [], ◌∙◌, List, ℕ, ap, append_assoc, arith, string_bytes, sym}
use Rattle.std.specs.Fmt.{decimal}
use Rattle.tx_lines.proofs.Numerals.{last_apart}
use Rattle.tx_lines.proofs.print.numerals.Numeral.append_to.Goals as goal

pub returns : goal.returns
returns c =
    let number : ℕ = c.self.inside.number in
    let last : ℕ = c.self.inside.last in
    let held = c.self.invariant in
    let spelled : decimal c.args.self.now ≡ c.as_str.result.now ++ last ∷ [] =
    ap decimal (sym c.self.view_is) ∙ last_apart number held.2 ∙ ap (λ (t : List ℕ). t ++ (48 + number % 10) ∷ []) (sym held.0 ∙ sym c.as_str.ensures.value)
    ∙ ap (λ (n : ℕ). c.as_str.result.now ++ n ∷ []) (sym held.1) in
    let ascii : last < 128 = omega (arith, held.1) in
    let pushed = c.push.ensures.ascii ascii in
    rw (spelled, ← append_assoc (string_bytes c.args.text.now) c.as_str.result.now (last ∷ [])) (search (rules, pushed))
