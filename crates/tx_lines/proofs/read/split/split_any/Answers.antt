use Rattle.std.proofs.Common.{◌≡◌, ◌∙◌, sym, ap, refl, Some, ◌∷◌, ◌++◌}
use Rattle.std.specs.Prelude.{FitsSigned}
use Rattle.std.specs.Int.{w64}
use Rattle.std.proofs.lemmas.Int.{to_z-of_z}
use Rattle.std.specs.Fmt.{signed_decimal}
use Rattle.tx_lines.specs.Words.{first_word}
use Rattle.tx_lines.proofs.FirstWord.{parts_at-word, free_signed, split_parts, same_parts}
use Rattle.tx_lines.proofs.read.split.split_any.Goals as goal

pub returns-in_err-first-clause-only : goal.returns-in_err-first-clause-only
returns-in_err-first-clause-only c z rest fits e =
    let parts = parts_at-word 32 (signed_decimal z) rest (free_signed z fits) in cc (parts, c.in_err-first.ensures)

pub returns-in_err-number-clause-only : goal.returns-in_err-number-clause-only
returns-in_err-number-clause-only c z rest fits e =
    let same = same_parts (c.in_ok-first.first.now, c.in_ok-first.rest.now) (signed_decimal z, rest) (c.in_ok-first.ensures ∙ ap first_word e ∙ parts_at-word 32 (signed_decimal z) rest (free_signed z fits)) in
    let none = c.in_err-number.ensures.only z fits same.0 in
    cc none

pub returns-clause-only : goal.returns-clause-only
returns-clause-only c z rest fits e =
    let same = same_parts (c.in_ok-first.first.now, c.in_ok-first.rest.now) (signed_decimal z, rest) (c.in_ok-first.ensures ∙ ap first_word e ∙ parts_at-word 32 (signed_decimal z) rest (free_signed z fits)) in
    let spelled : Some c.in_ok-number.number ≡ Some z = c.in_ok-number.ensures.only z fits same.0 in
    let here : c.in_ok-number.number ≡ z = cc in
    let fits' : FitsSigned w64 c.in_ok-number.number = rw here fits in
    (to_z-of_z w64 c.in_ok-number.number fits' ∙ here, same.1)

pub returns-clause-found : goal.returns-clause-found
returns-clause-found c =
    let whole : c.args.line.now ≡ c.in_ok-first.first.now ++ 32 ∷ c.in_ok-first.rest.now = split_parts 32 c.args.line.now c.in_ok-first.first.now c.in_ok-first.rest.now (sym c.in_ok-first.ensures) in
    let fits : FitsSigned w64 c.in_ok-number.number = c.in_ok-number.ensures.fits in
    let spelled : c.in_ok-first.first.now ≡ signed_decimal c.in_ok-number.number = c.in_ok-number.ensures.found in
    simp to_z-of_z (whole ∙ rw spelled refl)
