use Rattle.std.proofs.Common.{◌≡◌, ◌∙◌, true, false, ap, refl, sym}
use Rattle.tx_check.specs.Kinds.{debug_ahead, has_debug, is_program_head}
use Rattle.tx_check.proofs.SoFar.{debug_after}
use Rattle.tx_lines.specs.Schedule.{first_line}
use Rattle.tx_translate.specs.MeantLines.{left_of}
use Rattle.tx_check.proofs.kinds.kind_of.Goals as goal

pub returns-then-has_debug : goal.returns-then-has_debug
returns-then-has_debug c =
    let text = left_of c.args.text in
    let next = c.cut.ensures.line in
    let line : c.meaning.result.now ≡ first_line text = c.meaning.ensures ∙ next.bytes in
    let other : is_program_head (first_line text) ≡ false = ap is_program_head (sym line) ∙ sym c.is_program_head.ensures ∙ c.if-is_program_head.false in
    let some : has_debug text ≡ true = debug_after text ∙ ap debug_ahead (sym next.behind) ∙ sym c.has_debug.ensures ∙ c.if-has_debug.true in
    rw (other, some) refl

pub returns : goal.returns
returns c =
    let text = left_of c.args.text in
    let next = c.cut.ensures.line in
    let line : c.meaning.result.now ≡ first_line text = c.meaning.ensures ∙ next.bytes in
    let other : is_program_head (first_line text) ≡ false = ap is_program_head (sym line) ∙ sym c.is_program_head.ensures ∙ c.if-is_program_head.false in
    let none : has_debug text ≡ false = debug_after text ∙ ap debug_ahead (sym next.behind) ∙ sym c.has_debug.ensures ∙ c.if-has_debug.false in
    rw (other, none) refl
