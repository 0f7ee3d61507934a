use Rattle.std.proofs.Common.{◌≡◌, ℕ, true, ◌&&◌, option_map, sym, ◌∙◌, arith, rules}
use Rattle.std.specs.Cmp.Derive.{both_true}
use Rattle.tx_core.proofs.LeastNumbers.{least_none, least_some}
use Rattle.tx_core.specs.Free.{desc_number}
use Rattle.tx_content.specs.Content.{view_of}
use Rattle.tx_model.specs.FreeNumbers.{is_free_description, is_other_than}
use Rattle.tx_core.proofs.free.least_description.Goals as goal

pub returns-then-is_free_description : goal.returns-then-is_free_description
returns-then-is_free_description c =
    let P = λ (n : ℕ). is_free_description (view_of c.args.content.now) c.args.pid.0 n && is_other_than (option_map desc_number c.args.other) n in
    let other : is_other_than (option_map desc_number c.args.other) c.loop-number.number ≡ true = search rules in
    let free : is_free_description (view_of c.args.content.now) c.args.pid.0 c.loop-number.number ≡ true = sym c.is_free_description.ensures ∙ c.if-is_free_description.true in
    least_some P 63 c.loop-number.number c.loop-number.invariant (both_true free other) (omega arith)

pub returns : goal.returns
returns c =
    least_none (λ n. is_free_description (view_of c.args.content.now) c.args.pid.0 n && is_other_than (option_map desc_number c.args.other) n) 63 (λ m below. c.loop-number.invariant m (omega (arith, below)))
