use Rattle.std.proofs.Common.{◌≡◌, ◌++◌, ◌-◌, List, ℕ, arith, drop, length, length-drop, string_bytes, subst, sym, take}
use Rattle.std.proofs.lemmas.List.{take_all}
use Rattle.std.specs.Result.{OnOk}
use Rattle.hex.specs.Hex.{encode_lower}
use Rattle.tx_lines.proofs.HexLanes.{block_more}
use Rattle.tx_lines.proofs.print.bytes.put_digits.Goals as goal

pub loop-rest-preserved : goal.loop-rest-preserved
loop-rest-preserved c =
    let rest = c.loop-rest.rest.now in
    let whole : take (length rest - 16) (drop 16 rest) ≡ drop 16 rest = take_all (length rest - 16) (drop 16 rest) (omega (arith, length-drop 16 rest)) in
    subst (λ (r : List ℕ). string_bytes c.args.text.now ++ encode_lower c.args.bytes.now ≡ string_bytes c.put_block.new.text ++ encode_lower r) (sym whole)
    (block_more 16 (string_bytes c.args.text.now) (string_bytes c.loop-rest.text) (string_bytes c.put_block.new.text) c.args.bytes.now rest c.loop-rest.invariant c.in_ok-put_block.ensures)

pub returns : goal.returns
returns c = subst (λ text. OnOk c.put_each.result (string_bytes c.put_each.new.text ≡ text)) (sym c.loop-rest.invariant) c.put_each.ensures
