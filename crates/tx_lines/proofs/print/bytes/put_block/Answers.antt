use Rattle.std.proofs.Common.{w8}
use Rattle.std.proofs.lemmas.Simd.{below_from_Fits, chunk-fits}
use Rattle.tx_lines.proofs.HexLanes.{text_of_digits}
use Rattle.tx_lines.proofs.print.bytes.put_block.Goals as goal

pub digits_of-digits-requires-clause-fits : goal.digits_of-digits-requires-clause-fits
digits_of-digits-requires-clause-fits c = below_from_Fits w8 _ (chunk-fits w8 0 16 c.args.bytes.now c.type_inv.bytes)

pub unreachable-requires : goal.unreachable-requires
unreachable-requires c = c.in_default.ensures.cases.0 (text_of_digits _ _ c.digits_of-digits.ensures)
