use Rattle.std.proofs.Common.{◌≡◌, ◌≢◌, ℕ, ◌<◌, ◌≤◌, ◌+◌, ◌∙◌, false, not, eqb, eqb-true, eq-eqb, get_or, length, List, sym, ap, arith, w8}
use Rattle.std.specs.List.{prefix_len}
use Rattle.std.proofs.lemmas.Simd.{bitmask_splat, length-chunk, none_from_empty_mask, run_in_chunk_fails, run_in_chunk_le, run_in_chunk_stops, trailing_mask_l}
use lib.Count.{count_trailing_zeros}
use lib.Lanes.{chunk, mask_l}
use Rattle.std.proofs.Common.{map}
use Rattle.tx_lines.proofs.read.search.others.Goals as goal

apart : (byte mark : ℕ) → eqb byte mark ≡ false → byte ≢ mark
apart byte mark other same = let is = eq-eqb byte mark same in cc (other, is)

-- the lowest set bit is that of the first byte of the kind
counted : (lanes : ℕ) (text : List ℕ) (at mark bits : ℕ) → lanes ≤ 64 → at + lanes ≤ length text → bits ≡ mask_l (map (λ byte. eqb byte mark) (chunk at lanes text)) → bits ≢ 0
    → count_trailing_zeros 64 bits ≡ prefix_len (λ byte. not (eqb byte mark)) (chunk at lanes text)
counted lanes text at mark bits few room hits some =
    let long = length-chunk at lanes text room in
    let more : 0 < mask_l (map (λ byte. eqb byte mark) (chunk at lanes text)) = omega (arith, some, hits) in
    ap (count_trailing_zeros 64) hits ∙ trailing_mask_l (λ byte. eqb byte mark) 64 (chunk at lanes text) (omega (arith, long)) more

pub returns-then-marks-eq0-clause-before : goal.returns-then-marks-eq0-clause-before
returns-then-marks-eq0-clause-before g c k from to =
    let text = c.args.text.now in
    let hits = bitmask_splat w8 eqb (chunk c.args.at g.row.LANES text) g.row.LANES c.args.mark (length-chunk c.args.at g.row.LANES text c.requires.inside) (omega (arith, c.requires.lanes)) in
    apart (get_or text k 0) c.args.mark (none_from_empty_mask (λ byte. eqb byte c.args.mark) text c.args.at g.row.LANES 0 c.requires.inside (sym hits ∙ c.if-marks-eq0.true) k from to)

pub returns-else-marks-eq0-clause-few : goal.returns-else-marks-eq0-clause-few
returns-else-marks-eq0-clause-few g c =
    let text = c.args.text.now in
    let hits = bitmask_splat w8 eqb (chunk c.args.at g.row.LANES text) g.row.LANES c.args.mark (length-chunk c.args.at g.row.LANES text c.requires.inside) (omega (arith, c.requires.lanes)) in
    run_in_chunk_le (λ byte. eqb byte c.args.mark) text c.args.at g.row.LANES _ 0 c.requires.inside (counted g.row.LANES text c.args.at c.args.mark _ c.requires.lanes c.requires.inside hits c.if-marks-eq0.false)

pub returns-else-marks-eq0-clause-before : goal.returns-else-marks-eq0-clause-before
returns-else-marks-eq0-clause-before g c k from to =
    let text = c.args.text.now in
    let hits = bitmask_splat w8 eqb (chunk c.args.at g.row.LANES text) g.row.LANES c.args.mark (length-chunk c.args.at g.row.LANES text c.requires.inside) (omega (arith, c.requires.lanes)) in
    apart (get_or text k 0) c.args.mark
    (run_in_chunk_fails (λ byte. eqb byte c.args.mark) text c.args.at g.row.LANES _ 0 c.requires.inside (counted g.row.LANES text c.args.at c.args.mark _ c.requires.lanes c.requires.inside hits c.if-marks-eq0.false) k from to)

pub returns-else-marks-eq0-clause-first : goal.returns-else-marks-eq0-clause-first
returns-else-marks-eq0-clause-first g c short =
    let text = c.args.text.now in
    let hits = bitmask_splat w8 eqb (chunk c.args.at g.row.LANES text) g.row.LANES c.args.mark (length-chunk c.args.at g.row.LANES text c.requires.inside) (omega (arith, c.requires.lanes)) in
    eqb-true _ c.args.mark
    (run_in_chunk_stops (λ byte. eqb byte c.args.mark) text c.args.at g.row.LANES _ 0 c.requires.inside (counted g.row.LANES text c.args.at c.args.mark _ c.requires.lanes c.requires.inside hits c.if-marks-eq0.false) short)
