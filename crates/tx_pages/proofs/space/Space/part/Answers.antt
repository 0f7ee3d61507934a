use Rattle.std.proofs.Common.{◌≡◌, ◌+◌, ◌-◌, ◌/◌, ◌%◌, length, take, drop, None, Some, arith, sym, ◌∙◌}
use Rattle.std.proofs.lemmas.List.{take-replicate}
use Rattle.tx_model.specs.Memory.{page_at}
use Rattle.tx_pages.proofs.Ranges.{bytes_from_all, bytes_from_rest, page_bytes, page_zeros}
use Rattle.tx_pages.proofs.space.Space.part.Goals as goal

pub returns-in-Some-clause-bytes : goal.returns-in-Some-clause-bytes
returns-in-Some-clause-bytes c =
    let there : page_at c.args.self.now (c.args.address / 64) ≡ Some c.in-Some.page.now = sym c.in-Some.ensures in
    let sized : length c.in-Some.page.now.bytes ≡ 64 = c.bytes.ensures.count in
    let count : c.args.address % 64 + c.min-count.result - c.args.address % 64 ≡ c.min-count.result = omega arith in
    bytes_from_all c.args.self.now c.args.address c.min-count.result _
    ((λ i. take (count i) (drop (c.args.address % 64) (c.bytes.ensures.bytes i)))
    ∙ sym (page_bytes c.args.self.now c.in-Some.page.now c.args.address c.min-count.result there sized (omega (arith, c.min-count.ensures))))

pub returns-in-None-clause-bytes : goal.returns-in-None-clause-bytes
returns-in-None-clause-bytes c =
    let there : page_at c.args.self.now (c.args.address / 64) ≡ None = sym c.in-None.ensures in
    bytes_from_all c.args.self.now c.args.address c.min-count.result _
    (take-replicate c.min-count.result 64 0 (omega (arith, c.min-count.ensures))
    ∙ sym (page_zeros c.args.self.now c.args.address c.min-count.result there (omega (arith, c.min-count.ensures))))

pub returns-in-Some-clause-rest : goal.returns-in-Some-clause-rest
returns-in-Some-clause-rest c = bytes_from_rest c.args.self.now c.args.address _ (returns-in-Some-clause-bytes c)

pub returns-in-None-clause-rest : goal.returns-in-None-clause-rest
returns-in-None-clause-rest c = bytes_from_rest c.args.self.now c.args.address _ (returns-in-None-clause-bytes c)
