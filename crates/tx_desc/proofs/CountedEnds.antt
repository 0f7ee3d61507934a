-- The counts of the ends of pipes, where no description is there.
use Rattle.std.proofs.Common.{◌≡◌, ℕ, ◌<◌, List, Option, None, count_by, length, replicate, arith, ap, sym, ◌∙◌}
use Rattle.std.proofs.lemmas.List.{get_or-replicate}
use Rattle.std.proofs.lemmas.List.Folds.{sum_by-replicate}
use Rattle.tx_desc.specs.declared.opened.Opened.{Opened}
use Rattle.tx_desc.specs.declared.opened.Side.{Side}
use Rattle.tx_desc.specs.declared.opened.Side.TheVariants.{Read, Write}
use Rattle.tx_desc.specs.Descriptions.{is_end_of}
use Rattle.tx_desc.specs.EndCounts.{IsCounted, count_at, end_number, one_of}

none_there : (side : Side) (k : ℕ) → count_by (is_end_of side k) (replicate 64 None) ≡ 0
none_there side k = sum_by-replicate (one_of side k) 64 None

none_at : (side : Side) (k : ℕ) → k < 256 → count_at side k (replicate 512 0) ≡ 0
none_at Read k small = get_or-replicate 512 (end_number Read k) 0 0 (omega arith)
none_at Write k small = get_or-replicate 512 (end_number Write k) 0 0 (omega arith)

pub none_counted : (D : List (Option Opened)) (counts : List ℕ) → D ≡ replicate 64 None → counts ≡ replicate 512 0 → IsCounted D counts
none_counted D counts empty zeros = record {
  sized = ap length empty;
  each = λ side k small. ap (count_at side k) zeros ∙ none_at side k small ∙ sym (none_there side k) ∙ ap (count_by (is_end_of side k)) (sym empty);
}
