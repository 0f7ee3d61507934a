-- Descriptors of which none is open.
use Rattle.std.proofs.Common.{◌≡◌, ℕ, List, [], ◌∷◌, Option, Some, None, map, Bool, true, false, is_some, refl, sym}
use Rattle.std.specs.Bool.{OnFalse}
use Rattle.std.specs.List.{list_any}
use Rattle.tx_base.specs.declared.names.DescNo.{DescNo}
use Rattle.tx_desc.specs.Counts.{count_in}
use Rattle.tx_desc.specs.Descriptions.{recounted}
use Rattle.tx_desc.specs.Places.{number_in}
use Rattle.tx_desc.specs.declared.counts.Names.{Names}
use Rattle.tx_desc.specs.declared.counts.Names.TheVariants.{More, Fewer}
use Rattle.tx_desc.specs.declared.opened.Opened.{Opened}

none_counted : (places : List (Option DescNo)) (d : ℕ) → list_any (λ place. is_some place) places ≡ false → count_in d (map number_in places) ≡ 0
none_counted [] d none = refl
none_counted (None ∷ places) d none = none_counted places d none
none_counted (Some name ∷ places) d none = let never : ⊥ = cc in absurd never

pub vacant : (has : Bool) (places : List (Option DescNo)) → has ≡ list_any (λ place. is_some place) places → OnFalse has ((d : ℕ) → count_in d (map number_in places) ≡ 0)
vacant true places is = tt
vacant false places is = λ d. none_counted places d (sym is)

pub recounted_none : (names : Names) (place : Option Opened) → recounted names 0 place ≡ place
recounted_none More place = refl
recounted_none Fewer place = refl
