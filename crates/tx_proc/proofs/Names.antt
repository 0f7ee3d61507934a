-- The description that a descriptor names, as the code has it.
use Rattle.std.proofs.Common.{◌≡◌, ℕ, Option, Some, None, ap, refl}
use Rattle.tx_base.specs.declared.names.DescNo.{DescNo}
use Rattle.tx_desc.specs.Places.{number_in}
use Rattle.tx_proc.specs.Parts.{desc_in}

pub desc_same : (name : Option DescNo) → desc_in (number_in name) ≡ name
desc_same None = refl
desc_same (Some d) = refl

pub desc_back : (name : Option DescNo) (number : Option ℕ) → number_in name ≡ number → name ≡ desc_in number
desc_back None number is = ap desc_in is
desc_back (Some d) number is = ap desc_in is

-- the number of a description that the code names
pub number_back : (number : Option ℕ) → number_in (desc_in number) ≡ number
number_back None = refl
number_back (Some d) = refl
