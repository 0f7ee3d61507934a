-- Where bytes are.
use Rattle.std.specs.Prelude.{ℕ, ◌+◌, ◌%◌, ℤ, Bool, false, Some, None, nat_le, nat_lt, ◌&&◌}
use Rattle.tx_base.specs.declared.limits.TheConstants.{PAGE_BYTES}
use Rattle.tx_model.specs.Memory.{address_of}

-- whether so many bytes from an address on are some, all on one page
abbrev pub are_on_page : ℤ → ℕ → Bool
are_on_page address count =
    elim (address_of address) [
      | None ↦ false
      | Some first ↦ nat_lt 0 count && nat_le (first % PAGE_BYTES + count) PAGE_BYTES
    ]
