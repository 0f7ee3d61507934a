-- Who has reserved an object from a process.
use Rattle.std.specs.Prelude.{ℕ, not, ◌&&◌, Option}
use Rattle.tx_model.specs.Membership.{is_live, is_member_of}
use Rattle.tx_model.specs.State.{Object}
use Rattle.tx_model.specs.View.{View, least}

-- the starter of the live transaction that has reserved the object and that the process is not in
abbrev pub other_owner : View → ℕ → Object → Option ℕ
other_owner V p o =
    least (λ s. is_live V.table s && (not (is_member_of V.table s p) && V.reserved s o))
    V.table.width
