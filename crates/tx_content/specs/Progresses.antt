-- What a step inside a transaction does to its members.
use Rattle.std.specs.Prelude.{ℕ, ◌≤◌}
use Rattle.tx_content.specs.declared.marking.Member.{Member}
use Rattle.tx_content.specs.declared.marking.Progress.{Progress as TheProgress}
use Rattle.tx_content.specs.declared.marking.Progress.TheVariants as the
use Rattle.tx_model.specs.Membership.{Progress, Continues, Parks, Forks, Role, Within}

-- the same, as the definitions have it
abbrev pub part_of : TheProgress → Progress
part_of the.Continues = Continues
part_of the.Parks = Parks
part_of (the.Forks child) = Forks child.0

-- the role of a step that a member makes
abbrev pub role_of : Member → Role
role_of member = Within member.starter.0 (part_of member.progress)

-- a child that joins has a number in range
abbrev pub HasChild : ℕ → TheProgress → Type 0
HasChild width the.Continues = Unit {0}
HasChild width the.Parks = Unit {0}
HasChild width (the.Forks child) = (1 ≤ child.0) × (child.0 ≤ width)
