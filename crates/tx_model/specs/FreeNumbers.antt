-- The least numbers that a process may choose. Own rules.
use Rattle.std.specs.Prelude.{ℕ, ◌-◌, Bool, true, not, ◌&&◌, Option, Some, None, is_some, is_none, ◌==◌}
use Rattle.tx_base.specs.declared.limits.TheConstants.{DESCRIPTIONS, PIPES}
use Rattle.tx_model.specs.State.{Object, Proc, Desc, Pipe, is_between}
use Rattle.tx_model.specs.Membership.{is_live, is_member_of}
use Rattle.tx_model.specs.View.{View, present, least}

-- whether the object is reserved by a live transaction that the process is no member of
abbrev pub is_reserved_from : View → ℕ → Object → Bool
is_reserved_from V p o =
    is_some
    (least (λ s. is_live V.table s && (not (is_member_of V.table s p) && V.reserved s o))
    V.table.width)

abbrev pub is_free_process : View → ℕ → ℕ → Bool
is_free_process V p n =
    is_between V.table.width n
    && (is_none ((present V).procs n) && not (is_reserved_from V p (Proc n)))

abbrev pub is_free_pipe : View → ℕ → ℕ → Bool
is_free_pipe V p k = is_none ((present V).pipes k) && not (is_reserved_from V p (Pipe k))

abbrev pub is_free_description : View → ℕ → ℕ → Bool
is_free_description V p d = is_none ((present V).descs d) && not (is_reserved_from V p (Desc d))

-- two different numbers, the lower first
abbrev pub with_second : Option ℕ → Option ℕ → Option (ℕ × ℕ)
with_second None second = None
with_second (Some d) None = None
with_second (Some d) (Some e) = Some (d, e)

abbrev pub is_other_than : Option ℕ → ℕ → Bool
is_other_than None n = true
is_other_than (Some m) n = not (n == m)

-- the two least descriptions that are free
abbrev pub least_two : (ℕ → Bool) → ℕ → Option (ℕ × ℕ)
least_two P last =
    with_second (least P last) (least (λ n. P n && is_other_than (least P last) n) last)

-- the least numbers that are free (pipes are 0 to 31, descriptions 0 to 63), and reserved by no
-- transaction of others: a process, a pipe, and two descriptions
pub record Free : Type 0 where
  pub proc : Option ℕ
  pub pipe : Option ℕ
  pub descs : Option (ℕ × ℕ)

abbrev pub free_numbers : View → ℕ → Free
free_numbers V p = record {
  proc = least (is_free_process V p) V.table.width;
  pipe = least (is_free_pipe V p) (PIPES - 1);
  descs = least_two (is_free_description V p) (DESCRIPTIONS - 1);
}
