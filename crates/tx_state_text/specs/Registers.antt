-- The text of registers.
use Rattle.std.specs.Prelude.{ℤ, pos, Bool, List, [], ◌∷◌, ◌++◌, codes, ℕ, if◌then◌else◌}
use Rattle.std.specs.List.{list_all}
use Rattle.std.specs.Ordering.{int_eq}
use Rattle.std.specs.Fmt.{decimal, signed_decimal}
use Rattle.tx_base.specs.declared.names.Regs.{Regs}
use Rattle.tx_state_text.specs.Each.{each_text}

-- the end of a running process's line
abbrev pub run_text : Regs → List ℕ
run_text regs =
    codes " run point "
    ++ (decimal regs.point ++ (codes " ret " ++ (signed_decimal regs.ret ++ 10 ∷ [])))

-- the number in a slot
abbrev pub slot_text : ℤ → List ℕ
slot_text slot = 32 ∷ signed_decimal slot

-- the numbers in the slots, and the end of the line
abbrev pub slots_end : List ℤ → List ℕ
slots_end slots = each_text slot_text slots ++ 10 ∷ []

-- whether every slot is 0
abbrev pub is_blank_of : List ℤ → Bool
is_blank_of slots = list_all (λ slot. int_eq slot (pos 0)) slots

-- the line of the slots, where one is not 0
abbrev pub slots_line : List ℤ → List ℕ
slots_line slots = if is_blank_of slots then [] else codes "slots" ++ slots_end slots
