-- Facts of parts and of their exchange. They are proved here, so nobody has to believe them.
use Rattle.std.proofs.Common.{◌≡◌, Option, Some, None, option_map, ap, refl, ◌∙◌, length-set}
use Rattle.tx_desc.specs.Places.{number_in}
use Rattle.tx_proc.specs.Laws.{IsSized}
use Rattle.tx_proc.specs.Parts.{edited_once, part_of, process_of, process_in, revised, HasPlace}
use Rattle.tx_proc.specs.declared.proc.Part.{Part}
use Rattle.tx_proc.specs.declared.proc.Part.TheVariants.{Answer, Register, Page, Descriptor, Action}
use Rattle.tx_proc.specs.declared.proc.Proc.{Proc}

-- an exchanged part has the same number
pub place_of_part : (proc : Proc) (part : Part) → HasPlace part → HasPlace (part_of proc part)
place_of_part proc (Register slot) place = place
place_of_part proc (Page number page) place = place
place_of_part proc (Descriptor number name) place = place
place_of_part proc part place = tt

-- a process still has a place for each number
pub still_sized : (proc : Proc) (part : Part) → IsSized proc → IsSized (edited_once proc part)
still_sized proc (Register slot) sized =
    record {
      slots = length-set proc.regs.slots slot.number slot.value ∙ sized.slots;
      pages = sized.pages;
      descriptors = sized.descriptors;
      actions = sized.actions;
    }
still_sized proc (Page number page) sized =
    record {
      slots = sized.slots;
      pages = length-set proc.space number page ∙ sized.pages;
      descriptors = sized.descriptors;
      actions = sized.actions;
    }
still_sized proc (Descriptor number name) sized =
    record {
      slots = sized.slots;
      pages = sized.pages;
      descriptors = length-set proc.descriptors number (number_in name) ∙ sized.descriptors;
      actions = sized.actions;
    }
still_sized proc (Action signo action) sized =
    record {
      slots = sized.slots;
      pages = sized.pages;
      descriptors = sized.descriptors;
      actions = length-set proc.actions signo.0 action ∙ sized.actions;
    }
still_sized proc part sized =
    record {
      slots = sized.slots;
      pages = sized.pages;
      descriptors = sized.descriptors;
      actions = sized.actions;
    }

-- what an exchange makes of the process that the rules have
pub revised_of : (proc : Proc) (part : Part)
    → process_of (edited_once proc part) ≡ revised part (process_of proc)
revised_of proc (Answer answer) = refl
revised_of proc part = refl

pub revised_in : (slot : Option Proc) (part : Part)
    → process_in (option_map (λ proc. edited_once proc part) slot)
    ≡ option_map (λ me. revised part me) (process_in slot)
revised_in None part = refl
revised_in (Some proc) part = ap Some (revised_of proc part)
