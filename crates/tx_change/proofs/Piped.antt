-- Two exchanges of bytes of a pipe number are nothing.
use Rattle.std.proofs.Common.{◌≡◌, ℕ, List, Option, Some, None, ap, refl}
use Rattle.tx_change.specs.PartLaws.{PartLaws}
use Rattle.tx_change.specs.Pipes.{piped_in, part_in}
use Rattle.tx_change.specs.declared.pipes.PipePart.{PipePart}
use Rattle.tx_change.specs.declared.pipes.PipePart.TheVariants.{Whole, Front, Back}

pub piped_twice : (laws : PartLaws) (pipe : Option (List ℕ)) (part : PipePart) → piped_in (piped_in pipe part) (part_in pipe part) ≡ pipe
piped_twice laws pipe (Whole kept) = refl
piped_twice laws None (Front count bytes) = refl
piped_twice laws None (Back count bytes) = refl
piped_twice laws (Some held) (Front count bytes) = ap Some (laws.front count bytes held).0
piped_twice laws (Some held) (Back count bytes) = ap Some (laws.behind count bytes held).0

pub pipe_part_twice : (laws : PartLaws) (pipe : Option (List ℕ)) (part : PipePart) → part_in (piped_in pipe part) (part_in pipe part) ≡ part
pipe_part_twice laws pipe (Whole kept) = refl
pipe_part_twice laws None (Front count bytes) = refl
pipe_part_twice laws None (Back count bytes) = refl
pipe_part_twice laws (Some held) (Front count bytes) = let twice = laws.front count bytes held in (λ i. Front (twice.2 i) (twice.1 i))
pipe_part_twice laws (Some held) (Back count bytes) = let twice = laws.behind count bytes held in (λ i. Back (twice.2 i) (twice.1 i))
