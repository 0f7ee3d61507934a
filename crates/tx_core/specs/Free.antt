-- The least free numbers, as the definitions have them.
use Rattle.std.specs.Prelude.{ℕ, option_map}
use Rattle.tx_base.specs.declared.names.DescNo.{DescNo}
use Rattle.tx_base.specs.declared.names.PipeNo.{PipeNo}
use Rattle.tx_core.specs.declared.free.Free.{Free}
use Rattle.tx_model.specs.FreeNumbers.{Free as TheFree}
use Rattle.tx_reserve.specs.Reservations.{number_of}

-- the number of a pipe, and of a description
abbrev pub pipe_number : PipeNo → ℕ
pipe_number pipe = pipe.0

abbrev pub desc_number : DescNo → ℕ
desc_number desc = desc.0

abbrev pub desc_numbers : DescNo × DescNo → ℕ × ℕ
desc_numbers pair = (desc_number pair.0, desc_number pair.1)

-- the numbers, as the definitions have them
abbrev pub free_as : Free → TheFree
free_as free = record {
  proc = option_map number_of free.proc;
  pipe = option_map pipe_number free.pipe;
  descs = option_map desc_numbers free.descs;
}
