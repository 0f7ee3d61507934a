-- The numbers of the errors, and errors as answers.
use Rattle.std.specs.Prelude.{ℕ, zero, suc, ℤ, pos, negsuc}
use Rattle.tx_base.specs.declared.errors.Errno.{Errno}
use Rattle.tx_base.specs.declared.errors.Errno.TheVariants.{NotPermitted, NoSuchProcess, BadDescriptor, NoChild, TryAgain, BadAddress, InvalidArgument, TooManyDescriptors, BrokenPipe}

-- the number that stands for an error
abbrev pub error_number : Errno → ℕ
error_number NotPermitted = 1
error_number NoSuchProcess = 3
error_number BadDescriptor = 9
error_number NoChild = 10
error_number TryAgain = 11
error_number BadAddress = 14
error_number InvalidArgument = 22
error_number TooManyDescriptors = 24
error_number BrokenPipe = 32

-- a number as its negative
abbrev pub negative : ℕ → ℤ
negative zero = pos 0
negative (suc n) = negsuc n

-- an error as an answer
abbrev pub error_answer : Errno → ℤ
error_answer errno = negative (error_number errno)
