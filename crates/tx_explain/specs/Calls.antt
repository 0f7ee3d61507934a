-- The word of each call, of each refusal and of each error.
use Rattle.std.specs.Prelude.{codes}
use Rattle.tx_base.specs.declared.errors.Errno.{Errno}
use Rattle.tx_base.specs.declared.errors.Errno.TheVariants.{NotPermitted, NoSuchProcess, BadDescriptor, NoChild, TryAgain, BadAddress, InvalidArgument, TooManyDescriptors, BrokenPipe}
use Rattle.tx_base.specs.declared.steps.Call.{Call}
use Rattle.tx_explain.specs.Table.{Text}
use Rattle.tx_lines.specs.Calls.{parts_of}
pub use Rattle.tx_lines.specs.Refusals.{refusal_word}

abbrev pub call_word : Call → Text
call_word call = (parts_of call).0

abbrev pub error_name : Errno → Text
error_name NotPermitted = codes "EPERM"
error_name NoSuchProcess = codes "ESRCH"
error_name BadDescriptor = codes "EBADF"
error_name NoChild = codes "ECHILD"
error_name TryAgain = codes "EAGAIN"
error_name BadAddress = codes "EFAULT"
error_name InvalidArgument = codes "EINVAL"
error_name TooManyDescriptors = codes "EMFILE"
error_name BrokenPipe = codes "EPIPE"
