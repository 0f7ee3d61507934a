-- What a range of bytes is wanted for.
use Rattle.std.specs.Prelude.{Bool, Option}
use Rattle.tx_model.specs.Memory.{PageView, is_mapped, is_writable}
use Rattle.tx_pages.specs.declared.access.Access.{Access}
use Rattle.tx_pages.specs.declared.access.Access.TheVariants.{Read, Write}

-- the test that a page has to pass
abbrev pub test_of : Access → Option PageView → Bool
test_of Read = is_mapped
test_of Write = is_writable
