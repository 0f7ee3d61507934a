-- The kinds of objects, as states spell them.
use Rattle.std.specs.Prelude.{ℕ, List, codes}
use Rattle.tx_model.specs.State.{Object, Proc, Desc, Pipe}
use Rattle.tx_waits.specs.declared.kinds.Kind.{Kind}
use Rattle.tx_waits.specs.declared.kinds.Kind.TheVariants.{Processes, Descriptions, Pipes}

-- the object of a kind and a number
abbrev pub object_in : Kind → ℕ → Object
object_in Processes number = Proc number
object_in Descriptions number = Desc number
object_in Pipes number = Pipe number

-- numbers of a kind are below this: processes 1 to 256, descriptions 0 to 63, pipes 0 to 31
abbrev pub limit_of : Kind → ℕ
limit_of Processes = 257
limit_of Descriptions = 64
limit_of Pipes = 32

-- what an object of a kind is called
abbrev pub word_of : Kind → List ℕ
word_of Processes = codes "proc "
word_of Descriptions = codes "desc "
word_of Pipes = codes "pipe "

-- what JSON calls the list of the objects of a kind
abbrev pub list_of : Kind → List ℕ
list_of Processes = codes "procs"
list_of Descriptions = codes "descs"
list_of Pipes = codes "pipes"
