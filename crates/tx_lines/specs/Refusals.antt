-- What refusals are called.
use Rattle.std.specs.Prelude.{ℕ, List, codes}
use Rattle.tx_base.specs.declared.steps.Refusal.{Refusal}
use Rattle.tx_base.specs.declared.steps.Refusal.TheVariants.{NoProcess, NotRunning, BadNumber, NumberTaken, Doomed, Parked, KillPending, Busy, Wait, NotDeliverable, FramesFull, NoTransaction, NoMemory, Deferred}

abbrev pub refusal_word : Refusal → List ℕ
refusal_word NoProcess = codes "N1"
refusal_word NotRunning = codes "N2"
refusal_word BadNumber = codes "N3"
refusal_word NumberTaken = codes "N4"
refusal_word Doomed = codes "N5"
refusal_word Parked = codes "N6"
refusal_word KillPending = codes "N7"
refusal_word (Busy starter_in_way) = codes "N8"
refusal_word Wait = codes "N9"
refusal_word NotDeliverable = codes "N10"
refusal_word FramesFull = codes "N11"
refusal_word NoTransaction = codes "N12"
refusal_word NoMemory = codes "N13"
refusal_word Deferred = codes "N14"
