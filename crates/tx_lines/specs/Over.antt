-- The counts of the ends over a reader and a writer.
use Rattle.tx_lines.specs.Ends.{Counts}
use Rattle.tx_lines.specs.declared.ends.over.OverRead.{OverRead}
use Rattle.tx_lines.specs.declared.ends.over.OverWrite.{OverWrite}

-- nothing was counted so far
abbrev pub no_counts : Counts
no_counts = record { again = 0; failed = 0; empty = 0 }

-- a reader has no count of its own of reads that gave no byte
abbrev pub read_counts : {R : Type 0} → OverRead R → Counts
read_counts source = record { again = source.again; failed = source.failed; empty = 0 }

abbrev pub write_counts : {W : Type 0} → OverWrite W → Counts
write_counts sink = record { again = sink.again; failed = sink.failed; empty = sink.empty }
