-- Limits on the lengths of an input and a script, and on the number of reads.
use Rattle.std.specs.Prelude.{ℕ}

-- the maximum number of bytes of an input
unfoldable pub most_input_bytes : ℕ
most_input_bytes = 33554432

-- the maximum number of bytes of a script
unfoldable pub most_script_bytes : ℕ
most_script_bytes = 16777216

-- the maximum number of reads of a run, interrupted ones included
unfoldable pub most_reads : ℕ
most_reads = 40000000
