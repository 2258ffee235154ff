use Rattle.std.proofs.Common.{◌≡◌, ◌+◌, length}
use Rattle.std.specs.List.{prefix_len}
use Rattle.ir_text_tokens.specs.Bytes.{class_test}
use Rattle.ir_text_tokens.proofs.runs.run_len.Given as goal

abbrev pub invariant-fours : goal.invariant-fours
invariant-fours l = record {
  same : l.len + prefix_len (class_test l.class) l.rest ≡ prefix_len (class_test l.class) l.bytes;
  whole : l.len + length l.rest ≡ length l.bytes;
}

abbrev pub decreases-fours : goal.decreases-fours
decreases-fours l = length l.rest
