use Rattle.std.proofs.Common.{◌≡◌, ◌≤◌, ◌⊎◌, List, ℕ, length, true}
use Rattle.std.specs.Prelude.{IfSome}
use Rattle.std.specs.Io.KnownBytes.{Consumes}
use Rattle.mlir_work_script_base.specs.Limits.{most_input_bytes}
use Rattle.mlir_work_script_base.specs.Reads.{AreMade}
use Rattle.mlir_work_script_base.proofs.input.read_all.Given as goal

-- the bytes read so far are a prefix of the input, and are in the buffer unless memory ran out; each read gave at
-- least one byte or was interrupted
abbrev pub invariant-loop-made : goal.invariant-loop-made
invariant-loop-made g l = record {
  preceding : List ℕ;
  taken : Consumes (g.R.Source.intake l.initial.reader).remaining (g.R.Source.intake l.reader).remaining preceding;
  failed : (g.R.Source.intake l.reader).failed ≡ (g.R.Source.intake l.initial.reader).failed;
  made : AreMade (g.R.Source.intake l.initial.reader).reads (g.R.Source.intake l.reader).reads l._made;
  counted : l.count ≡ length preceding;
  gave : (l._made ≤ l.count) ⊎ ((g.R.Source.intake l.reader).interrupted ≡ true);
  within : length preceding ≤ most_input_bytes;
  kept : IfSome l.kept (λ all. all.items ≡ preceding);
}
