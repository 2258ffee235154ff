use Rattle.std.proofs.Common.{◌≡◌, length}
use Rattle.ir_event.specs.types.Things.{IsType}
use Rattle.ir_event.specs.types.Sound.{Holds}
use Rattle.ir_event.specs.types.Terms.{type_term}
use Rattle.patterns_soundness.specs.base.Made.{i64}
use Rattle.patterns_lowering.specs.Interning.{Added}
use Rattle.patterns_lowering.specs.Lowered.{IsLowering}
use Rattle.patterns_lowering.proofs.intern.lowered_entries.Given as goal

abbrev pub invariant-entries : goal.invariant-entries
invariant-entries g l = record {
  lowering : IsLowering l.bench.transaction.ctx l.fn.entries l.rest l.lowered.items;
  interned : Added g.L.Analysis.meaning l.initial.bench l.bench;
  holds : Holds l.bench.transaction.ctx;
  known : IsType l.bench.transaction.ctx l.fn.wide;
  is : type_term l.bench.transaction.ctx l.fn.wide ≡ i64;
}

abbrev pub decreases-entries : goal.decreases-entries
decreases-entries g l = length l.rest
