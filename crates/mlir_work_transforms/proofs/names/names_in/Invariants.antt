use Rattle.std.proofs.Common.{◌≡◌, ◌++◌, List, ℕ}
use Rattle.std.specs.Option.{option_copied}
use Rattle.mlir_work_script_base.specs.Items.{items_after}
use Rattle.mlir_work_script_base.proofs.Listed.{left_of}
use Rattle.mlir_work_transforms.specs.Interned.{AreNumbers, Interned}
use Rattle.mlir_work_transforms.proofs.names.names_in.Given as goal

-- the names so far are interned, and with the remaining names they are all names of the list
abbrev pub invariant-items : goal.invariant-items
invariant-items g l = record {
  interned : Interned g.L.Analysis.meaning l.initial.bench l.bench;
  done : List (List ℕ);
  named : AreNumbers l.bench.transaction.ctx l.numbers done;
  whole : done ++ items_after (option_copied l.rest) ≡ items_after (option_copied l.fn.names);
}

abbrev pub decreases-items : goal.decreases-items
decreases-items g l = left_of (option_copied l.rest)
