-- Operations that are erased one by one.
use Rattle.std.specs.Prelude.{◌≡◌, ◌⊎◌, ℕ, List, Result, Ok, Err}
use Rattle.ir_event.specs.types.declared.refusal.Refusal.{Refusal}
use Rattle.ir_event.specs.types.declared.refusal.Refusal.TheVariants.{Memory}
use Rattle.ir_event.specs.Modules.{Module}
use Rattle.conversion.specs.rewriter.Held.{TransactionModel, module_held, open_marks}
use Rattle.mlir_work_transforms.specs.Sweep.{all_erased}

-- all were erased, or one was refused for its reason or because memory ran out
abbrev pub AreErased : {A : Type 0} → List ℕ → Result A Refusal → Module → Module → Type 0
AreErased xs (Ok u) m after = all_erased xs m ≡ Ok after
AreErased xs (Err refusal) m after = (all_erased xs m ≡ Err refusal) ⊎ (refusal ≡ Memory)

-- the same for the rewriter; the context and the marks don't change
pub record Erases {A : Type 0} (xs : List ℕ) (result : Result A Refusal) (old new : TransactionModel) : Type 0 where
  pub ctx : new.ctx ≡ old.ctx
  pub erased : AreErased xs result (module_held old) (module_held new)
  pub marks : open_marks new ≡ open_marks old
