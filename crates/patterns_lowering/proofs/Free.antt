-- Edits that aren't refused fail only if memory runs out.
use Rattle.std.proofs.Common.{◌≡◌, sym, ◌∙◌, subst, List, [], ◌∷◌, ◌++◌, Some, None, inl, inr}
use Rattle.ir_event.specs.types.declared.refusal.Refusal.{Refusal}
use Rattle.ir_event.specs.types.declared.refusal.Refusal.TheVariants.{Memory}
use Rattle.ir_event.specs.Modules.{Module}
use Rattle.patterns_soundness.specs.base.Contents.{Edit, all_edited, edit_reason, edited}
use Rattle.patterns_soundness.specs.base.Lists.{Free, IsWhy}
use Rattle.patterns_soundness.proofs.of_base.Free.{free_why}

-- an edit of the list isn't refused after the edits before it
free_among : (made : List Edit) (e : Edit) (rest : List Edit) (m : Module) → Free (made ++ e ∷ rest) m → edit_reason e (all_edited made m) ≡ None
free_among [] e rest m free = free.0
free_among (d ∷ made) e rest m free = free_among made e rest (edited d m) free.1
