-- The edits of a plan, in a context that grew.
use Rattle.std.proofs.Common.{◌≡◌, ap, sym, ◌∙◌, subst, ℕ, List, map}
use Rattle.ir_event.specs.types.Things.{ContextModel, IsExtendedBy}
use Rattle.ir_event.specs.types.Sound.{Holds, IsSound}
use Rattle.ir_event.specs.types.Terms.{type_term}
use Rattle.ir_event.specs.trees.declared.place.Place.{Place}
use Rattle.ir_event.specs.trees.Tree.{Op, op, head}
use Rattle.ir_event.specs.trees.Meaning.{IsSoundIn, meaning}
use Rattle.ir_event.proofs.of_trees.Meanings.{stable, stays_sound}
use Rattle.patterns_soundness.specs.base.declared.edit.Edit.{Edit}
use Rattle.patterns_soundness.specs.base.Lists.{AllFit, edits_meaning}
use Rattle.patterns_soundness.specs.base.Lowering.{indices}
use Rattle.patterns_lowering.specs.Lowered.{AreLowered, AreTypes}
use Rattle.patterns_lowering.specs.Meanings.{operation_lowered}
use Rattle.patterns_lowering.specs.Numbers.{operation_edits}
use Rattle.patterns_lowering.specs.Plans.{IsIndexed}
use Rattle.patterns_lowering.specs.declared.plan.Indexed.{Indexed}
use Rattle.patterns_lowering.proofs.Fitting.{operation_fits}
use Rattle.patterns_lowering.proofs.Meant.{operation_meant}

results_stay : (c d : ContextModel) (o : Op) → Holds c → IsExtendedBy c d → IsSoundIn c o → map (type_term d) (head o).results ≡ map (type_term c) (head o).results
results_stay c d (op h rs) k g s = ap (λ o. (head o).results) (stable c d (op h rs) k g s)

pub indexed_stays : (c d : ContextModel) (i : Indexed) → Holds c → IsExtendedBy c d → IsIndexed c i → IsIndexed d i
indexed_stays c d i k g p = record {
  sound = stays_sound c d i.op g p.sound;
  fits = p.fits;
  operands = p.operands;
  results = p.results ∙ sym (ap indices (results_stay c d i.op k g p.sound));
}

module _ (c d : ContextModel) (i : Indexed) (holds : Holds c) (sound : IsSound d) (g : IsExtendedBy c d) (p : IsIndexed c i) (wide index : ℕ) (fs : List (ℕ × ℕ)) (types : AreTypes d wide index) (are : AreLowered d (head i.op).properties fs) (n : ℕ) (insertion : Place) (es : List Edit) where
  -- the edits were built in a context e, with ids from m on
  abbrev pub Built : ContextModel → ℕ → Type 0
  Built e m = es ≡ operation_edits e wide index fs m insertion i.index_operands.items i.index_results.items i.op

  built : (e : ContextModel) (m : ℕ) → e ≡ d → m ≡ n → Built e m → Built d n
  built e m same next is = subst (Built d) next (subst (λ (f : ContextModel). Built f m) same is)

  pub operation_stands : (e : ContextModel) (m : ℕ) → e ≡ d → m ≡ n → Built e m → edits_meaning d es ≡ operation_lowered n insertion i.index_operands.items i.index_results.items (meaning c i.op)
  operation_stands e m same next is =
      ap (edits_meaning d) (built e m same next is)
      ∙ operation_meant d wide index fs n insertion i.index_operands.items i.index_results.items i.op sound types are
      ∙ ap (operation_lowered n insertion i.index_operands.items i.index_results.items) (stable c d i.op holds g p.sound)

  pub operation_fitting : (e : ContextModel) (m : ℕ) → e ≡ d → m ≡ n → Built e m → AllFit d es
  operation_fitting e m same next is =
      subst (AllFit d) (sym (built e m same next is))
      (operation_fits d wide index fs n insertion i.index_operands.items i.index_results.items i.op sound.holds types are (stays_sound c d i.op g p.sound))
