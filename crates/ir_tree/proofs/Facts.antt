-- Preconditions on trees that are used in many places.
use Rattle.ir_tree.specs.Edits.{at, change_part, each_head}
use Rattle.ir_tree.specs.Ids.{first_of, ids, regions_ids}
use Rattle.ir_tree.specs.Tree.{HeadOf, OpOf, head, op, regions}
use Rattle.ir_tree.specs.declared.place.Part.{Part}
use Rattle.ir_tree.specs.declared.place.Part.TheVariants.{Attrs, Props}
use Rattle.std.proofs.Common.{List, None, Option, Some, cond, eqb, false, refl, true, ℕ, ◌&&◌, ◌++◌, ◌+◌, ◌<◌, ◌||◌, ◌∙◌, ◌∷◌, ◌≡◌, ◌⊎◌}

pub part_id : {N T A : Type 0} (x : ℕ) (part : Part) (f : List (N × A) → List (N × A)) (h : HeadOf N T A) → (at x (change_part part f) h).id ≡ h.id
part_id x part f h = elim (eqb h.id x) as (λ b. (cond b (change_part part f h) h).id ≡ h.id) [ true ↦ by part | false ↦ refl ]
  where
    by : (part : Part) → (change_part part f h).id ≡ h.id
    by Props = refl
    by Attrs = refl

pub part_operands : {N T A : Type 0} (x : ℕ) (part : Part) (f : List (N × A) → List (N × A)) (h : HeadOf N T A) → (at x (change_part part f) h).operands ≡ h.operands
part_operands x part f h = elim (eqb h.id x) as (λ b. (cond b (change_part part f h) h).operands ≡ h.operands) [ true ↦ by part | false ↦ refl ]
  where
    by : (part : Part) → (change_part part f h).operands ≡ h.operands
    by Props = refl
    by Attrs = refl

pub head_each : {N T A : Type 0} (f : HeadOf N T A → HeadOf N T A) (o : OpOf N T A) → head (each_head f o) ≡ f (head o)
head_each f (op h rs) = refl

pub first_none : {X : Type 0} (a : Option X) → first_of a None ≡ a
first_none None = refl
first_none (Some x) = refl

module _ {N T A : Type 0} where
  pub ids_head : (o : OpOf N T A) → ids o ≡ (head o).id ∷ regions_ids (regions o)
  ids_head (op h rs) = refl
