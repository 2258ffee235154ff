-- Two values of the IR state have one type exactly if their type ids are equal. So the reasons against a replacement
-- agree.
use Rattle.std.proofs.Common.{◌≡◌, ◌∙◌, sym, ap, refl, ℕ, Bool, true, false, eqb, Option, Some, None}
use Rattle.std.specs.Prelude.{◌==◌, is_some}
use Rattle.std.specs.Option.{option_eq}
use Rattle.ir_event.specs.types.Sound.{IsSound}
use Rattle.ir_event.specs.types.Things.{IsType}
use Rattle.ir_event.specs.types.Terms.{type_term}
use Rattle.ir_event.specs.types.declared.refusal.Refusal.{Refusal}
use Rattle.ir_event.specs.types.declared.refusal.Refusal.TheVariants.{NoSuchValue, TypeDiffers, NotVisible}
use Rattle.ir_event.specs.trees.declared.value.Value.{Value}
use Rattle.ir_event.specs.trees.Meaning.{isolated_in}
use Rattle.ir_event.specs.tree_laws.Values.{type_of_value}
use Rattle.ir_event.specs.tree_laws.Reasons.{unless, is_visible_to_users}
use Rattle.ir_event.specs.declared.world.World.{World}
use Rattle.ir_event.proofs.Typed.{value_known}
use Rattle.rewriter.specs.Contents.{tests_in}
use Rattle.rewriter.specs.Edits.{replace_reason}
use Rattle.ir_event.specs.types.SameTypes.{same_type}
use Rattle.ir_event.proofs.of_types.SameTerms.{same_numbers}

module _ (w : World) (sound : IsSound w.ctx) (old new : Value) where
  -- both are values, and their types are these
  module _ (a b : ℕ) (one : type_of_value old w.store.module_of.tree ≡ Some a) (other : type_of_value new w.store.module_of.tree ≡ Some b) where
    typed : option_eq (tests_in w.ctx).same_type (type_of_value old w.store.module_of.tree) (type_of_value new w.store.module_of.tree) ≡ (a == b)
    typed = (λ i. option_eq (tests_in w.ctx).same_type (one i) (other i)) ∙ sym (same_numbers w.ctx a b sound (value_known w old a one) (value_known w new b other))

    pub typed_reason : (t s : Bool) → (a == b) ≡ t → is_visible_to_users (isolated_in w.ctx) old new w.store.module_of.tree ≡ s → replace_reason (tests_in w.ctx) old new w.store.module_of.tree ≡ unless t TypeDiffers (unless s NotVisible None)
    typed_reason t s e f =
        λ i. unless (is_some (one i)) NoSuchValue (unless (is_some (other i)) NoSuchValue (unless ((typed ∙ e) i) TypeDiffers (unless (f i) NotVisible None)))
