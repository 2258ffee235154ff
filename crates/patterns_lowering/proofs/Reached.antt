-- Values of a world.
use Rattle.std.proofs.Common.{◌≡◌, ap, sym, ◌∙◌, ℕ, Bool, false, Option, Some, None}
use Rattle.std.specs.Prelude.{option_map}
use Rattle.std.specs.Option.{option_eq}
use Rattle.ir_event.specs.types.Terms.{Index, name_term, type_term, attr_term}
use Rattle.ir_event.specs.types.SameTypes.{same_type}
use Rattle.ir_event.specs.types.Things.{IsType}
use Rattle.ir_event.specs.trees.declared.value.Value.{Value}
use Rattle.ir_event.specs.tree_laws.Values.{type_of_value}
use Rattle.ir_event.proofs.of_tree_laws.Contents.{map_type_of_value}
use Rattle.ir_event.specs.declared.world.World.{World}
use Rattle.ir_event.specs.Modules.{module_in}
use Rattle.ir_event.proofs.Typed.{value_known}
use Rattle.patterns_soundness.specs.base.Looks.{is_index, is_index_value}

-- whether a value has type index
in_contents : (w : World) (v : Value) (r : Option ℕ) → r ≡ type_of_value v w.store.module_of.tree → option_eq same_type (option_map (type_term w.ctx) r) (Some Index) ≡ is_index_value (module_in w).tree v
in_contents w v r e = ap (λ q. option_eq same_type q (Some Index)) (ap (option_map (type_term w.ctx)) e ∙ sym (map_type_of_value (name_term w.ctx) (type_term w.ctx) (attr_term w.ctx) v w.store.module_of.tree))

pub no_index : (w : World) (v : Value) (r : Option ℕ) → r ≡ type_of_value v w.store.module_of.tree → r ≡ None → false ≡ is_index_value (module_in w).tree v
no_index w v r e f = sym (ap (λ q. option_eq same_type (option_map (type_term w.ctx) q) (Some Index)) f) ∙ in_contents w v r e

pub index_at : (w : World) (v : Value) (r : Option ℕ) (n : ℕ) (b : Bool) → r ≡ type_of_value v w.store.module_of.tree → r ≡ Some n → b ≡ is_index (type_term w.ctx n) → b ≡ is_index_value (module_in w).tree v
index_at w v r n b e f h = h ∙ sym (ap (λ q. option_eq same_type (option_map (type_term w.ctx) q) (Some Index)) f) ∙ in_contents w v r e

pub typed_at : (w : World) (v : Value) (r : Option ℕ) (n : ℕ) → r ≡ type_of_value v w.store.module_of.tree → r ≡ Some n → IsType w.ctx n
typed_at w v r n e f = value_known w v n (sym e ∙ f)
