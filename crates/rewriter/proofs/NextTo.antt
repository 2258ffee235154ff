-- The values of a module, as the text of an operation may use them.
use Rattle.std.proofs.Common.{◌≡◌, ◌∙◌, ap, sym, refl, ℕ, List, Option, Some, None, subst}
use Rattle.std.specs.Prelude.{option_map, option_and_then, IfOk, IfSome, Result, Ok, Err}
use Rattle.ir_text.specs.declared.error.ReadError.{ReadError}
use Rattle.ir_event.specs.types.Things.{ContextModel, IsType}
use Rattle.ir_event.specs.types.Terms.{name_term, type_term, attr_term}
use Rattle.ir_event.specs.trees.declared.value.Value.{Value}
use Rattle.ir_event.specs.trees.Tree.{Op}
use Rattle.ir_event.specs.trees.Ids.{IsNumberedFrom}
use Rattle.ir_event.specs.trees.Meaning.{Operation, meaning}
use Rattle.ir_event.proofs.of_trees.Mapped.{map_ids}
use Rattle.ir_event.specs.tree_laws.Values.{type_of_value}
use Rattle.ir_event.proofs.of_tree_laws.Contents.{map_type_of_value}
use Rattle.ir_event.specs.declared.world.World.{World}
use Rattle.ir_event.specs.Modules.{module_in}
use Rattle.ir_text.specs.Public.{IsOnly, IsNone}
use Rattle.ir_text.specs.Public.{free_term, free_bound, bound_term, value_named}
use Rattle.ir_text.specs.Public.{BoundTerm}
use Rattle.ir_text.specs.Public.{SpellsOp}
use Rattle.ir_event.proofs.Typed.{value_known}
use Rattle.rewriter.specs.Texts.{SpellsNextTo, free_in}

-- the types of a world's values are of its context
pub types_known : (w : World) (v : Value) → IfSome (type_of_value v w.store.module_of.tree) (λ n. IsType w.ctx n)
types_known w v = go (type_of_value v w.store.module_of.tree) refl
  where
    go : (o : Option ℕ) → type_of_value v w.store.module_of.tree ≡ o → IfSome o (λ n. IsType w.ctx n)
    go None e = tt
    go (Some n) e = value_known w v n e

-- the meaning of a free name, by ids of a context and by their meanings
free_named : (c : ContextModel) (t : Op) (o : Option Value) → option_map (bound_term c) (option_and_then (λ v. option_map (λ ty. record { value = v; ty = ty }) (type_of_value v t)) o)
    ≡ option_and_then (λ v. option_map (λ type. record { value = v; type = type }) (type_of_value v (meaning c t))) o
free_named c t None = refl
free_named c t (Some v) = go (type_of_value v t) ∙ ap (option_map (λ type. record { value = v; type = type })) (sym (map_type_of_value (name_term c) (type_term c) (attr_term c) v t))
  where
    go : (o : Option ℕ) → option_map (bound_term c) (option_map (λ ty. record { value = v; ty = ty }) o) ≡ option_map (λ type. record { value = v; type = type }) (option_map (type_term c) o)
    go None = refl
    go (Some n) = refl

pub free_same : (c : ContextModel) (t : Op) → free_term (λ v. type_of_value v t) c ≡ free_in (meaning c t)
unfolding free_bound
free_same c t = λ i name. free_named c t (value_named name) i

-- so the text of an operation means the same
pub spells_next_to : (w : World) (bytes : List ℕ) (o : Operation) → SpellsOp w.ctx.opaque (free_term (λ v. type_of_value v w.store.module_of.tree) w.ctx) w.store.module_of.next bytes o → SpellsNextTo w.ctx.opaque (module_in w) bytes o
spells_next_to w bytes o h = subst (λ free. SpellsOp w.ctx.opaque free w.store.module_of.next bytes o) (free_same w.ctx w.store.module_of.tree) h

pub none_next_to : (w : World) (bytes : List ℕ) → IsNone (SpellsOp w.ctx.opaque (free_term (λ v. type_of_value v w.store.module_of.tree) w.ctx) w.store.module_of.next bytes) → IsNone (SpellsNextTo w.ctx.opaque (module_in w) bytes)
none_next_to w bytes none o h = none o (subst (λ free. SpellsOp w.ctx.opaque free w.store.module_of.next bytes o) (sym (free_same w.ctx w.store.module_of.tree)) h)

-- the meaning of a tree has the ids of the tree
pub numbered_so : (c : ContextModel) (n : ℕ) (t : Op) → IsNumberedFrom n (meaning c t) → IsNumberedFrom n t
numbered_so c n t e = rw (map_ids (name_term c) (type_term c) (attr_term c) t) at e

module _ (w : World) (bytes : List ℕ) (d : ContextModel) where
  abbrev Rendered : Operation → Type 0
  Rendered = SpellsOp w.ctx.opaque (free_term (λ v. type_of_value v w.store.module_of.tree) w.ctx) w.store.module_of.next bytes

  pub ok_so : (r : Result Op ReadError) → IfOk r (λ t. IsOnly Rendered d t) → IfOk r (λ t. SpellsNextTo w.ctx.opaque (module_in w) bytes (meaning d t))
  ok_so (Ok t) h = spells_next_to w bytes (meaning d t) h.holds
  ok_so (Err e) h = tt

  pub ok_numbered : (r : Result Op ReadError) → IfOk r (λ t. IsOnly Rendered d t) → IfOk r (λ t. IsNumberedFrom w.store.module_of.next t)
  ok_numbered (Ok t) h = numbered_so d w.store.module_of.next t h.holds.numbered
  ok_numbered (Err e) h = tt
