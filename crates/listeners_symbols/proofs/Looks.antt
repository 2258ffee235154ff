-- The number of looks at the event's operation.
use Rattle.std.proofs.Common.{◌≡◌, refl, ap, sym, ◌∙◌, ℕ, ◌+◌, ◌≤◌, true, length, Option, Some, None, arith}
use Rattle.std.specs.Prelude.{option_map}
use Rattle.std.specs.FinMap as finmap
use Rattle.ir_event.specs.types.Terms.{name_term, type_term, attr_term}
use Rattle.ir_event.specs.trees.Tree.{Op, op, head}
use Rattle.ir_event.specs.trees.Ids.{find, first_of}
use Rattle.ir_event.specs.trees.Meaning.{meaning, Operation}
use Rattle.ir_event.proofs.of_trees.Mapped.{map_find}
use Rattle.listeners_support.specs.Stored.{known}
use Rattle.ir_event.specs.declared.event.Event.{Event}
use Rattle.ir_event.specs.declared.event.Event.TheVariants.{Put, Take, SetOperand, SetEntry, Shift}
use Rattle.ir_event.specs.declared.world.World.{World}
use Rattle.ir_event.specs.Bounds.{op_of, operand_count, operands_of}
use Rattle.ir_event.specs.Listener.{is_take}
use Rattle.ir_event.specs.Modules.{Module, module_in}
use Rattle.ir_event.specs.Step.{Step}
use Rattle.listeners_symbols.proofs.Agreed.{op_there, found_there}

-- the number of operands in numbers and in contents is equal
counted : (w : World) (x : ℕ) (o : Operation) → find x (module_in w).tree ≡ Some o → operand_count (known x w.store) ≡ operand_count (find x (module_in w).tree)
counted w x o is = go (find x w.store.module_of.tree) refl (sym (map_find (name_term w.ctx) (type_term w.ctx) (attr_term w.ctx) x w.store.module_of.tree) ∙ is)
  where
    same : (p : Op) → length (head p).operands ≡ length (head (meaning w.ctx p)).operands
    same (op h rs) = refl

    go : (q : Option Op) → find x w.store.module_of.tree ≡ q → option_map (meaning w.ctx) q ≡ Some o → operand_count (known x w.store) ≡ operand_count (find x (module_in w).tree)
    go None e h = absurd cc
    go (Some p) e h =
        let one : meaning w.ctx p ≡ o = cc in
        ap (λ q. operand_count (first_of q (finmap.get w.store.held x))) e ∙ same p ∙ ap (λ (z : Operation). length (head z).operands) one ∙ sym (ap operand_count is)

pub within_most : (w : World) (e : Event) (m : Module) → Step w.ctx e m (module_in w) → (before after : ℕ) → after ≤ before + (2 + operand_count (known (op_of e) w.store)) → (is_take e ≡ true → after ≡ before)
    → after ≤ before + (2 + operands_of e m (module_in w))
within_most w (Take x place fresh) m s before after l t = let k = t refl in omega (arith, k)
within_most w (Put x place fresh) m s before after l t = let o = found_there x (module_in w).tree (op_there w.ctx (Put x place fresh) m (module_in w) s refl) in let k = counted w x o.0 o.1 in omega (arith, k, l)
within_most w (SetOperand x k old new) m s before after l t = let o = found_there x (module_in w).tree (op_there w.ctx (SetOperand x k old new) m (module_in w) s refl) in let k = counted w x o.0 o.1 in omega (arith, k, l)
within_most w (SetEntry x part key old new) m s before after l t = let o = found_there x (module_in w).tree (op_there w.ctx (SetEntry x part key old new) m (module_in w) s refl) in let k = counted w x o.0 o.1 in omega (arith, k, l)
within_most w (Shift x old new) m s before after l t = let o = found_there x (module_in w).tree (op_there w.ctx (Shift x old new) m (module_in w) s refl) in let k = counted w x o.0 o.1 in omega (arith, k, l)
