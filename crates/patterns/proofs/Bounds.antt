-- The limits of a module, as read from a world.
use Rattle.std.proofs.Common.{◌≡◌, refl, ap, sym, ◌∙◌, ℕ, ◌+◌, ◌≤◌, ◌<◌, ◌-◌, ◌^◌, Bool, true, false, Some, None, arith, le-leb, length, min}
use Rattle.std.specs.Prelude.{nat_le}
use Rattle.std.proofs.lemmas.Bool.{leb-true, lt-leb}
use Rattle.ir_event.specs.types.Terms.{name_term, type_term, attr_term}
use Rattle.ir_event.specs.types.declared.refusal.Refusal.TheVariants.{Full, IdsExhausted}
use Rattle.ir_event.specs.trees.Ids.{op_count}
use Rattle.ir_event.specs.trees.Limits.{most_ops, most_next}
use Rattle.ir_event.proofs.of_trees.Mapped.{map_ids}
use Rattle.ir_event.specs.tree_laws.Reasons.{unless}
use Rattle.ir_event.specs.Modules.{module_in}
use Rattle.ir_event.specs.declared.world.World.{World}
use Rattle.patterns.specs.Applied.{limit_reason}

module _ (w : World) (k n s : ℕ) (count : n ≡ op_count w.store.module_of.tree) (sum : s ≡ min (n + k) (2 ^ 64 - 1)) where
  same_count : n ≡ op_count (module_in w).tree
  same_count = count ∙ sym (ap length (map_ids (name_term w.ctx) (type_term w.ctx) (attr_term w.ctx) w.store.module_of.tree))

  pub too_full : most_ops < s → Some Full ≡ limit_reason k (module_in w)
  too_full l =
      let above : nat_le (op_count (module_in w).tree + k) most_ops ≡ false = lt-leb (op_count (module_in w).tree + k) most_ops (omega (arith, l, sum, same_count)) in
      ap (λ b. unless b Full (unless (nat_le ((module_in w).next + k) most_next) IdsExhausted None)) (sym above)

  module _ (fits : s ≤ most_ops) (j i t : ℕ) (next : j ≡ w.store.module_of.next) (wide : i ≡ j) (total : t ≡ min (i + k) (2 ^ 64 - 1)) where
    few_ops : nat_le (op_count (module_in w).tree + k) most_ops ≡ true
    few_ops = le-leb (op_count (module_in w).tree + k) most_ops (omega (arith, fits, sum, same_count))

    pub too_long : most_next < t → Some IdsExhausted ≡ limit_reason k (module_in w)
    too_long l =
        let above : nat_le (w.store.module_of.next + k) most_next ≡ false = lt-leb (w.store.module_of.next + k) most_next (omega (arith, l, total, wide, next)) in
        λ i. unless (sym few_ops i) Full (unless (sym above i) IdsExhausted None)

    pub has_headroom : t ≤ most_next → None ≡ limit_reason k (module_in w)
    has_headroom l =
        let few : nat_le (w.store.module_of.next + k) most_next ≡ true = le-leb (w.store.module_of.next + k) most_next (omega (arith, l, total, wide, next)) in
        λ i. unless (sym few_ops i) Full (unless (sym few i) IdsExhausted None)
