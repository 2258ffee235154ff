-- The operation can be moved: `relink_reason` gives no reason.
use Rattle.std.proofs.Common.{◌≡◌, ℕ, true, None}
use Rattle.ir_store_reads.specs.types.declared.refusal.Refusal.TheVariants.{NoSuchOp, NoSuchIndex, IsRoot, IntoItself}
use Rattle.ir_store_reads.specs.trees.declared.place.Place.{Place}
use Rattle.ir_store_reads.specs.trees.Tree.{Op}
use Rattle.ir_store_reads.specs.trees.Ids.{has_id}
use Rattle.ir_store_reads.proofs.of_tree_laws.Listed.{both, not_false}
use Rattle.ir_store_reads.proofs.of_tree_laws.Reasoned.{no_unless}
use Rattle.ir_store.specs.Shifting.{CanRelink, relink_reason}

module _ (x : ℕ) (place : Place) (t : Op) (e : relink_reason x place t ≡ None) where
  pub parent_there : has_id place.parent t ≡ true
  parent_there = (both (has_id x t) (has_id place.parent t) (no_unless _ NoSuchOp _ e).0).1

  pub can_relink : CanRelink x place t
  can_relink =
      let a = no_unless _ NoSuchOp _ e in
      let b = no_unless _ IsRoot _ a.1 in
      let c = no_unless _ NoSuchIndex _ b.1 in
      let d = no_unless _ IntoItself None c.1 in
      record { there = (both (has_id x t) (has_id place.parent t) a.0).0; inner = not_false _ b.0; point = c.0; outside = not_false _ d.0 }
