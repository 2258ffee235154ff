use Rattle.std.proofs.Common.{refl, sym}
use Rattle.ir_event.specs.types.Terms.{attr_term, name_term, type_term}
use Rattle.ir_event.proofs.Typed.{value_known}
use Rattle.ir_event.proofs.of_tree_laws.Contents.{map_type_of_value}
use Rattle.mlir_work_transforms.proofs.why_types.kind_at.Goals as goal

pub kind_of-requires : goal.kind_of-requires
kind_of-requires c = value_known c.args.world.now c.args.value c.in-Some.ty (sym c.in-Some.ensures)

pub returns-in-Some : goal.returns-in-Some
returns-in-Some c =
    let w = c.args.world.now in
    rw (map_type_of_value (name_term w.ctx) (type_term w.ctx) (attr_term w.ctx) c.args.value w.store.module_of.tree, ← c.in-Some.ensures) c.kind_of.ensures

pub returns-in-None : goal.returns-in-None
returns-in-None c =
    let w = c.args.world.now in
    rw (map_type_of_value (name_term w.ctx) (type_term w.ctx) (attr_term w.ctx) c.args.value w.store.module_of.tree, ← c.in-None.ensures) refl
