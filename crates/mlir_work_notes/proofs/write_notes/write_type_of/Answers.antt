use Rattle.std.proofs.Common.{◌≡◌, ◌++◌, ◌∙◌, sym, ap, subst, append-nil, None, Some, option_map, Option}
use Rattle.ir_event.specs.Modules.{module_in}
use Rattle.ir_event.specs.types.Terms.{TypeTerm, type_term}
use Rattle.ir_event.specs.tree_laws.Values.{type_of_value}
use Rattle.ir_event.proofs.Typed.{value_known}
use Rattle.mlir_work_notes.specs.Notes.{AppendsNotes, spaced_notes, typed}
use Rattle.mlir_work_notes.proofs.Meant.{type_meant}
use Rattle.mlir_work_notes.proofs.write_notes.write_type_of.Goals as goal

pub write_quoted_type-requires : goal.write_quoted_type-requires
write_quoted_type-requires c = value_known c.args.world.now c.args.value.now c.in-Some.ty (sym c.in-Some.ensures)

pub returns-in-None : goal.returns-in-None
returns-in-None c =
    let w = c.args.world.now in
    let none : type_of_value c.args.value.now (module_in w).tree ≡ None = type_meant w.ctx w.store.module_of.tree c.args.value.now ∙ ap (option_map (type_term w.ctx)) (sym c.in-None.ensures) in
    sym (append-nil c.args.out.now.items) ∙ ap (λ (o : Option TypeTerm). c.args.out.now.items ++ spaced_notes (typed o)) (sym none)

pub returns-in-Some : goal.returns-in-Some
returns-in-Some c =
    let w = c.args.world.now in
    let there : type_of_value c.args.value.now (module_in w).tree ≡ Some (type_term w.ctx c.in-Some.ty) = type_meant w.ctx w.store.module_of.tree c.args.value.now ∙ ap (option_map (type_term w.ctx)) (sym c.in-Some.ensures) in
    subst (λ (o : Option TypeTerm). AppendsNotes c.write_quoted_type.result c.args.out.now.items c.write_quoted_type.new.out.items (typed o)) (sym there) c.write_quoted_type.ensures
