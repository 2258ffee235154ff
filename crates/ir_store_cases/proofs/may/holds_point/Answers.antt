use Rattle.std.proofs.Common.{◌≡◌, refl, sym, ap, ◌∙◌, Some, None}
use Rattle.std.specs.Prelude.{slice_get, option_map, option_and_then}
use Rattle.std.proofs.lemmas.Option.{slice_get_past, slice_get_read}
use Rattle.ir_tree.specs.View.{region_view}
use Rattle.ir_tree_laws.specs.Reads.{ops_in}
use Rattle.ir_tree_laws.specs.Reasons.{is_in_list}
use Rattle.ir_store_cases.proofs.Points.{region_at_of}
use Rattle.ir_store_cases.proofs.may.holds_point.Goals as goal

pub returns : goal.returns
returns c =
    let at : slice_get c.deref.result.now c.args.number ≡ Some c.in-Some.region.now = slice_get_read c.deref.result.now _ c.args.number c.in-Some.region.now refl c.in-Some.ensures.lookup.3.0 c.in-Some.ensures.lookup.1 in
    let found : slice_get c.args.regions.now.items c.args.number ≡ Some c.in-Some.region.now = ap (λ z. slice_get z c.args.number) (sym c.deref.ensures.value) ∙ at in
    c.region_holds.ensures ∙ ap (λ z. is_in_list c.args.before (option_and_then ops_in z)) (sym (region_at_of region_view c.args.number c.args.regions.now.items ∙ ap (option_map region_view) found))

pub returns-in_default : goal.returns-in_default
returns-in_default c =
    let at : slice_get c.deref.result.now c.args.number ≡ None = slice_get_past c.deref.result.now c.args.number c.in_default.ensures.lookup.3 in
    let found : slice_get c.args.regions.now.items c.args.number ≡ None = ap (λ z. slice_get z c.args.number) (sym c.deref.ensures.value) ∙ at in
    ap (λ z. is_in_list c.args.before (option_and_then ops_in z)) (sym (region_at_of region_view c.args.number c.args.regions.now.items ∙ ap (option_map region_view) found))
