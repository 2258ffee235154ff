use Rattle.std.proofs.Common.{rules, ◌≡◌, ◌+◌, map, ap, ◌∙◌, ◌∷◌, []}
use Rattle.std.proofs.lemmas.List.{map-append}
use Rattle.ir_store_slots.specs.Rows.{shape_of}
use Rattle.ir_store_arena.specs.trees.View.{region_view}
use Rattle.ir_store_slots.specs.Grows.{parts_of}
use Rattle.ir_store_slots.specs.Emptied.{emptied_region}
use Rattle.ir_store_slots.proofs.Grown.{emptied_step}
use Rattle.ir_store_slots.proofs.Wide.{wide_then}
use Rattle.ir_store_slots.proofs.Blocks.{areas_step}
use Rattle.ir_store_slots.proofs.grow.add_areas.Goals as goal

pub regions-preserved : goal.regions-preserved
regions-preserved c =
    let i = c.regions.invariant in
    let p = parts_of c.args.slots.now c.args.sibs.now c.args.uses.now c.args.cells.now.items in
    let q = parts_of c.regions.slots c.regions.sibs c.regions.uses c.regions.cells.items in
    let r = parts_of c.add_area.new.slots c.add_area.new.sibs c.add_area.new.uses c.add_area.new.cells.items in
    let number : c.in-Some.number ≡ c.regions.number + 1 = search rules in
    let ey = ap (map shape_of) c.in-Ok-push.ensures.items ∙ map-append shape_of c.regions.areas.items (c.in-Ok.area ∷ []) in
    let steps = areas_step p q r c.requires i.0 c.in-Ok.ensures.wider c.args.owner (map shape_of c.regions.areas.items) (shape_of c.in-Ok.area) (map shape_of c.push.new.self.items) i.1.1.0 c.regions.number i.1.1.1 c.in-Ok.ensures.area.1 ey in (
      wide_then p q r i.0 c.in-Ok.ensures.wider,
      (
        emptied_step (map shape_of c.regions.areas.items) (map shape_of c.push.new.self.items) (shape_of c.in-Ok.area) c.regions.rest.now c.region-item.result (map emptied_region (map region_view c.args.regions.now)) c.region-item.is c.in-len1-up.len_at_least c.in-Ok.ensures.area.0 ey i.1.0,
        (steps.0, number ∙ steps.1),
      ),
    )
